-- What a walk over the heads finds: a step by the bytes at a place, and a walk by the list of holes. There is one walk; the searches and the
-- walk to the end differ by the holes that stop it, and by what they answer where it comes to. Definitions only.
use Rattle.std.specs.Prelude.{⊤, Result, Ok, Err, Option, Some, None, Bool, true, false, cond, List, [], ◌∷◌, ◌++◌, ℕ, ◌+◌, ◌*◌, ◌<◌, eqb, length}
use Rattle.rules.specs.Fixed.{min_size}
use Rattle.rules.specs.Tests.{all}
use Rattle.rules.specs.Kinds.{addr_of, place_of, none, is_none, plus, before}
use Rattle.rules.specs.Holes.{hole, head_at, first_of, total}
use Rattle.rules.specs.Sound.{size}
use Rattle.rules.specs.Allocate.{suits}
use Rattle.rules.specs.declared.Addr.{Addr}
use Rattle.rules.specs.declared.Place.{Place}
use Rattle.rules.specs.declared.Hole.{Hole}
use Rattle.rules.specs.declared.Heap.{Heap}
use Rattle.rules.specs.declared.Refusal.{Refusal}
use Rattle.rules.specs.declared.Refusal.TheVariants.{NotSound, NoRoom}
use Rattle.rules.specs.Inner.{head_rules, behind, ends}
use Rattle.walk.specs.declared.Cursor.{Cursor}
use Rattle.walk.specs.declared.Near.{Near}
use Rattle.walk.specs.declared.Fit.{Fit}
use Rattle.walk.specs.declared.Search.{Search}
use Rattle.walk.specs.declared.Search.TheVariants.{At, Nowhere}
use Rattle.walk.specs.declared.Step.{Step}

-- ---- one step

-- the floor of the first head: bottom if it lies there, else 16 bytes on
unfoldable pub start_of : Heap → Addr
start_of h = cond (eqb h.first.0 (place_of h.base h.bottom).0) h.bottom (plus h.bottom min_size)

-- what a step finds: a hole and the place of the next head, or no further hole; or 5, for a broken rule
abbrev pub Stepped : Type 0
Stepped = Result (Option Step) Refusal

abbrev pub found_at : Hole → Place → Stepped
found_at k next = Ok (Some (record { hole = k; next = next }))

-- no further head
unfoldable pub last_of : Heap → Addr → Stepped
last_of h floor = cond (ends h floor) (Ok None) (Err NotSound)

-- a hole, and the place of the next head
unfoldable pub head_of : Heap → Addr → Hole → Place → Stepped
head_of h floor k next = cond (all (head_rules h floor k)) (found_at k next) (Err NotSound)

unfoldable pub step_of : Heap → List ℕ → Place → Addr → Stepped
step_of h m at floor =
    cond (is_none at) (last_of h floor)
    (head_of h floor (hole (addr_of h.base at) (head_at m at).size) (head_at m at).next)

-- so many heads are more than lie behind a floor
abbrev pub Enough : Heap → Addr → ℕ → Type 0
Enough h floor n = h.top.0 + min_size < floor.0 + (2 * min_size) * n

-- ---- the walk

-- where it comes to: a hole that stops it, between those passed and those behind it; the end, with all of them passed; a broken rule
pub data Stop : Type 0 where
  stopped : List Hole → Hole → List Hole → Stop
  ended : List Hole → Stop
  broken : Stop

-- the same, with more holes passed in front
unfoldable pub past : List Hole → Stop → Stop
past front (stopped js k back) = stopped (front ++ js) k back
past front (ended js) = ended (front ++ js)
past front broken = broken

-- every head that it passes, and the one that stops it, shows what it must behind the floor
unfoldable pub walked : (Hole → Bool) → Heap → Addr → List Hole → Stop
walked stops h floor [] = cond (ends h floor) (ended []) broken
walked stops h floor (k ∷ ks) =
    cond (all (head_rules h floor k))
    (cond (stops k) (stopped [] k ks) (past (k ∷ []) (walked stops h (behind k) ks)))
    broken

-- ---- what it has passed

-- the place of the last of the holes passed, where the walk came from p
unfoldable pub last_place : Addr → Place → List Hole → Place
last_place base p [] = p
last_place base p (k ∷ ks) = last_place base (place_of base k.addr) ks

-- the floor behind them, where the walk started with f
unfoldable pub last_floor : Addr → List Hole → Addr
last_floor f [] = f
last_floor f (k ∷ ks) = last_floor (behind k) ks

abbrev pub cursor_at : Place → Place → Cursor
cursor_at prev at = record { prev = prev; hole = at }

-- ---- the sum of the sizes

-- it is size − used: all that is free
abbrev pub all_free : Heap → ℕ → Bool
all_free h sum = eqb (sum + h.used) (size h)

-- a rule that is kept lets a call go on; one that is broken is 5
unfoldable pub or_5 : Bool → Result ⊤ Refusal
or_5 true = Ok tt
or_5 false = Err NotSound

-- ---- to the hole that an allocation uses: the first that suits stops it

-- it lies between the holes passed and those behind it
abbrev pub fit_to : Addr → List Hole → Hole → List Hole → Fit
fit_to base front k back =
    record {
      cursor = cursor_at (last_place base none front) (place_of base k.addr);
      hole = k;
      next = first_of base back;
      count = length front + 1;
      total = total front + k.size;
    }

unfoldable pub searched_by : Addr → Stop → Result Search Refusal
searched_by base (stopped front k back) = Ok (At (fit_to base front k back))
searched_by base (ended ks) = Ok (Nowhere (length ks) (total ks))
searched_by base broken = Err NotSound

unfoldable pub searched_of : Heap → ℕ → ℕ → List Hole → Result Search Refusal
searched_of h want align ks = searched_by h.base (walked (suits want align) h (start_of h) ks)

-- where none does, an allocation is refused: 7, with the number of holes, if the sizes add up; else 5
unfoldable pub no_fit : Heap → List Hole → Refusal
no_fit h ks = cond (all_free h (total ks)) (NoRoom (length ks)) NotSound

unfoldable pub search_by : Heap → Stop → Result Fit Refusal
search_by h (stopped front k back) = Ok (fit_to h.base front k back)
search_by h (ended ks) = Err (no_fit h ks)
search_by h broken = Err NotSound

unfoldable pub search_of : Heap → ℕ → ℕ → List Hole → Result Fit Refusal
search_of h want align ks = search_by h (walked (suits want align) h (start_of h) ks)

-- ---- to the neighbours of an address: the first hole beyond it stops the walk

abbrev pub is_beyond : Addr → Hole → Bool
is_beyond x k = before x k.addr

-- between the holes passed and those that are left
abbrev pub near_to : Heap → List Hole → List Hole → Near
near_to h front back =
    record {
      cursor = cursor_at (last_place h.base none front) (first_of h.base back);
      floor = last_floor (start_of h) front;
      total = total front;
    }

unfoldable pub near_by : Heap → Stop → Result Near Refusal
near_by h (stopped front k back) = Ok (near_to h front (k ∷ back))
near_by h (ended ks) = Ok (near_to h ks [])
near_by h broken = Err NotSound

unfoldable pub near_of : Heap → Addr → List Hole → Result Near Refusal
near_of h x ks = near_by h (walked (is_beyond x) h (start_of h) ks)

-- ---- to the end: no hole stops it

abbrev pub never : Hole → Bool
never k = false

-- with the sum of the sizes before
unfoldable pub walked_by : ℕ → Stop → Result ℕ Refusal
walked_by sum (stopped front k back) = Err NotSound
walked_by sum (ended ks) = Ok (sum + total ks)
walked_by sum broken = Err NotSound

unfoldable pub walked_of : Heap → Addr → ℕ → List Hole → Result ℕ Refusal
walked_of h floor sum ks = walked_by sum (walked never h floor ks)

-- such a walk kept every rule, and the sum of the sizes is size − used
unfoldable pub adds_up : Heap → Result ℕ Refusal → Bool
adds_up h (Ok sum) = all_free h sum
adds_up h (Err r) = false
