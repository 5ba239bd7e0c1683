-- What the contracts below the calls speak of, where document 01 has no sentence of its own: its rules as a walk meets them, head by head, and
-- what a call comes to once its numbers keep theirs. Definitions only.
use Rattle.std.specs.Prelude.{◌≡◌, ⊤, Result, Ok, Err, Option, Some, None, Bool, cond, List, [], ◌∷◌, ℕ, ◌+◌, ◌%◌, ◌≤◌, ◌<◌, leb, eqb, length, get_or}
use Rattle.rules.specs.declared.Addr.{Addr}
use Rattle.rules.specs.declared.Place.{Place}
use Rattle.rules.specs.declared.Hole.{Hole}
use Rattle.rules.specs.declared.Heap.{Heap}
use Rattle.rules.specs.declared.Write.{Write}
use Rattle.rules.specs.declared.Writes.{Writes}
use Rattle.rules.specs.declared.Decided.{Decided}
use Rattle.rules.specs.declared.Refusal.{Refusal}
use Rattle.rules.specs.declared.Refusal.TheVariants.{NotSound, BadSpan, PastArena, BadStretch}
use Rattle.rules.specs.Fixed.{min_size, grain, arena_limit, addr_limit}
use Rattle.rules.specs.Tests.{any}
use Rattle.rules.specs.Kinds.{plus, same, not_after, multiple_of, place_of, none}
use Rattle.rules.specs.Holes.{hole, end, put_head, first_of, put_heads}
use Rattle.rules.specs.Sound.{sound_holes}
use Rattle.rules.specs.Calls.{Outcome, refused, given, refitted, extended}
use Rattle.rules.specs.Refusals.{refusal8, refusal9, refusal10}
use Rattle.rules.specs.Outcome.{After}

-- ---- memory

-- every element is a byte; past the end get_or gives 0, which is one
abbrev pub Bytes : List ℕ → Type 0
Bytes m = (j : ℕ) → get_or m j 0 < 256

-- the place of the first hole, or q if there is none
abbrev pub first_or : Addr → List Hole → Place → Place
first_or base [] q = q
first_or base (k ∷ ks) q = place_of base k.addr

-- as put_heads, with the last head leading to q
unfoldable pub put_heads_to : Addr → List Hole → Place → List ℕ → List ℕ
put_heads_to base [] q m = m
put_heads_to base (k ∷ ks) q m =
    put_head (put_heads_to base ks q m) (place_of base k.addr) (record { size = k.size; next = first_or base ks q })

-- ---- heads that a call decides to write

-- a head written at its place, or none
unfoldable pub put : Option Write → List ℕ → List ℕ
put None m = m
put (Some w) m = put_head m w.at w.head

abbrev pub write : Place → ℕ → Place → Option Write
write at size next = Some (record { at = at; head = record { size = size; next = next } })

-- the one, then the other
unfoldable pub written : Writes → List ℕ → List ℕ
written ws m = put ws.two (put ws.one m)

-- a head at a place, where that is not none, lies in the arena
abbrev pub Inside : List ℕ → Place → Type 0
Inside m p = (p.0 ≡ none.0 → ⊥) → p.0 + min_size ≤ length m

-- so does a head that is to be written, if one is
abbrev pub Lands : List ℕ → Option Write → Type 0
Lands m None = ⊤
Lands m (Some w) = w.at.0 + min_size ≤ length m

-- writing these heads leaves that arena
pub record Leaves (m : List ℕ) (ws : Writes) (m' : List ℕ) : Type 0 where
  pub one : Lands m ws.one
  pub two : Lands m ws.two
  pub arena : written ws m ≡ m'

-- the list of holes becomes ks: its first place, and the heads to be written
pub record Relinks (base : Addr) (m : List ℕ) (ks : List Hole) (p : Place) (ws : Writes) : Type 0 where
  pub first : p ≡ first_of base ks
  pub heads : Leaves m ws (put_heads base ks m)

-- what is decided on the heap h and the arena m, carried out: a refused call leaves both as they are
unfoldable pub carried : Heap → List ℕ → Result Decided Refusal → After
carried h m (Ok d) = record { answer = Ok d.answer; heap = d.heap; arena = written d.heads m }
carried h m (Err r) = record { answer = Err r; heap = h; arena = m }

-- the heads that it writes, if any, lie in the arena
abbrev pub Writable : List ℕ → Result Decided Refusal → Type 0
Writable m (Ok d) = Lands m d.heads.one × Lands m d.heads.two
Writable m (Err r) = ⊤

-- a decision fulfils what the definition says
pub record Fulfils (a : After) (h : Heap) (m : List ℕ) (d : Result Decided Refusal) : Type 0 where
  pub heads : Writable m d
  pub is : carried h m d ≡ a

-- ---- the rules, as a walk meets them

-- what the leaves ask of a heap's numbers: wherever bottom lies behind base, and however long the arena is
pub record Fair (h : Heap) : Type 0 where
  pub base : 1 ≤ h.base.0
  pub low : h.base.0 + h.len ≤ addr_limit
  pub bottom : h.base.0 ≤ h.bottom.0
  pub bottom8 : h.bottom.0 % grain ≡ 0
  pub top8 : h.top.0 % grain ≡ 0
  pub room : h.bottom.0 + min_size ≤ h.top.0
  pub fits : h.top.0 + h.pending ≤ h.base.0 + h.len

-- all of the rules on the numbers, as numbers
pub record Ruled (h : Heap) : Type 0 where
  pub fair : Fair h
  pub small : h.len ≤ arena_limit
  pub near : h.bottom.0 < h.base.0 + grain
  pub pending : h.pending ≤ 15

-- numbers that keep their rules, and an arena of the length that they say
pub record Lent (h : Heap) (m : List ℕ) : Type 0 where
  pub fair : Fair h
  pub lent : length m ≡ h.len

-- what a head must show behind a floor
abbrev pub head_rules : Heap → Addr → Hole → List Bool
head_rules h floor k =
    not_after floor k.addr
    ∷ multiple_of grain k.addr
    ∷ eqb (k.size % grain) 0
    ∷ leb min_size k.size
    ∷ not_after (end k) h.top
    ∷ []

-- the floor behind a hole
abbrev pub behind : Hole → Addr
behind k = plus (end k) min_size

-- behind the last hole 0 or at least 16 bytes are left
unfoldable pub ends : Heap → Addr → Bool
ends h floor = any (not_after floor h.top ∷ same floor (plus h.top min_size) ∷ [])

-- the holes rise from lo to hi, each with room for its head, none overlapping the next
abbrev pub Rises : ℕ → ℕ → List Hole → Type 0
Rises lo hi [] = lo ≤ hi
Rises lo hi (k ∷ ks) = (lo ≤ k.addr.0) × (min_size ≤ k.size) × Rises (k.addr.0 + k.size) hi ks

-- the end of the last hole, or lo if there is none
abbrev pub end_or : ℕ → List Hole → ℕ
end_or lo [] = lo
end_or lo (k ∷ ks) = end_or (k.addr.0 + k.size) ks

-- ---- what a call comes to, once its numbers keep their rules

-- an outcome, unless the holes break a rule
unfoldable pub sifted : Heap → List Hole → Outcome → Outcome
sifted h ks o = cond (sound_holes h ks) o (refused NotSound)

-- a free on sound holes
unfoldable pub freeing : ℕ → Addr → ℕ → Heap → List Hole → Outcome
freeing s a align h ks = cond (any (refusal8 h ks (hole a s) align)) (refused BadSpan) (given s a h ks)

-- a resize on sound holes
unfoldable pub resizing : ℕ → Addr → ℕ → ℕ → Heap → List Hole → Outcome
resizing s a align n h ks =
    cond (any (refusal8 h ks (hole a s) align))
    (refused BadSpan)
    (cond (any (refusal10 ks (hole a s) n)) (refused BadStretch) (refitted (hole a s) n h ks))

-- an extension on sound holes
unfoldable pub extending : ℕ → Heap → List Hole → Outcome
extending by h ks = cond (any (refusal9 by h)) (refused PastArena) (extended by h ks)
