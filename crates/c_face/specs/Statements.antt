-- What a C caller is promised, in its own words: of the seven words and of the two of the answer by index, and of every byte. What is said
-- of a call is said of whatever meets its contract (`Shows`, `Tells`, `Lists`). Definitions only.
use Rattle.std.specs.Prelude.{◌≡◌, ◌⊎◌, ℕ, ◌+◌, ◌-◌, ◌≤◌, ◌<◌, min, length, get_or}
use mathlib.Core.List.{List, [], ◌∷◌, ◌++◌, Memᴰ}
use Rattle.rules.specs.declared.Hole.{Hole}
use Rattle.rules.specs.declared.Heap.{Heap}
use Rattle.rules.specs.Kinds.{addr}
use Rattle.rules.specs.Holes.{hole}
use Rattle.rules.specs.Round.{Below}
use Rattle.rules.specs.InWords.{Sound, end_of, Hold, Rounds, Lies, RoomAt, Within, Vacant, Left}
use Rattle.rules.specs.Changes.{Report}
use Rattle.rules.specs.Calls.{Call, opening, report, allocate, free, resize, extend}
use Rattle.rules.specs.Outcome.{after, Rows}
use Rattle.rules.specs.Runs.{Fits}
use Rattle.rules.specs.Statements.{piece, RowAt}
use Rattle.c_face.specs.Face.{heap_of, words_of, Tells, Shows, Lists}

-- ---- which word is which: base, arena length, bottom, top, first, pending, used

pub record Names (ws : List ℕ) (h : Heap) : Type 0 where
  pub base : h.base.0 ≡ get_or ws 0 0
  pub len : h.len ≡ get_or ws 1 0
  pub bottom : h.bottom.0 ≡ get_or ws 2 0
  pub top : h.top.0 ≡ get_or ws 3 0
  pub first : h.first.0 ≡ get_or ws 4 0
  pub pending : h.pending ≡ get_or ws 5 0
  pub used : h.used ≡ get_or ws 6 0

-- the words lent are read so
abbrev pub WordsName : Type 0
WordsName = (ws : List ℕ) → Names ws (heap_of ws)

-- and those left are stored so, seven of them
abbrev pub HeapNamed : Type 0
HeapNamed = (h : Heap) → Names (words_of h) h × (length (words_of h) ≡ 7)

-- seven words made a heap and back are the same words
abbrev pub WordsReturn : Type 0
WordsReturn = (ws : List ℕ) → length ws ≡ 7 → words_of (heap_of ws) ≡ ws

-- and a heap made words and back is the same heap
abbrev pub HeapReturns : Type 0
HeapReturns = (h : Heap) → heap_of (words_of h) ≡ h

-- ---- a call, as its caller sees it

pub record Seen : Type 0 where
  -- the heap's words and the arena that are lent
  pub words : List ℕ
  pub bytes : List ℕ
  -- the result, and what stands there then
  pub number : ℕ
  pub words_after : List ℕ
  pub bytes_after : List ℕ
  pub answer : List ℕ

-- a word of the heap before the call and after it, and a word of the answer
abbrev pub was : Seen → ℕ → ℕ
was s i = get_or s.words i 0

abbrev pub is : Seen → ℕ → ℕ
is s i = get_or s.words_after i 0

abbrev pub said : Seen → ℕ → ℕ
said s i = get_or s.answer i 0

-- seven words and 64-bit numbers went in, and the call's contract is met
pub record Meets (c : Call) (s : Seen) : Type 0 where
  pub fits : Fits c
  pub seven : length s.words ≡ 7
  pub shows : Shows (after c (heap_of s.words) s.bytes) s.number s.words_after s.answer s.bytes_after

-- ---- a refused call: nothing is changed, and the answer has zeros but for the count of 7

pub record Zeros (number : ℕ) (answer : List ℕ) : Type 0 where
  pub one : get_or answer 0 0 ≡ 0
  pub two : (number ≡ 7 → ⊥) → get_or answer 1 0 ≡ 0

pub record Nothing (s : Seen) : Type 0 where
  pub words : s.words_after ≡ s.words
  pub bytes : s.bytes_after ≡ s.bytes
  pub zeros : Zeros s.number s.answer

abbrev pub RefusedLeaves : Type 0
RefusedLeaves = (c : Call) (s : Seen) → Meets c s → (s.number ≡ 0 → ⊥) → Nothing s

-- a report, whose heap and arena are not lent for change
abbrev pub RefusedTells : Type 0
RefusedTells =
    (x : Report) (ws m : List ℕ) (number : ℕ) (answer : List ℕ) → Tells (after (report x) (heap_of ws) m).answer number answer
    → (number ≡ 0 → ⊥) → Zeros number answer

-- and the list's rows
abbrev pub RefusedRows : Type 0
RefusedRows =
    (ws m : List ℕ) (before left : Rows) (number : ℕ) (answer : List ℕ) → Lists (heap_of ws) m before number answer left
    → (number ≡ 0 → ⊥) → left ≡ before

-- ---- an accepted call, whose number is 0

-- the bytes hold these holes, from the place in word 4 on, and are those of a sound heap
pub record Holds (ws bytes : List ℕ) (ks : List Hole) : Type 0 where
  pub heads : Hold (get_or ws 0 0) bytes (get_or ws 4 0) ks
  pub sound : (h : Heap) → Names ws h → Sound h ks

-- the heads hold the holes that are left, and every byte in none of them is what it was
pub record Leaves (s : Seen) (ks : List Hole) : Type 0 where
  pub holds : Holds s.words_after s.bytes_after ks
  pub long : length s.bytes_after ≡ length s.bytes
  pub others :
      (i : ℕ) → ((k : Hole) → Memᴰ k ks → Within (k.addr.0 - is s 0) 16 i → ⊥) → get_or s.bytes_after i 0 ≡ get_or s.bytes i 0

-- the words of these indices stay
abbrev pub Stay : Seen → List ℕ → Type 0
Stay s [] = Unit {0}
Stay s (i ∷ at) = (is s i ≡ was s i) × Stay s at

-- words 0 and 1 are the base and the arena's length, word 2 is the base rounded up to 8. What is left of the named size, rounded down to 8,
-- lies from there up to word 3 as one hole; the rest of the named bytes is word 5. Nothing is used. Told: bottom and size
pub record Opens (base named : ℕ) (s : Seen) : Type 0 where
  pub unopened : was s 2 ≡ 0
  pub zero : is s 0 ≡ base
  pub one : is s 1 ≡ length s.bytes
  pub two : is s 2 ≡ said s 0
  pub left : Left base named (said s 0) (said s 1)
  pub three : is s 3 ≡ said s 0 + said s 1
  pub four : base + is s 4 ≡ said s 0
  pub five : is s 3 + is s 5 ≡ base + named
  pub six : is s 6 ≡ 0
  pub leaves : Leaves s (hole (addr (said s 0)) (said s 1) ∷ [])

abbrev pub OpenLeaves : Type 0
OpenLeaves = (base named : ℕ) (s : Seen) → Meets (opening (addr base) named) s → s.number ≡ 0 → Opens base named s

-- word 6 grows by the rounded size. Told: the lowest address with room for it, and the used hole's place in the list. The used hole is split
pub record Allocates (size align : ℕ) (s : Seen) : Type 0 where
  pub front : List Hole
  pub used : Hole
  pub back : List Hole
  pub held : Holds s.words s.bytes (front ++ (used ∷ back))
  pub rounded : ℕ
  pub rounds : Rounds size rounded
  pub stay : Stay s (0 ∷ 1 ∷ 2 ∷ 3 ∷ 5 ∷ [])
  pub six : is s 6 ≡ was s 6 + rounded
  pub lies : Lies rounded align used (said s 0)
  pub lowest : (x : ℕ) → RoomAt rounded align (front ++ (used ∷ back)) x → said s 0 ≤ x
  pub count : said s 1 ≡ length front + 1
  pub leaves : Leaves s (front ++ (piece used.addr.0 (said s 0) ++ (piece (said s 0 + rounded) (end_of used) ++ back)))

abbrev pub AllocateLeaves : Type 0
AllocateLeaves = (size align : ℕ) (s : Seen) → Meets (allocate size align) s → s.number ≡ 0 → Allocates size align s

-- word 6 falls by the rounded size. Told: the rounded size and word 6
pub record Frees (x size : ℕ) (s : Seen) : Type 0 where
  pub before : List Hole
  pub held : Holds s.words s.bytes before
  pub after : List Hole
  pub leaves : Leaves s after
  pub stay : Stay s (0 ∷ 1 ∷ 2 ∷ 3 ∷ 5 ∷ [])
  pub rounds : Rounds size (said s 0)
  pub six : is s 6 + said s 0 ≡ was s 6
  pub used : said s 1 ≡ is s 6
  -- what is free then is what was, and the span
  pub free : (y : ℕ) → Vacant after y → Vacant before y ⊎ Within x (said s 0) y
  pub stays : (y : ℕ) → Vacant before y ⊎ Within x (said s 0) y → Vacant after y

abbrev pub FreeLeaves : Type 0
FreeLeaves = (x size align : ℕ) (s : Seen) → Meets (free (addr x) size align) s → s.number ≡ 0 → Frees x size s

-- word 6 falls by the old rounded size and grows by the new. Told: the new rounded size and word 6
pub record Resizes (x size new : ℕ) (s : Seen) : Type 0 where
  pub before : List Hole
  pub held : Holds s.words s.bytes before
  pub after : List Hole
  pub leaves : Leaves s after
  pub stay : Stay s (0 ∷ 1 ∷ 2 ∷ 3 ∷ 5 ∷ [])
  pub old : ℕ
  pub rounded : Rounds size old
  pub rounds : Rounds new (said s 0)
  pub six : is s 6 + old ≡ was s 6 + said s 0
  pub used : said s 1 ≡ is s 6
  -- what is free then is what was and the old block, less the new one
  pub free : (y : ℕ) → Vacant after y → (Vacant before y ⊎ Within x old y) × (Within x (said s 0) y → ⊥)
  pub stays : (y : ℕ) → Vacant before y ⊎ Within x old y → (Within x (said s 0) y → ⊥) → Vacant after y

abbrev pub ResizeLeaves : Type 0
ResizeLeaves =
    (x size align new : ℕ) (s : Seen) → Meets (resize (addr x) size align new) s → s.number ≡ 0 → Resizes x size new s

-- words 3 and 5 rise together by what is given, and end in the arena. Pending and given bytes together below 16 leave words 3 and 4; from 16
-- on word 3 rises by them, rounded down to 8. Told: size and pending
pub record Extends (by : ℕ) (s : Seen) : Type 0 where
  pub before : List Hole
  pub held : Holds s.words s.bytes before
  pub after : List Hole
  pub leaves : Leaves s after
  pub stay : Stay s (0 ∷ 1 ∷ 2 ∷ 6 ∷ [])
  pub all : is s 3 + is s 5 ≡ was s 3 + was s 5 + by
  pub inside : is s 3 + is s 5 ≤ is s 0 + is s 1
  pub below : was s 5 + by < 16 → Stay s (3 ∷ 4 ∷ [])
  pub from : 16 ≤ was s 5 + by → Below 8 (was s 5 + by) (is s 3 - was s 3)
  pub size : said s 0 ≡ is s 3 - is s 2
  pub pending : said s 1 ≡ is s 5
  -- what is free then is what was, and what top has risen by
  pub free : (y : ℕ) → Vacant after y → Vacant before y ⊎ ((was s 3 ≤ y) × (y < is s 3))
  pub stays : (y : ℕ) → Vacant before y ⊎ ((was s 3 ≤ y) × (y < is s 3)) → Vacant after y

abbrev pub ExtendLeaves : Type 0
ExtendLeaves = (by : ℕ) (s : Seen) → Meets (extend by) s → s.number ≡ 0 → Extends by s

-- the list tells how many holes there are and the free bytes, and puts their addresses and sizes into the rows, as many as the shorter holds
pub record Fills (ws m : List ℕ) (before left : Rows) (answer : List ℕ) : Type 0 where
  pub holes : List Hole
  pub held : Holds ws m holes
  pub count : get_or answer 0 0 ≡ length holes
  pub bytes : get_or answer 1 0 + get_or ws 6 0 ≡ get_or ws 3 0 - get_or ws 2 0
  pub addrs : RowAt (λ k. k.addr.0) holes (min (length before.addrs) (length before.sizes)) before.addrs left.addrs
  pub sizes : RowAt (λ k. k.size) holes (min (length before.addrs) (length before.sizes)) before.sizes left.sizes

abbrev pub ListLeaves : Type 0
ListLeaves =
    (ws m : List ℕ) (before left : Rows) (number : ℕ) (answer : List ℕ) → Lists (heap_of ws) m before number answer left
    → number ≡ 0 → Fills ws m before left answer

-- ---- all that is said to the caller

pub record Statements : Type 0 where
  pub words_name : WordsName
  pub heap_named : HeapNamed
  pub words_return : WordsReturn
  pub heap_returns : HeapReturns
  pub refused_leaves : RefusedLeaves
  pub refused_tells : RefusedTells
  pub refused_rows : RefusedRows
  pub open_leaves : OpenLeaves
  pub allocate_leaves : AllocateLeaves
  pub free_leaves : FreeLeaves
  pub resize_leaves : ResizeLeaves
  pub extend_leaves : ExtendLeaves
  pub list_leaves : ListLeaves
