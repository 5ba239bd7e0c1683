-- That the premises of the demands can be met: the runs, heaps and requests that they speak of exist, so none of them holds emptily. The
-- proof is proofs/Premises.antt.
use Rattle.std.specs.Prelude.{◌≡◌, Result, Ok, Err, false, cond, ℕ, suc, ◌+◌, ◌-◌, ◌≤◌, ◌<◌, eqb, length, get_or}
use mathlib.Core.List.{List, [], ◌∷◌, ◌++◌, Memᴰ}
use Rattle.rules.specs.declared.Addr.{Addr}
use Rattle.rules.specs.declared.Heap.{Heap}
use Rattle.rules.specs.declared.Refusal.{Refusal}
use Rattle.rules.specs.declared.Refusal.TheVariants.{BadOpening, AlreadyOpened, Unopened, OtherLength, BadLayout, NoRoom, BadSpan, PastArena, BadStretch}
use Rattle.rules.specs.declared.Answer.{Answer}
use Rattle.rules.specs.declared.Answer.TheVariants.{Opened, Allocated, Freed, Resized, Extended, Listed, Room}
use Rattle.rules.specs.Tests.{any}
use Rattle.rules.specs.Round.{Below}
use Rattle.rules.specs.Kinds.{addr}
use Rattle.rules.specs.Holes.{hole}
use Rattle.rules.specs.Sound.{unopened, holes}
use Rattle.rules.specs.Calls.{Call, opening, allocate, free, resize, extend, list, room}
use Rattle.rules.specs.Refusals.{refusal8}
use Rattle.rules.specs.Outcome.{after, Rows, rows}
use Rattle.rules.specs.InWords.{SoundNumbers, Sound, Valid, RoomAt, Left, NoStart, NoSpan, NoStretch}
use Rattle.rules.specs.Runs.{Reader, Ask, calls, reads, AllFit, Told, answers, says, Kept, Run, end, own, other, asked, Block, block, start, ends, Honest}
use Rattle.rules.specs.Behaviour.{ours, Good}
use Rattle.rules.specs.Statements.{SameAsks}

-- ---- a story: what is asked of a box of 96 bytes at 0x1001, and what it tells

-- a call that is lent n bytes and no rows
abbrev pub lent : ℕ → Call → Ask
lent n c = calls c (rows [] []) n

-- what it is told
abbrev pub reply : Result Answer Refusal → Told
reply a = answers a (rows [] [])

-- with these rows for its list
abbrev pub story : Rows → List Ask
story r =
    -- a list before the opening; an opening at 0; the opening, 7 bytes behind base; a second one
    lent 96 list
    ∷ lent 96 (opening (addr 0) 74)
    ∷ lent 96 (opening (addr 0x1001) 74)
    ∷ lent 96 (opening (addr 0x1001) 74)
    -- two grants, and two frees: the second joins a hole on either side
    ∷ lent 96 (allocate 16 8)
    ∷ lent 96 (allocate 20 8)
    ∷ lent 96 (free (addr 0x1008) 16 8)
    ∷ lent 96 (free (addr 0x1018) 20 8)
    -- a grant in the middle of a hole; the block grows by all of the hole behind it, and shrinks again; 8 bytes would stay of that hole
    ∷ lent 96 (allocate 16 16)
    ∷ lent 96 (resize (addr 0x1020) 16 16 40)
    ∷ lent 96 (resize (addr 0x1020) 40 16 16)
    ∷ lent 96 (resize (addr 0x1020) 16 16 32)
    -- no room; no power of two; no multiple of 8
    ∷ lent 96 (allocate 64 8)
    ∷ lent 96 (allocate 8 3)
    ∷ lent 96 (free (addr 0x1024) 16 8)
    -- bytes that gather; bytes that make the heap grow; bytes past the arena
    ∷ lent 96 (extend 4)
    ∷ lent 96 (extend 10)
    ∷ lent 96 (extend 9)
    -- shorter and longer memory
    ∷ lent 95 list
    ∷ lent 97 (room 8)
    -- the reports, and a reader
    ∷ calls list r 96
    ∷ lent 96 (room 32)
    ∷ reads Reader.top
    ∷ []

-- with those rows then
abbrev pub replies : Rows → List Told
replies r =
    reply (Err Unopened)
    ∷ reply (Err BadOpening)
    ∷ reply (Ok (Opened (addr 0x1008) 64))
    ∷ reply (Err AlreadyOpened)
    ∷ reply (Ok (Allocated (addr 0x1008) 1))
    ∷ reply (Ok (Allocated (addr 0x1018) 1))
    ∷ reply (Ok (Freed 16 24))
    ∷ reply (Ok (Freed 24 0))
    ∷ reply (Ok (Allocated (addr 0x1020) 1))
    ∷ reply (Ok (Resized 40 40))
    ∷ reply (Ok (Resized 16 16))
    ∷ reply (Err BadStretch)
    ∷ reply (Err (NoRoom 2))
    ∷ reply (Err BadLayout)
    ∷ reply (Err BadSpan)
    ∷ reply (Ok (Extended 64 7))
    ∷ reply (Ok (Extended 80 1))
    ∷ reply (Err PastArena)
    ∷ reply (Err OtherLength)
    ∷ reply (Err OtherLength)
    ∷ answers (Ok (Listed 2 64)) r
    ∷ reply (Ok (Room 24 2))
    ∷ says 0x1059
    ∷ []

-- the rows that the one box is lent, and the other: of other numbers, and more or fewer of them
abbrev pub rows_one : Rows
rows_one = rows (1 ∷ 2 ∷ 3 ∷ []) (4 ∷ 5 ∷ 6 ∷ 7 ∷ [])

abbrev pub rows_two : Rows
rows_two = rows (8 ∷ 9 ∷ 10 ∷ 11 ∷ []) (12 ∷ [])

-- and as they are then: the second holds no more than one size, so it gets one address too
abbrev pub then_one : Rows
then_one = rows (0x1008 ∷ 0x1030 ∷ 3 ∷ []) (24 ∷ 40 ∷ 6 ∷ 7 ∷ [])

abbrev pub then_two : Rows
then_two = rows (0x1008 ∷ 9 ∷ 10 ∷ 11 ∷ []) (24 ∷ [])

-- the block that is held at its end
abbrev pub granted : Block
granted = block (addr 0x1020) 16 16

-- in how many bytes two memories differ
unfoldable pub unlike : List ℕ → List ℕ → ℕ
unlike [] w = 0
unlike (x ∷ m) [] = 0
unlike (x ∷ m) (y ∷ w) = cond (eqb x y) (unlike m w) (suc (unlike m w))

-- how many bytes others wrote before each call on the box's own arena
unfoldable pub writes :
    {asks : List Ask} {h : Heap} {m : List ℕ} {ts : List Told} {h' : Heap} {m' : List ℕ} → Run asks h m ts h' m' → List ℕ
writes end = []
writes (own {m = m} w kept long run) = unlike m w ∷ writes run
writes (other w opened differs long run) = writes run
writes (asked run) = writes run

-- all that they may write in the story: every byte while there is no hole, then every byte outside one head or two
abbrev pub restless : List ℕ
restless =
    96 ∷ 96 ∷ 96 ∷ 80 ∷ 80 ∷ 80 ∷ 80 ∷ 64 ∷ 80 ∷ 64 ∷ 80 ∷ 64 ∷ 64 ∷ 64 ∷ 64 ∷ 64 ∷ 64 ∷ 64 ∷ 64 ∷ 64 ∷ []

-- two boxes of which the story is true
pub record Boxes : Type 0 where
  -- the memories at the start, and at the end
  pub one : List ℕ
  pub two : List ℕ
  pub one' : List ℕ
  pub two' : List ℕ
  -- the heap at the end
  pub heap : Heap
  -- to the same asks, but for the rows, both give the same replies
  pub asked : SameAsks (story rows_one) (story rows_two)
  pub run_one : Run (story rows_one) unopened one (replies then_one) heap one'
  pub run_two : Run (story rows_two) unopened two (replies then_two) heap two'
  -- the memories differ at the start in every byte, at the end in every byte outside the two heads
  pub apart : (i : ℕ) → i < 96 → get_or one i 0 ≡ get_or two i 0 → ⊥
  pub apart' : unlike one' two' ≡ 64
  -- and before each call others write in both all that they may
  pub writes_one : writes run_one ≡ restless
  pub writes_two : writes run_two ≡ restless
  -- every number is below 2^64
  pub fits : AllFit (story rows_one)
  -- every accepted free or resize names a block then held
  pub honest : Honest (story rows_one) start
  -- at the end one block is held
  pub held : (ends (story rows_one) start).held ≡ granted ∷ []
  -- more is written, outside the heads
  pub written : List ℕ
  pub kept : Kept heap one' written
  pub writes_more : unlike one' written ≡ 64
  -- one more call writes: the head of what remains of a hole, and a byte of the head that leads there
  pub writes_head : unlike written (after (allocate 16 8) heap written).arena ≡ 17
  -- it is honest too, and the block is held before and after it
  pub honest_more : Honest (story rows_one ++ (lent (length written) (allocate 16 8) ∷ [])) start
  pub held_before : Memᴰ granted (ends (story rows_one) start).held
  pub held_after : Memᴰ granted (ends (story rows_one ++ (lent (length written) (allocate 16 8) ∷ [])) start).held

-- ---- a good heap, and what may be asked of it

pub record OnGood : Type 0 where
  -- it has two holes
  pub heap : Heap
  pub arena : List ℕ
  pub good : Good ours heap arena
  pub two : length (holes heap arena) ≡ 2
  -- a valid layout that there is room for
  pub roomy : (s : ℕ) × (align : ℕ) × (r : ℕ) × (x : ℕ) × Valid s align r × RoomAt r align (holes heap arena) x
  -- and one that there is none for
  pub full : (s : ℕ) × (align : ℕ) × (r : ℕ) × Valid s align r × ((x : ℕ) → RoomAt r align (holes heap arena) x → ⊥)
  -- a span that nothing stands against, in words and by test
  pub span :
      (x : Addr) × (s : ℕ) × (align : ℕ) × (r : ℕ)
      × Valid s align r
      × (NoSpan heap (holes heap arena) x.0 r align → ⊥)
      × (any (refusal8 heap (holes heap arena) (hole x r) align) ≡ false)
  -- such a span that may also grow by all of the hole behind it: nothing stands against its stretch
  pub grown_span :
      (x : Addr) × (s : ℕ) × (align : ℕ) × (n : ℕ) × (r : ℕ) × (q : ℕ)
      × Valid s align r
      × Valid n align q
      × (r < q)
      × (NoSpan heap (holes heap arena) x.0 r align → ⊥)
      × (NoStretch (holes heap arena) x.0 r q → ⊥)
  -- bytes that only gather
  pub gathers : (by : ℕ) × (heap.top.0 + heap.pending + by ≤ heap.base.0 + heap.len) × (heap.pending + by < 16)
  -- and bytes that make it grow
  pub grows :
      (by : ℕ) × (s : ℕ)
      × (heap.top.0 + heap.pending + by ≤ heap.base.0 + heap.len)
      × (16 ≤ heap.pending + by)
      × Below 8 (heap.pending + by) s
  -- with other bytes in its arena the same heap is not sound
  pub noise : List ℕ
  pub long : length noise ≡ heap.len
  pub unsound : Sound heap (holes heap noise) → ⊥

-- ---- all of them

pub record Met : Type 0 where
  -- for demand 3, memory, the readers, and what a call does or tells
  pub boxes : Boxes
  -- for demand 2, free, resize, extend, the reports, refusal 5, and what is left out
  pub on_good : OnGood
  -- for open: numbers that nothing stands against, with what they leave
  pub opens :
      (len : ℕ) × (base : ℕ) × (named : ℕ) × (bottom : ℕ) × (s : ℕ)
      × (NoStart len base named → ⊥)
      × Left base named bottom s
  -- for the readers: numbers that they answer 0 for
  pub unread : (h : Heap) × (SoundNumbers h × (h.used ≤ h.top.0 - h.bottom.0) → ⊥)
