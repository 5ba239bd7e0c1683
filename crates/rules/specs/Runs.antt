-- Runs of calls: on memories, with writes between the calls; and what follows from the calls alone. Definitions only.
use Rattle.std.specs.Prelude.{◌≡◌, Result, Ok, Err, Bool, cond, ℕ, ◌+◌, ◌-◌, ◌^◌, ◌≤◌, ◌<◌, eqb, length, get_or}
use mathlib.Core.List.{List, [], ◌∷◌, Memᴰ}
use Rattle.rules.specs.declared.Addr.{Addr}
use Rattle.rules.specs.declared.Hole.{Hole}
use Rattle.rules.specs.declared.Heap.{Heap}
use Rattle.rules.specs.declared.Answer.{Answer}
use Rattle.rules.specs.declared.Refusal.{Refusal}
use Rattle.rules.specs.Tests.{all}
use Rattle.rules.specs.Kinds.{addr, same, number}
use Rattle.rules.specs.Sound.{unopened, holes}
use Rattle.rules.specs.Readers.{bottom_of, top_of, size_of, used_of, free_of}
use Rattle.rules.specs.Changes.{Change, Report}
use Rattle.rules.specs.Calls.{Call, opening, change, report, Outcome, refused, told, done}
use Rattle.rules.specs.Answers.{answer_numbers}
use Rattle.rules.specs.Outcome.{decided, after, Rows, leaves_rows, rows_after}

-- ---- what is asked, and what is told

-- the numbers of a call are below 2^64
abbrev pub Fits : Call → Type 0
Fits (opening base named) = (base.0 < 2 ^ 64) × (named < 2 ^ 64)
Fits (change (Change.allocate s align)) = (s < 2 ^ 64) × (align < 2 ^ 64)
Fits (change (Change.free x s align)) = (x.0 < 2 ^ 64) × (s < 2 ^ 64) × (align < 2 ^ 64)
Fits (change (Change.resize x s align n)) = (x.0 < 2 ^ 64) × (s < 2 ^ 64) × (align < 2 ^ 64) × (n < 2 ^ 64)
Fits (change (Change.extend by)) = by < 2 ^ 64
Fits (report Report.list) = Unit {0}
Fits (report (Report.room align)) = align < 2 ^ 64

pub data Reader : Type 0 where
  bottom top size used free_bytes : Reader

unfoldable pub reading : Reader → Heap → ℕ
reading Reader.bottom h = number (bottom_of h)
reading Reader.top h = number (top_of h)
reading Reader.size h = size_of h
reading Reader.used h = used_of h
reading Reader.free_bytes h = free_of h

-- a call, with the rows and the number of bytes that it is lent; or a reader
pub data Ask : Type 0 where
  calls : Call → Rows → ℕ → Ask
  reads : Reader → Ask

abbrev pub AllFit : List Ask → Type 0
AllFit [] = Unit {0}
AllFit (calls c r n ∷ asks) = Fits c × AllFit asks
AllFit (reads x ∷ asks) = AllFit asks

-- an answer, with the rows as they are then; or a number
pub data Told : Type 0 where
  answers : Result Answer Refusal → Rows → Told
  says : ℕ → Told

-- ---- on memory

-- anyone may write any bytes save the first 16 of each hole
abbrev pub Kept : Heap → List ℕ → List ℕ → Type 0
Kept h m w =
    (k : Hole) → Memᴰ k (holes h m) → (i : ℕ) → k.addr.0 - h.base.0 ≤ i → i < k.addr.0 - h.base.0 + 16
    → get_or m i 0 ≡ get_or w i 0

-- the asks one after the other, each handed the heap that the one before gave back
pub data Run : List Ask → Heap → List ℕ → List Told → Heap → List ℕ → Type 0 where
  end : {h : Heap} {m : List ℕ} → Run [] h m [] h m
  -- a call on the box's own arena, which others may have written to
  own :
      {c : Call} {r : Rows} {n : ℕ} {asks : List Ask} {h : Heap} {m : List ℕ} {ts : List Told} {h' : Heap} {m' : List ℕ} (w : List ℕ)
      → Kept h m w
      → length w ≡ n
      → Run asks (after c h w).heap (after c h w).arena ts h' m'
      → Run (calls c r n ∷ asks) h m (answers (after c h w).answer (rows_after c h w r) ∷ ts) h' m'
  -- a call that is lent other memory, of another length than the arena's
  other :
      {c : Call} {r : Rows} {n : ℕ} {asks : List Ask} {h : Heap} {m : List ℕ} {ts : List Told} {h' : Heap} {m' : List ℕ} (w : List ℕ)
      → (h.bottom.0 ≡ 0 → ⊥)
      → (n ≡ h.len → ⊥)
      → length w ≡ n
      → Run asks (after c h w).heap m ts h' m'
      → Run (calls c r n ∷ asks) h m (answers (after c h w).answer (rows_after c h w r) ∷ ts) h' m'
  asked :
      {x : Reader} {asks : List Ask} {h : Heap} {m : List ℕ} {ts : List Told} {h' : Heap} {m' : List ℕ}
      → Run asks h m ts h' m'
      → Run (reads x ∷ asks) h m (says (reading x h) ∷ ts) h' m'

-- ---- what follows from the calls alone

-- a block is held from the call that grants it to the one that takes it back
pub record Block : Type 0 where
  pub addr : Addr
  pub size : ℕ
  pub align : ℕ

abbrev pub block : Addr → ℕ → ℕ → Block
block a s align = record { addr = a; size = s; align = align }

unfoldable pub same_block : Block → Block → Bool
same_block b c = all (same b.addr c.addr ∷ eqb b.size c.size ∷ eqb b.align c.align ∷ [])

unfoldable pub without : Block → List Block → List Block
without b [] = []
without b (c ∷ cs) = cond (same_block b c) cs (c ∷ without b cs)

pub record Box : Type 0 where
  pub heap : Heap
  pub holes : List Hole
  pub held : List Block

abbrev pub start : Box
start = record { heap = unopened; holes = []; held = [] }

-- the blocks held after an accepted call; the first value of allocate's answer is the granted address; a resized block has its new size
unfoldable pub held_after : Call → Answer → List Block → List Block
held_after (opening base named) a bs = []
held_after (change (Change.allocate s align)) a bs = block (addr (answer_numbers (Ok a)).one) s align ∷ bs
held_after (change (Change.free x s align)) a bs = without (block x s align) bs
held_after (change (Change.resize x s align n)) a bs = block x n align ∷ without (block x s align) bs
held_after (change (Change.extend by)) a bs = bs
held_after (report r) a bs = bs

-- what a call comes to in a box, by its numbers and holes alone
abbrev pub comes_to : Call → ℕ → Box → Outcome
comes_to c n b = decided c n b.heap b.holes

unfoldable pub box_after : Call → Box → Outcome → Box
box_after c b (refused r) = b
box_after c b (told a ks) = b
box_after c b (done a h ks) = record { heap = h; holes = ks; held = held_after c a b.held }

unfoldable pub answer_of : Outcome → Result Answer Refusal
answer_of (refused r) = Err r
answer_of (told a ks) = Ok a
answer_of (done a h ks) = Ok a

unfoldable pub next_box : Ask → Box → Box
next_box (calls c r n) b = box_after c b (comes_to c n b)
next_box (reads x) b = b

unfoldable pub tell_box : Ask → Box → Told
tell_box (calls c r n) b = answers (answer_of (comes_to c n b)) (leaves_rows r (comes_to c n b))
tell_box (reads x) b = says (reading x b.heap)

unfoldable pub tells : List Ask → Box → List Told
tells [] b = []
tells (a ∷ asks) b = tell_box a b ∷ tells asks (next_box a b)

unfoldable pub ends : List Ask → Box → Box
ends [] b = b
ends (a ∷ asks) b = ends asks (next_box a b)

-- ---- the premise on frees and resizes

-- an accepted free, or resize, names a block then held, with its own size and alignment
abbrev pub HonestCall : Call → Outcome → Box → Type 0
HonestCall (opening base named) o b = Unit {0}
HonestCall (change (Change.allocate s align)) o b = Unit {0}
HonestCall (change (Change.free x s align)) o b =
    (a : Answer) (h : Heap) (ks : List Hole) → o ≡ done a h ks → Memᴰ (block x s align) b.held
HonestCall (change (Change.resize x s align n)) o b =
    (a : Answer) (h : Heap) (ks : List Hole) → o ≡ done a h ks → Memᴰ (block x s align) b.held
HonestCall (change (Change.extend by)) o b = Unit {0}
HonestCall (report r) o b = Unit {0}

abbrev pub HonestAsk : Ask → Box → Type 0
HonestAsk (calls c r n) b = HonestCall c (comes_to c n b) b
HonestAsk (reads x) b = Unit {0}

abbrev pub Honest : List Ask → Box → Type 0
Honest [] b = Unit {0}
Honest (a ∷ asks) b = HonestAsk a b × Honest asks (next_box a b)
