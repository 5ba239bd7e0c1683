-- The frauds and slips that the demands must shut out, each in one line and as a statement: it can be committed, and no behaviour that
-- commits it meets the statements of the calls. The proof is proofs/Frauds.antt.
use Rattle.std.specs.Prelude.{◌≡◌, Ok, Err, ◌⊎◌, ℕ, ◌+◌, ◌-◌, ◌^◌, ◌≤◌, ◌<◌, length, get_or}
use mathlib.Core.List.{List, ◌∷◌, ◌++◌, Memᴰ}
use Rattle.rules.specs.declared.Addr.{Addr}
use Rattle.rules.specs.declared.Hole.{Hole}
use Rattle.rules.specs.declared.Heap.{Heap}
use Rattle.rules.specs.declared.Refusal.{Refusal}
use Rattle.rules.specs.declared.Refusal.TheVariants.{OtherLength, NotSound}
use Rattle.rules.specs.declared.Answer.TheVariants.{Opened, Allocated, Freed, Resized, Extended, Listed, Room}
use Rattle.rules.specs.Kinds.{addr}
use Rattle.rules.specs.Changes.{Change}
use Rattle.rules.specs.Calls.{Call, opening, change, report, allocate, free, resize, extend, list, room}
use Rattle.rules.specs.Outcome.{After}
use Rattle.rules.specs.InWords.{end_of, sum, Sound, number, Rounds, RoomAt, Within, Vacant, StretchEnds}
use Rattle.rules.specs.Runs.{Fits}
use Rattle.rules.specs.Behaviour.{Behaviour, Good}
use Rattle.rules.specs.Statements.{Statements}

-- there are behaviours of which this is true, and none of them meets the statements
pub record Caught (fraud : Behaviour → Type 0) : Type 0 where
  pub culprit : Behaviour
  pub commits : fraud culprit
  pub caught : (b : Behaviour) → fraud b → Statements b → ⊥

-- a call as it can be made: numbers below 2^64, memory of bytes
abbrev pub Made : Call → List ℕ → Type 0
Made c m = Fits c × ((i : ℕ) → get_or m i 0 < 256)

-- such a call of a sound heap with its arena
abbrev pub Asked : Behaviour → Call → Heap → List ℕ → Type 0
Asked b c h m = Made c m × Good b h m

abbrev pub Refuses : Behaviour → Call → Heap → List ℕ → Type 0
Refuses b c h m = (r : Refusal) × ((b.after c h m).answer ≡ Err r)

-- a size that the call rounds is so near to 2^64 that it and 7, added in 64 bits, wrap around to less than 7
abbrev pub Wraps : Call → Type 0
Wraps (opening base named) = ⊥
Wraps (change (Change.allocate s align)) = 2 ^ 64 ≤ s + 7
Wraps (change (Change.free x s align)) = 2 ^ 64 ≤ s + 7
Wraps (change (Change.resize x s align n)) = (2 ^ 64 ≤ s + 7) ⊎ (2 ^ 64 ≤ n + 7)
Wraps (change (Change.extend by)) = ⊥
Wraps (report r) = ⊥

-- a grant
pub record Grant (b : Behaviour) : Type 0 where
  pub size : ℕ
  pub align : ℕ
  pub heap : Heap
  pub arena : List ℕ
  pub at : ℕ
  pub count : ℕ
  pub fits : Fits (allocate size align)
  pub answer : (b.after (allocate size align) heap arena).answer ≡ Ok (Allocated (addr at) count)

-- the hole in which it lies
pub record UsedHole (b : Behaviour) (g : Grant b) : Type 0 where
  pub front : List Hole
  pub hole : Hole
  pub back : List Hole
  pub one : b.holes g.heap g.arena ≡ front ++ (hole ∷ back)
  pub inside : Within hole.addr.0 hole.size g.at

-- an accepted resize, with both rounded sizes
pub record Resizing (b : Behaviour) : Type 0 where
  pub at : Addr
  pub size : ℕ
  pub align : ℕ
  pub new_size : ℕ
  pub heap : Heap
  pub arena : List ℕ
  pub old : ℕ
  pub new : ℕ
  pub rounds : Rounds size old
  pub new_rounds : Rounds new_size new
  pub said : ℕ
  pub used : ℕ
  pub fits : Fits (resize at size align new_size)
  pub answer : (b.after (resize at size align new_size) heap arena).answer ≡ Ok (Resized said used)

-- what it leaves
abbrev pub left : (b : Behaviour) → Resizing b → After
left b g = b.after (resize g.at g.size g.align g.new_size) g.heap g.arena

-- the holes before it, and those after it
abbrev pub holes_before : (b : Behaviour) → Resizing b → List Hole
holes_before b g = b.holes g.heap g.arena

abbrev pub holes_after : (b : Behaviour) → Resizing b → List Hole
holes_after b g = b.holes (left b g).heap (left b g).arena

-- the address y lies in both sizes of the block
abbrev pub InBoth : (b : Behaviour) → Resizing b → ℕ → Type 0
InBoth b g y = Within g.at.0 g.old y × Within g.at.0 g.new y

pub record Frauds : Type 0 where
  -- every opening is refused
  pub every_opening_refused :
      Caught
      (λ b.
      (base : Addr) (named : ℕ) (h : Heap) (m : List ℕ) → Made (opening base named) m → h.bottom.0 ≡ 0
      → Refuses b (opening base named) h m)
  -- every allocate of a sound heap is refused
  pub every_allocate_refused :
      Caught (λ b. (s align : ℕ) (h : Heap) (m : List ℕ) → Asked b (allocate s align) h m → Refuses b (allocate s align) h m)
  -- every free of a sound heap is refused
  pub every_free_refused :
      Caught (λ b. (x : Addr) (s align : ℕ) (h : Heap) (m : List ℕ) → Asked b (free x s align) h m → Refuses b (free x s align) h m)
  -- every call of a sound heap but an opening is refused with 5
  pub every_call_refused :
      Caught
      (λ b.
      (c : Call) (h : Heap) (m : List ℕ) → Asked b c h m → ((base : Addr) (named : ℕ) → c ≡ opening base named → ⊥)
      → (b.after c h m).answer ≡ Err NotSound)
  -- once, an unopened heap is refused with 4: refusals 3 and 4 change places
  pub tests_swapped :
      Caught
      (λ b.
      (c : Call) × (h : Heap) × (m : List ℕ) × Fits c × (h.bottom.0 ≡ 0) × ((b.after c h m).answer ≡ Err OtherLength))
  -- once, a call is accepted on an opened heap whose sizes do not add up
  pub sum_not_tested :
      Caught
      (λ b.
      (c : Call) × (h : Heap) × (m : List ℕ)
      × Fits c
      × (h.bottom.0 ≡ 0 → ⊥)
      × (sum (b.holes h m) + h.used ≡ h.top.0 - h.bottom.0 → ⊥)
      × (Refuses b c h m → ⊥))
  -- once, a call is accepted whose size and 7 wrap around when they are added: the sum was tested when it had wrapped, as a small size
  pub wrapped_sum :
      Caught (λ b. (c : Call) × (h : Heap) × (m : List ℕ) × Fits c × Wraps c × (Refuses b c h m → ⊥))
  -- once, a refused call changes heap or memory
  pub refused_writes :
      Caught
      (λ b.
      (c : Call) × (h : Heap) × (m : List ℕ)
      × Fits c
      × Refuses b c h m
      × (((b.after c h m).heap ≡ h) × ((b.after c h m).arena ≡ m) → ⊥))
  -- every opening drops the remainder
  pub opening_drops_pending :
      Caught
      (λ b.
      (base bottom : Addr) (named s : ℕ) (h : Heap) (m : List ℕ) → Made (opening base named) m → h.bottom.0 ≡ 0
      → (b.after (opening base named) h m).answer ≡ Ok (Opened bottom s)
      → (b.after (opening base named) h m).heap.pending ≡ 0)
  -- every opening adds pending bytes to size: all that is named lies below top
  pub pending_in_size :
      Caught
      (λ b.
      (base bottom : Addr) (named s : ℕ) (h : Heap) (m : List ℕ) → Made (opening base named) m → h.bottom.0 ≡ 0
      → (b.after (opening base named) h m).answer ≡ Ok (Opened bottom s)
      → (b.after (opening base named) h m).heap.top.0 ≡ base.0 + named)
  -- an unopened heap has a first place that is not 0
  pub unopened_not_zero : Caught (λ b. b.unopened.first.0 ≡ 0 → ⊥)
  -- all grants of a heap are at one address
  pub fixed_address :
      Caught
      (λ b.
      (a : Heap → Addr)
      × ((s align n : ℕ) (x : Addr) (h : Heap) (m : List ℕ) → Asked b (allocate s align) h m
      → (b.after (allocate s align) h m).answer ≡ Ok (Allocated x n)
      → x ≡ a h))
  -- once, the count is not the used hole's place in the list
  pub invented_count : Caught (λ b. (g : Grant b) × (u : UsedHole b g) × (g.count ≡ length u.front + 1 → ⊥))
  -- once, 8 bytes are left in front of the block
  pub front_of_eight : Caught (λ b. (g : Grant b) × (u : UsedHole b g) × (u.hole.addr.0 + 8 ≡ g.at))
  -- once, 8 bytes are left behind the block
  pub remainder_kept :
      Caught (λ b. (g : Grant b) × (u : UsedHole b g) × (r : ℕ) × Rounds g.size r × (g.at + r + 8 ≡ end_of u.hole))
  -- once, there was room at a lower address
  pub not_the_lowest :
      Caught
      (λ b.
      (g : Grant b) × (r : ℕ) × Rounds g.size r × (x : ℕ) × RoomAt r g.align (b.holes g.heap g.arena) x × (x < g.at))
  -- once, an address is granted that is not free
  pub not_free :
      Caught
      (λ b.
      (g : Grant b) × (r : ℕ) × Rounds g.size r × (y : ℕ) × Within g.at r y × (Vacant (b.holes g.heap g.arena) y → ⊥))
  -- what is freed is not granted again
  pub never_reused :
      Caught
      (λ b.
      (x : Addr) (s align r u t q n : ℕ) (h : Heap) (m : List ℕ) → Asked b (free x s align) h m → Fits (allocate t q)
      → (b.after (free x s align) h m).answer ≡ Ok (Freed r u)
      → (b.after (allocate t q) (b.after (free x s align) h m).heap (b.after (free x s align) h m).arena).answer ≡ Ok (Allocated x n)
      → ⊥)
  -- every free leaves the holes as they were
  pub free_does_nothing :
      Caught
      (λ b.
      (x : Addr) (s align r u : ℕ) (h : Heap) (m : List ℕ) → Asked b (free x s align) h m
      → (b.after (free x s align) h m).answer ≡ Ok (Freed r u)
      → b.holes (b.after (free x s align) h m).heap (b.after (free x s align) h m).arena ≡ b.holes h m)
  -- every free leaves used as it was
  pub free_keeps_used :
      Caught
      (λ b.
      (x : Addr) (s align r u : ℕ) (h : Heap) (m : List ℕ) → Asked b (free x s align) h m
      → (b.after (free x s align) h m).answer ≡ Ok (Freed r u)
      → (b.after (free x s align) h m).heap.used ≡ h.used)
  -- a freed span joins only the hole before it: one that starts where the span ends stays a hole
  pub joins_before_only :
      Caught
      (λ b.
      (x : Addr) (s align r u : ℕ) (h : Heap) (m : List ℕ) (k : Hole) → Asked b (free x s align) h m
      → (b.after (free x s align) h m).answer ≡ Ok (Freed r u)
      → Memᴰ k (b.holes h m)
      → k.addr.0 ≡ x.0 + r
      → Memᴰ k (b.holes (b.after (free x s align) h m).heap (b.after (free x s align) h m).arena))
  -- once, a resize moves the block: an address that lies in both sizes of it is free then
  pub resize_moves : Caught (λ b. (g : Resizing b) × (y : ℕ) × InBoth b g y × Vacant (holes_after b g) y)
  -- once, a resize is granted though the stretch less the new rounded size is 8
  pub resize_leaves_eight :
      Caught
      (λ b. (g : Resizing b) × (e : ℕ) × StretchEnds (holes_before b g) g.at.0 g.old e × (g.at.0 + g.new + 8 ≡ e))
  -- once, a resize takes of the hole before the block: an address below the block was free and is so no more
  pub resize_takes_before :
      Caught
      (λ b.
      (g : Resizing b) × (y : ℕ) × (y < g.at.0) × Vacant (holes_before b g) y × (Vacant (holes_after b g) y → ⊥))
  -- every resize leaves used as it was
  pub resize_forgets_used :
      Caught
      (λ b.
      (x : Addr) (s align n q u : ℕ) (h : Heap) (m : List ℕ) → Asked b (resize x s align n) h m
      → (b.after (resize x s align n) h m).answer ≡ Ok (Resized q u)
      → (b.after (resize x s align n) h m).heap.used ≡ h.used)
  -- once, the hole into which the block has grown stays in the list
  pub resize_keeps_eaten :
      Caught
      (λ b.
      (g : Resizing b) × (k : Hole)
      × Memᴰ k (holes_before b g)
      × (k.addr.0 ≡ g.at.0 + g.old)
      × (g.old < g.new)
      × Memᴰ k (holes_after b g))
  -- every resize of a sound heap's block to a larger rounded size is refused
  pub resize_refuses_growth :
      Caught
      (λ b.
      (x : Addr) (s align n r q : ℕ) (h : Heap) (m : List ℕ) → Asked b (resize x s align n) h m → Rounds s r → Rounds n q → r < q
      → Refuses b (resize x s align n) h m)
  -- once, a resize changes a byte that lies in both sizes of the block
  pub resize_overwrites :
      Caught
      (λ b.
      (g : Resizing b) × (y : ℕ)
      × InBoth b g y
      × (get_or (left b g).arena (y - g.heap.base.0) 0 ≡ get_or g.arena (y - g.heap.base.0) 0 → ⊥))
  -- what is pending after the heap has grown follows from the bytes added alone: what was pending is lost
  pub extend_loses_pending :
      Caught
      (λ b.
      (left : ℕ → ℕ)
      × ((by s p : ℕ) (h : Heap) (m : List ℕ) → Asked b (extend by) h m → 16 ≤ h.pending + by
      → (b.after (extend by) h m).answer ≡ Ok (Extended s p)
      → p ≡ left by))
  -- each list answers a 0
  pub list_zeros :
      Caught
      (λ b. (x y : ℕ) (h : Heap) (m : List ℕ) → Asked b list h m → (b.after list h m).answer ≡ Ok (Listed x y) → (x ≡ 0) ⊎ (y ≡ 0))
  -- each room report answers a 0
  pub room_zeros :
      Caught
      (λ b.
      (align x y : ℕ) (h : Heap) (m : List ℕ) → Asked b (room align) h m → (b.after (room align) h m).answer ≡ Ok (Room x y)
      → (x ≡ 0) ⊎ (y ≡ 0))
  -- each forgets the alignment: it names no less than the largest hole
  pub room_forgets_alignment :
      Caught
      (λ b.
      (align x y : ℕ) (h : Heap) (m : List ℕ) (k : Hole) → Asked b (room align) h m → (b.after (room align) h m).answer ≡ Ok (Room x y)
      → Memᴰ k (b.holes h m)
      → k.size ≤ x)
  -- each says 16, whenever anything fits
  pub room_says_sixteen :
      Caught
      (λ b.
      (align x y : ℕ) (h : Heap) (m : List ℕ) → Asked b (room align) h m → (b.after (room align) h m).answer ≡ Ok (Room x y)
      → (x ≡ 0) ⊎ (x ≡ 16))
  -- once, a call changes a byte that lies in no head of the holes it leaves
  pub scribble :
      Caught
      (λ b.
      (c : Call) × (h : Heap) × (m : List ℕ) × (i : ℕ)
      × Fits c
      × ((k : Hole) → Memᴰ k (b.holes (b.after c h m).heap (b.after c h m).arena)
      → Within (k.addr.0 - (b.after c h m).heap.base.0) 16 i
      → ⊥)
      × (get_or (b.after c h m).arena i 0 ≡ get_or m i 0 → ⊥))
  -- once, the size of a sound heap's first hole is not in its head's first 8 bytes: the head is turned
  pub head_turned :
      Caught
      (λ b.
      (h : Heap) × (m : List ℕ) × (k : Hole) × (back : List Hole)
      × Sound h (b.holes h m)
      × (b.holes h m ≡ k ∷ back)
      × (k.size ≡ number m h.first.0 → ⊥))
