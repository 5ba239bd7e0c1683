-- The demands, each as a statement under the user's sentence or the paper's. Those of the calls are of any behaviour b: ours meets them
-- (proofs/Statements.antt), and two that meet them do the same. Those of runs are of ours. specs/Demands.antt of crate demands gathers them.
use Rattle.std.specs.Prelude.{◌≡◌, Result, Ok, Err, true, cond, ◌⊎◌, ℕ, ◌+◌, ◌-◌, ◌/◌, ◌^◌, ◌≤◌, ◌<◌, min, eqb, length, get_or}
use mathlib.Core.List.{List, [], ◌∷◌, ◌++◌, Memᴰ}
use Rattle.rules.specs.declared.Addr.{Addr}
use Rattle.rules.specs.declared.Hole.{Hole}
use Rattle.rules.specs.declared.Heap.{Heap}
use Rattle.rules.specs.declared.Done.{Done}
use Rattle.rules.specs.declared.Refusal.{Refusal}
use Rattle.rules.specs.declared.Refusal.TheVariants.{BadOpening, AlreadyOpened, Unopened, OtherLength, NotSound, BadLayout, NoRoom, BadSpan, PastArena, BadStretch}
use Rattle.rules.specs.declared.Answer.{Answer}
use Rattle.rules.specs.declared.Answer.TheVariants.{Opened, Allocated, Freed, Resized, Extended, Listed, Room}
use Rattle.rules.specs.Round.{Below}
use Rattle.rules.specs.Kinds.{addr, place}
use Rattle.rules.specs.Holes.{hole}
use Rattle.rules.specs.Sound.{unopened, holes}
use Rattle.rules.specs.Changes.{Change, Report}
use Rattle.rules.specs.Calls.{Call, opening, change, report, allocate, free, resize, extend, list, room, Outcome, refused, told, done}
use Rattle.rules.specs.Answers.{numbers, answer_numbers}
use Rattle.rules.specs.Outcome.{Rows, after, Is, rows_after}
use Rattle.rules.specs.InWords.{Valid, end_of, SoundNumbers, Sound, Hold, Rounds, Lies, RoomAt, Within, Vacant, Left, NoStart, NoLayout, NoSpan, NoStretch}
use Rattle.rules.specs.Runs.{Fits, Reader, Ask, calls, reads, AllFit, Told, answers, says, Kept, Run, Block, Box, start, comes_to, tells, ends, Honest}
use Rattle.rules.specs.Behaviour.{Behaviour, Good}

-- ---- "A heap is sound if": the test that the calls make is the paper's rule

abbrev pub SoundMeans : Behaviour → Type 0
SoundMeans b = (h : Heap) (ks : List Hole) → (b.sound h ks ≡ true → Sound h ks) × (Sound h ks → b.sound h ks ≡ true)

-- ---- "Unopened: bottom is 0 and so is the rest."

pub record UnopenedIs (b : Behaviour) : Type 0 where
  pub base : b.unopened.base.0 ≡ 0
  pub len : b.unopened.len ≡ 0
  pub bottom : b.unopened.bottom.0 ≡ 0
  pub top : b.unopened.top.0 ≡ 0
  pub first : b.unopened.first.0 ≡ 0
  pub pending : b.unopened.pending ≡ 0
  pub used : b.unopened.used ≡ 0

-- ---- "Its first 16 bytes are its head: size, then the place of the next head [..], each 8 bytes, low byte first; all ones in the second
-- means none": sound holes are those of a heap exactly if its heads hold them

abbrev pub HolesMean : Behaviour → Type 0
HolesMean b =
    (h : Heap) (m : List ℕ)
    → ((ks : List Hole) → Sound h ks → Hold h.base.0 m h.first.0 ks → b.holes h m ≡ ks)
    × (Sound h (b.holes h m) → Hold h.base.0 m h.first.0 (b.holes h m))

-- ---- demand 1: "Whatever numbers and memory a call is lent, it ends with an answer. Every entry tests its own input. A refusal carries
-- its number from the build rules and alters neither heap nor memory."

-- a refusal, and what it is given for
pub record Row : Type 1 where
  pub gives : Refusal
  pub «exactly_if» : Type 0

-- the first row that holds refuses; where none does, the call is not refused
abbrev pub Decides : List Row → Outcome → Type 0
Decides [] o = (r : Refusal) → o ≡ refused r → ⊥
Decides (t ∷ ts) o = (t.«exactly_if» → o ≡ refused t.gives) × ((t.«exactly_if» → ⊥) → Decides ts o)

abbrev pub row : Refusal → Type 0 → Row
row r t = record { gives = r; «exactly_if» = t }

-- the table of refusals, for each call in the order of its tests
abbrev opened_rows : Behaviour → Heap → List ℕ → List Row
opened_rows b h m =
    row Unopened (h.bottom.0 ≡ 0)
    ∷ row OtherLength (length m ≡ h.len → ⊥)
    ∷ row NotSound (Sound h (b.holes h m) → ⊥)
    ∷ []

-- a change, behind those
abbrev pub change_rows : Behaviour → Change → Heap → List ℕ → List Row
change_rows b (Change.allocate s align) h m =
    row BadLayout (NoLayout s align)
    ∷ row (NoRoom (length (b.holes h m))) ((r : ℕ) → Rounds s r → (x : ℕ) → RoomAt r align (b.holes h m) x → ⊥)
    ∷ []
change_rows b (Change.free x s align) h m =
    row BadLayout (NoLayout s align)
    ∷ row BadSpan ((r : ℕ) × Rounds s r × NoSpan h (b.holes h m) x.0 r align)
    ∷ []
change_rows b (Change.resize x s align n) h m =
    row BadLayout (NoLayout s align)
    ∷ row BadLayout (NoLayout n align)
    ∷ row BadSpan ((r : ℕ) × Rounds s r × NoSpan h (b.holes h m) x.0 r align)
    ∷ row BadStretch ((r : ℕ) × Rounds s r × ((q : ℕ) × Rounds n q × NoStretch (b.holes h m) x.0 r q))
    ∷ []
change_rows b (Change.extend by) h m = row PastArena (h.base.0 + h.len < h.top.0 + h.pending + by) ∷ []

-- a report, behind them too
abbrev pub report_rows : Report → List Row
report_rows Report.list = []
report_rows (Report.room align) = row BadLayout (NoLayout 16 align) ∷ []

abbrev pub refusals_of : Behaviour → Call → Heap → List ℕ → List Row
refusals_of b (opening base named) h m =
    row AlreadyOpened (h.bottom.0 ≡ 0 → ⊥) ∷ row BadOpening (NoStart (length m) base.0 named) ∷ []
refusals_of b (change c) h m = opened_rows b h m ++ change_rows b c h m
refusals_of b (report r) h m = opened_rows b h m ++ report_rows r

abbrev pub RefusalsExactly : Behaviour → Type 0
RefusalsExactly b = (c : Call) (h : Heap) (m : List ℕ) → Fits c → Decides (refusals_of b c h m) (b.outcome c h m)

-- a refusal alters nothing
abbrev pub RefusalsKeep : Behaviour → Type 0
RefusalsKeep b =
    (c : Call) (h : Heap) (m : List ℕ) (rows : Rows) (r : Refusal) → b.outcome c h m ≡ refused r
    → ((b.after c h m).answer ≡ Err r) × ((b.after c h m).heap ≡ h) × ((b.after c h m).arena ≡ m) × (b.rows_after c h m rows ≡ rows)

-- and carries its number and zeros, 7 its count
pub record RefusalNumbers (b : Behaviour) : Type 0 where
  pub one : b.answer_numbers (Err BadOpening) ≡ numbers 1 0 0
  pub two : b.answer_numbers (Err AlreadyOpened) ≡ numbers 2 0 0
  pub three : b.answer_numbers (Err Unopened) ≡ numbers 3 0 0
  pub four : b.answer_numbers (Err OtherLength) ≡ numbers 4 0 0
  pub five : b.answer_numbers (Err NotSound) ≡ numbers 5 0 0
  pub six : b.answer_numbers (Err BadLayout) ≡ numbers 6 0 0
  pub seven : (n : ℕ) → b.answer_numbers (Err (NoRoom n)) ≡ numbers 7 0 n
  pub eight : b.answer_numbers (Err BadSpan) ≡ numbers 8 0 0
  pub nine : b.answer_numbers (Err PastArena) ≡ numbers 9 0 0
  pub ten : b.answer_numbers (Err BadStretch) ≡ numbers 10 0 0

-- an accepted call's number is 0, with its two values
pub record AnswerNumbers (b : Behaviour) : Type 0 where
  pub opens : (a : Addr) (n : ℕ) → b.answer_numbers (Ok (Opened a n)) ≡ numbers 0 a.0 n
  pub allocates : (a : Addr) (n : ℕ) → b.answer_numbers (Ok (Allocated a n)) ≡ numbers 0 a.0 n
  pub frees : (x y : ℕ) → b.answer_numbers (Ok (Freed x y)) ≡ numbers 0 x y
  pub resizes : (x y : ℕ) → b.answer_numbers (Ok (Resized x y)) ≡ numbers 0 x y
  pub extends : (x y : ℕ) → b.answer_numbers (Ok (Extended x y)) ≡ numbers 0 x y
  pub lists : (x y : ℕ) → b.answer_numbers (Ok (Listed x y)) ≡ numbers 0 x y
  pub reports : (x y : ℕ) → b.answer_numbers (Ok (Room x y)) ≡ numbers 0 x y

-- ---- demand 2: "a request gets the lowest address, a multiple of its alignment, where its rounded size lies in one hole and leaves 0 or
-- at least 16 bytes on each side; it is refused for room exactly when there is none."

-- what stays of a hole from lo to hi
abbrev pub piece : ℕ → ℕ → List Hole
piece lo hi = cond (eqb lo hi) [] (hole (addr lo) (hi - lo) ∷ [])

-- a heap's numbers, with a new top, pending and used; its first place is that of the first hole
pub record Becomes (h : Heap) (ks : List Hole) (top pending used : ℕ) (h' : Heap) : Type 0 where
  pub base : h'.base ≡ h.base
  pub len : h'.len ≡ h.len
  pub bottom : h'.bottom ≡ h.bottom
  pub new_top : h'.top.0 ≡ top
  pub new_pending : h'.pending ≡ pending
  pub new_used : h'.used ≡ used
  pub none : ks ≡ [] → h'.first.0 ≡ 2 ^ 64 - 1
  pub first : (k : Hole) (back : List Hole) → ks ≡ k ∷ back → h.base.0 + h'.first.0 ≡ k.addr.0

pub record Granted (r align : ℕ) (h : Heap) (ks : List Hole) (o : Outcome) : Type 0 where
  pub at : ℕ
  pub front : List Hole
  pub used : Hole
  pub back : List Hole
  pub heap : Heap
  pub new : List Hole
  pub one : ks ≡ front ++ (used ∷ back)
  pub lies : Lies r align used at
  pub lowest : (x : ℕ) → RoomAt r align ks x → at ≤ x
  -- the count is the used hole's place in the list, and at most (size + 16) / 32
  pub answer : o ≡ done (Allocated (addr at) (length front + 1)) heap new
  pub few : length front + 1 ≤ (h.top.0 - h.bottom.0 + 16) / 32
  pub split : new ≡ front ++ (piece used.addr.0 at ++ (piece (at + r) (end_of used) ++ back))
  pub becomes : Becomes h new h.top.0 h.pending (h.used + r) heap

abbrev pub Demand2 : Behaviour → Type 0
Demand2 b =
    (h : Heap) (m : List ℕ) (s align r : ℕ) → Good b h m → Valid s align r
    → (((x : ℕ) × RoomAt r align (b.holes h m) x) → Granted r align h (b.holes h m) (b.outcome (allocate s align) h m))
    × (((x : ℕ) → RoomAt r align (b.holes h m) x → ⊥) → b.outcome (allocate s align) h m ≡ refused (NoRoom (length (b.holes h m))))

-- ---- the other calls

abbrev pub OpenDoes : Behaviour → Type 0
OpenDoes b =
    (h : Heap) (m : List ℕ) (base named bottom s : ℕ) → h.bottom.0 ≡ 0 → (NoStart (length m) base named → ⊥) → Left base named bottom s
    → b.outcome (opening (addr base) named) h m
    ≡ done (Opened (addr bottom) s)
    (record {
      base = addr base;
      len = length m;
      bottom = addr bottom;
      top = addr (bottom + s);
      first = place (bottom - base);
      pending = named - (bottom - base) - s;
      used = 0;
    })
    (hole (addr bottom) s ∷ [])

-- the holes are the old ones and a span, joined: what is free is what was and the span, and no two holes touch
pub record Joined (h : Heap) (ks : List Hole) (x s : ℕ) (top pending used : ℕ) (h' : Heap) (new : List Hole) : Type 0 where
  pub vacant : (y : ℕ) → Vacant new y → Vacant ks y ⊎ Within x s y
  pub stays : (y : ℕ) → Vacant ks y → Vacant new y
  pub becomes_free : (y : ℕ) → Within x s y → Vacant new y
  pub sound : Sound h' new
  pub becomes : Becomes h new top pending used h'

abbrev pub FreeDoes : Behaviour → Type 0
FreeDoes b =
    (h : Heap) (m : List ℕ) (x : Addr) (s align r : ℕ) → Good b h m → Valid s align r → (NoSpan h (b.holes h m) x.0 r align → ⊥)
    → (h' : Heap) × (new : List Hole)
    × (b.outcome (free x s align) h m ≡ done (Freed r (h.used - r)) h' new)
    × (r ≤ h.used)
    × Joined h (b.holes h m) x.0 r h.top.0 h.pending (h.used - r) h' new

-- document 02, 2: "Granted, the block keeps its address and the bytes common to both sizes, and the rest of the stretch is a hole or nothing.
-- Used follows." A block of r bytes at x has q bytes then: what is free is what was and the old block, less the new one
pub record Refitted (h : Heap) (ks : List Hole) (x r q : ℕ) (used : ℕ) (h' : Heap) (new : List Hole) : Type 0 where
  pub vacant : (y : ℕ) → Vacant new y → (Vacant ks y ⊎ Within x r y) × (Within x q y → ⊥)
  pub becomes_free : (y : ℕ) → Vacant ks y ⊎ Within x r y → (Within x q y → ⊥) → Vacant new y
  pub sound : Sound h' new
  pub becomes : Becomes h new h.top.0 h.pending used h'

abbrev pub ResizeDoes : Behaviour → Type 0
ResizeDoes b =
    (h : Heap) (m : List ℕ) (x : Addr) (s align n r q : ℕ) → Good b h m → Valid s align r → Valid n align q
    → (NoSpan h (b.holes h m) x.0 r align → ⊥)
    → (NoStretch (b.holes h m) x.0 r q → ⊥)
    → (h' : Heap) × (new : List Hole)
    × (b.outcome (resize x s align n) h m ≡ done (Resized q (h.used - r + q)) h' new)
    × (r ≤ h.used)
    × Refitted h (b.holes h m) x.0 r q (h.used - r + q) h' new

-- an unchanged size is granted to every block that 8 lets through
abbrev pub SameSizeGranted : Behaviour → Type 0
SameSizeGranted b =
    (h : Heap) (m : List ℕ) (x : Addr) (s align r : ℕ) → Good b h m → Valid s align r → (NoSpan h (b.holes h m) x.0 r align → ⊥)
    → (h' : Heap) × (new : List Hole) × (b.outcome (resize x s align s) h m ≡ done (Resized r h.used) h' new)

abbrev pub ExtendGathers : Behaviour → Type 0
ExtendGathers b =
    (h : Heap) (m : List ℕ) (by : ℕ) → Good b h m → h.top.0 + h.pending + by ≤ h.base.0 + h.len → h.pending + by < 16
    → (h' : Heap)
    × (b.outcome (extend by) h m ≡ done (Extended (h.top.0 - h.bottom.0) (h.pending + by)) h' (b.holes h m))
    × Becomes h (b.holes h m) h.top.0 (h.pending + by) h.used h'

abbrev pub ExtendGrows : Behaviour → Type 0
ExtendGrows b =
    (h : Heap) (m : List ℕ) (by s : ℕ) → Good b h m → h.top.0 + h.pending + by ≤ h.base.0 + h.len → 16 ≤ h.pending + by
    → Below 8 (h.pending + by) s
    → (h' : Heap) × (new : List Hole)
    × (b.outcome (extend by) h m ≡ done (Extended (h.top.0 + s - h.bottom.0) (h.pending + by - s)) h' new)
    × Joined h (b.holes h m) h.top.0 s (h.top.0 + s) (h.pending + by - s) h.used h' new

-- document 02, 1: "the largest rounded size that allocate would grant at that alignment, 0 if none"; this is of allocate itself
pub record LargestGrant (b : Behaviour) (h : Heap) (m : List ℕ) (align n : ℕ) : Type 0 where
  -- 0: every size is refused for room
  pub none :
      n ≡ 0 → (s r : ℕ) → Valid s align r → b.outcome (allocate s align) h m ≡ refused (NoRoom (length (b.holes h m)))
  -- else n is a rounded size, and a request of n bytes is granted
  pub some :
      (n ≡ 0 → ⊥) → Valid n align n × Granted n align h (b.holes h m) (b.outcome (allocate n align) h m)
  -- and every request whose rounded size is above n is refused for room
  pub above :
      (s r : ℕ) → Valid s align r → n < r → b.outcome (allocate s align) h m ≡ refused (NoRoom (length (b.holes h m)))

abbrev pub RoomDoes : Behaviour → Type 0
RoomDoes b =
    (h : Heap) (m : List ℕ) (align : ℕ) → Good b h m → Valid 16 align 16
    → (n : ℕ) × LargestGrant b h m align n × (b.outcome (room align) h m ≡ told (Room n (length (b.holes h m))) [])

-- the i-th number of a row: of the i-th hole, as far as the shorter row holds; else what stood there
abbrev pub RowAt : (Hole → ℕ) → List Hole → ℕ → List ℕ → List ℕ → Type 0
RowAt f ks n row row' =
    (length row' ≡ length row)
    × ((front back : List Hole) (k : Hole) → ks ≡ front ++ (k ∷ back) → length front < n → get_or row' (length front) 0 ≡ f k)
    × ((i : ℕ) → min n (length ks) ≤ i → get_or row' i 0 ≡ get_or row i 0)

abbrev pub ListDoes : Behaviour → Type 0
ListDoes b =
    (h : Heap) (m : List ℕ) (r : Rows) → Good b h m
    → (b.outcome list h m ≡ told (Listed (length (b.holes h m)) (h.top.0 - h.bottom.0 - h.used)) (b.holes h m))
    × RowAt (λ k. k.addr.0) (b.holes h m) (min (length r.addrs) (length r.sizes)) r.addrs (b.rows_after list h m r).addrs
    × RowAt (λ k. k.size) (b.holes h m) (min (length r.addrs) (length r.sizes)) r.sizes (b.rows_after list h m r).sizes

-- the rows of other calls stay
abbrev pub OtherRows : Behaviour → Type 0
OtherRows b = (c : Call) (h : Heap) (m : List ℕ) (r : Rows) → (c ≡ list → ⊥) → b.rows_after c h m r ≡ r

pub record Reads (b : Behaviour) (h : Heap) (lo hi s u f : ℕ) : Type 0 where
  pub bottom : b.reading Reader.bottom h ≡ lo
  pub top : b.reading Reader.top h ≡ hi
  pub size : b.reading Reader.size h ≡ s
  pub used : b.reading Reader.used h ≡ u
  pub free_bytes : b.reading Reader.free_bytes h ≡ f

abbrev pub ReadersDo : Behaviour → Type 0
ReadersDo b =
    (h : Heap)
    → (SoundNumbers h
    → h.used ≤ h.top.0 - h.bottom.0
    → Reads b h h.bottom.0 (h.top.0 + h.pending) (h.top.0 - h.bottom.0) h.used (h.top.0 - h.bottom.0 - h.used))
    × ((SoundNumbers h × (h.used ≤ h.top.0 - h.bottom.0) → ⊥) → Reads b h 0 0 0 0 0)

-- ---- "After an accepted call each head holds its hole's numbers. Every byte that lies in no head of the new list is what it was before."

abbrev pub Memory : Behaviour → Type 0
Memory b =
    (c : Call) (h : Heap) (m : List ℕ) (a : Answer) (h' : Heap) (ks : List Hole) → Fits c → b.outcome c h m ≡ done a h' ks
    → ((b.after c h m).answer ≡ Ok a)
    × ((b.after c h m).heap ≡ h')
    × (length (b.after c h m).arena ≡ length m)
    × (b.holes h' (b.after c h m).arena ≡ ks)
    × ((i : ℕ)
    → ((k : Hole) → Memᴰ k ks → Within (k.addr.0 - h'.base.0) 16 i → ⊥)
    → get_or (b.after c h m).arena i 0 ≡ get_or m i 0)

-- what is written are bytes
abbrev pub BytesStay : Behaviour → Type 0
BytesStay b =
    (c : Call) (h : Heap) (m : List ℕ) → ((i : ℕ) → get_or m i 0 < 256) → (i : ℕ) → get_or (b.after c h m).arena i 0 < 256

-- a call that only tells changes nothing
abbrev pub TellsOnly : Behaviour → Type 0
TellsOnly b =
    (c : Call) (h : Heap) (m : List ℕ) (a : Answer) (ks : List Hole) → b.outcome c h m ≡ told a ks
    → ((b.after c h m).answer ≡ Ok a) × ((b.after c h m).heap ≡ h) × ((b.after c h m).arena ≡ m)

-- ---- soundness is kept

abbrev pub SoundKept : Behaviour → Type 0
SoundKept b =
    (c : Call) (h : Heap) (m : List ℕ) (a : Answer) (h' : Heap) (ks : List Hole) → Fits c → b.outcome c h m ≡ done a h' ks
    → Sound h' ks × (length ks ≤ (h'.top.0 - h'.bottom.0 + 16) / 32)

-- ---- all that is said of the calls, one by one

pub record Statements (b : Behaviour) : Type 0 where
  pub sound_means : SoundMeans b
  pub unopened_is : UnopenedIs b
  pub holes_mean : HolesMean b
  pub refusals_exactly : RefusalsExactly b
  pub refusals_keep : RefusalsKeep b
  pub refusal_numbers : RefusalNumbers b
  pub answer_numbers : AnswerNumbers b
  pub demand2 : Demand2 b
  pub open_does : OpenDoes b
  pub free_does : FreeDoes b
  pub resize_does : ResizeDoes b
  pub same_size_granted : SameSizeGranted b
  pub extend_gathers : ExtendGathers b
  pub extend_grows : ExtendGrows b
  pub room_does : RoomDoes b
  pub list_does : ListDoes b
  pub other_rows : OtherRows b
  pub readers_do : ReadersDo b
  pub memory : Memory b
  pub bytes_stay : BytesStay b
  pub tells_only : TellsOnly b
  pub sound_kept : SoundKept b

-- ---- nothing more can be asked: two behaviours that meet the statements do the same, to the last byte

pub record Same (b e : Behaviour) : Type 0 where
  pub unopened : b.unopened ≡ e.unopened
  pub sound : (h : Heap) (ks : List Hole) → b.sound h ks ≡ e.sound h ks
  -- what an unsound heap's heads are read as is nowhere told
  pub holes : (h : Heap) (m : List ℕ) → Sound h (b.holes h m) → b.holes h m ≡ e.holes h m
  pub outcome : (c : Call) (h : Heap) (m : List ℕ) → Fits c → b.outcome c h m ≡ e.outcome c h m
  pub after : (c : Call) (h : Heap) (m : List ℕ) → Fits c → ((i : ℕ) → get_or m i 0 < 256) → b.after c h m ≡ e.after c h m
  pub rows : (c : Call) (h : Heap) (m : List ℕ) (r : Rows) → b.rows_after c h m r ≡ e.rows_after c h m r
  pub readings : (x : Reader) (h : Heap) → b.reading x h ≡ e.reading x h
  pub numbers : (a : Result Answer Refusal) → b.answer_numbers a ≡ e.answer_numbers a

abbrev pub Determined : Type 0
Determined = (b e : Behaviour) → Statements b → Statements e → Same b e

-- ---- demand 3: "Take two boxes opened alike and given the same calls. Their memories may differ anywhere at the start, and between calls
-- anyone may write any bytes save the first 16 of each hole. [..] both boxes give the same answers, counts and holes, those that follow
-- from the calls alone."

abbrev pub FollowsFromCalls : Type 0
FollowsFromCalls =
    (asks : List Ask) (m : List ℕ) (ts : List Told) (h : Heap) (m' : List ℕ) → AllFit asks → Run asks unopened m ts h m'
    → (ts ≡ tells asks start) × (h ≡ (ends asks start).heap) × (holes h m' ≡ (ends asks start).holes)

-- two are asked the same: only the rows that they are lent may differ, in their numbers and in how many they are
pub data SameAsks : List Ask → List Ask → Type 0 where
  asks_end : SameAsks [] []
  asks_call :
      (c : Call) (r₁ r₂ : Rows) (n : ℕ) {asks₁ asks₂ : List Ask} → SameAsks asks₁ asks₂
      → SameAsks (calls c r₁ n ∷ asks₁) (calls c r₂ n ∷ asks₂)
  asks_reader : (x : Reader) {asks₁ asks₂ : List Ask} → SameAsks asks₁ asks₂ → SameAsks (reads x ∷ asks₁) (reads x ∷ asks₂)

-- how many numbers of each row a call writes: list as many as the first value of its answer, while the shorter row lasts; no other call any
abbrev pub fills : Call → Result Answer Refusal → Rows → ℕ
fills (opening base named) a r = 0
fills (change c) a r = 0
fills (report Report.list) a r = min (answer_numbers a).one (min (length r.addrs) (length r.sizes))
fills (report (Report.room align)) a r = 0

-- the numbers that are written are the same, as far as both rows have them, and every other number of each row is as it was lent
pub record SameRow (n₁ n₂ : ℕ) (lent₁ lent₂ row₁ row₂ : List ℕ) : Type 0 where
  pub long₁ : length row₁ ≡ length lent₁
  pub long₂ : length row₂ ≡ length lent₂
  pub written : (i : ℕ) → i < n₁ → i < n₂ → get_or row₁ i 0 ≡ get_or row₂ i 0
  pub rest₁ : (i : ℕ) → n₁ ≤ i → get_or row₁ i 0 ≡ get_or lent₁ i 0
  pub rest₂ : (i : ℕ) → n₂ ≤ i → get_or row₂ i 0 ≡ get_or lent₂ i 0

abbrev pub SameRows : Call → Result Answer Refusal → Rows → Rows → Rows → Rows → Type 0
SameRows c a r₁ r₂ s₁ s₂ =
    SameRow (fills c a r₁) (fills c a r₂) r₁.addrs r₂.addrs s₁.addrs s₂.addrs
    × SameRow (fills c a r₁) (fills c a r₂) r₁.sizes r₂.sizes s₁.sizes s₂.sizes

-- two are told the same: the same answer with such rows, or the same number
pub data SameTold : List Ask → List Ask → List Told → List Told → Type 0 where
  told_end : SameTold [] [] [] []
  told_answer :
      (c : Call) (r₁ r₂ s₁ s₂ : Rows) (n : ℕ) (a : Result Answer Refusal) {asks₁ asks₂ : List Ask} {ts₁ ts₂ : List Told} → SameRows c a r₁ r₂ s₁ s₂
      → SameTold asks₁ asks₂ ts₁ ts₂
      → SameTold (calls c r₁ n ∷ asks₁) (calls c r₂ n ∷ asks₂) (answers a s₁ ∷ ts₁) (answers a s₂ ∷ ts₂)
  told_number :
      (x : Reader) (v : ℕ) {asks₁ asks₂ : List Ask} {ts₁ ts₂ : List Told} → SameTold asks₁ asks₂ ts₁ ts₂
      → SameTold (reads x ∷ asks₁) (reads x ∷ asks₂) (says v ∷ ts₁) (says v ∷ ts₂)

-- with the same rows too, all that is told is the same
abbrev pub SideBySide : Type 0
SideBySide =
    (asks₁ asks₂ : List Ask) (m₁ m₂ : List ℕ) (ts₁ ts₂ : List Told) (h₁ h₂ : Heap) (m₁' m₂' : List ℕ) → AllFit asks₁
    → SameAsks asks₁ asks₂
    → Run asks₁ unopened m₁ ts₁ h₁ m₁'
    → Run asks₂ unopened m₂ ts₂ h₂ m₂'
    → SameTold asks₁ asks₂ ts₁ ts₂
    × (asks₁ ≡ asks₂ → ts₁ ≡ ts₂)
    × (h₁ ≡ h₂)
    × (holes h₁ m₁' ≡ holes h₂ m₂')

-- no call of a run is refused with 5, and every heap of it is unopened or sound
abbrev pub NeverUnsound : Type 0
NeverUnsound =
    (asks : List Ask) → AllFit asks
    → ((ends asks start ≡ start) ⊎ Sound (ends asks start).heap (ends asks start).holes)
    × ((c : Call) (n : ℕ) → Fits c → comes_to c n (ends asks start) ≡ refused NotSound → ⊥)

-- "If each accepted free names a block then held, with its own size and alignment [..] Holes and held blocks fill the heap without gap or
-- overlap, and no call changes a byte of a block held before and after it."

-- the address y lies in one of the blocks
abbrev pub Occupied : List Block → ℕ → Type 0
Occupied bs y = (b : Block) × Memᴰ b bs × (r : ℕ) × Rounds b.size r × Within b.addr.0 r y

pub record Tiles (b : Box) : Type 0 where
  pub inside : (y : ℕ) → Vacant b.holes y ⊎ Occupied b.held y → (b.heap.bottom.0 ≤ y) × (y < b.heap.top.0)
  pub gapless : (y : ℕ) → b.heap.bottom.0 ≤ y → y < b.heap.top.0 → Vacant b.holes y ⊎ Occupied b.held y
  pub apart : (y : ℕ) → Vacant b.holes y → Occupied b.held y → ⊥
  -- no two holes share an address
  pub holes_apart :
      (front mid back : List Hole) (j k : Hole) → b.holes ≡ front ++ (j ∷ (mid ++ (k ∷ back)))
      → (y : ℕ) → Within j.addr.0 j.size y → Within k.addr.0 k.size y → ⊥
  -- any two held blocks are disjoint
  pub disjoint :
      (front mid back : List Block) (c d : Block) → b.held ≡ front ++ (c ∷ (mid ++ (d ∷ back)))
      → (y r q : ℕ) → Rounds c.size r → Rounds d.size q → Within c.addr.0 r y → Within d.addr.0 q y → ⊥

abbrev pub HeldTile : Type 0
HeldTile = (asks : List Ask) → AllFit asks → Honest asks start → Tiles (ends asks start)

-- a held block's free is accepted
abbrev pub HeldIsFreed : Type 0
HeldIsFreed =
    (asks : List Ask) (b : Block) → AllFit asks → Honest asks start → Memᴰ b (ends asks start).held
    → (h' : Heap) × (ks : List Hole) × (r : ℕ)
    × Rounds b.size r
    × (comes_to (free b.addr b.size b.align) (ends asks start).heap.len (ends asks start)
    ≡ done (Freed r ((ends asks start).heap.used - r)) h' ks)

-- no call changes a byte of a block held before and after it, whether as it was or resized
abbrev pub HeldUntouched : Type 0
HeldUntouched =
    (asks : List Ask) (m : List ℕ) (ts : List Told) (h : Heap) (w m' : List ℕ) (c : Call) (rows : Rows) → AllFit asks → Fits c
    → Run asks unopened m ts h m'
    → Kept h m' w
    → Honest (asks ++ (calls c rows (length w) ∷ [])) start
    → (y : ℕ)
    → Occupied (ends asks start).held y
    → Occupied (ends (asks ++ (calls c rows (length w) ∷ [])) start).held y
    → get_or (after c h w).arena (y - h.base.0) 0 ≡ get_or w (y - h.base.0) 0

-- ---- nothing is loose: two outcomes that meet a call's promise are equal, to the number, the answer, the heap, the arena and the rows

abbrev pub NothingLoose : Type 0
NothingLoose =
    (c : Call) (h : Heap) (m : List ℕ) (r : Rows) (d e : Done) (w v : List ℕ) (s t : Rows) → Is (after c h m) d w → Is (after c h m) e v
    → s ≡ rows_after c h m r
    → t ≡ rows_after c h m r
    → (answer_numbers d.answer ≡ answer_numbers e.answer) × (d ≡ e) × (w ≡ v) × (s ≡ t)
