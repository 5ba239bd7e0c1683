-- What a run of calls tells, and the holes that it leaves, follow from the calls alone, whatever the memories; and every heap of a run is
-- unopened or sound. Assumes nothing.
use mathlib.Core.Path.{◌≡◌, refl, sym, ◌∙◌}
use mathlib.Core.Bool.{Bool, false, cond}
use mathlib.Core.List.{List, [], ◌∷◌, Memᴰ}
use mathlib.Core.Logic.{◌⊎◌, inl, inr}
use Prim.Native.Nat.{ℕ, suc, ◌+◌, ◌-◌, ◌≤◌, ◌<◌}
use native.Mathlib.Omega.{arith}
use lib.Dec.{eqb}
use lib.ListN.{length, get_or}
use borrow.Author.Tests.{ne_eqb}
use Rattle.rules.specs.declared.Addr.{Addr}
use Rattle.rules.specs.declared.Hole.{Hole}
use Rattle.rules.specs.declared.Heap.{Heap}
use Rattle.rules.specs.declared.Refusal.{Refusal}
use Rattle.rules.specs.declared.Refusal.TheVariants.{AlreadyOpened, OtherLength}
use Rattle.rules.specs.Tests.{any}
use Rattle.rules.specs.Kinds.{addr, same}
use Rattle.rules.specs.Holes.{holes_from}
use Rattle.rules.specs.Sound.{unopened, most, holes}
use Rattle.rules.specs.Changes.{Change, Report}
use Rattle.rules.specs.Calls.{Call, opening, change, report, Outcome, refused, told, done, accepted}
use Rattle.rules.specs.Answers.{refusal_numbers}
use Rattle.rules.specs.Refusals.{Test, change_tests, report_tests, tests, unless}
use Rattle.rules.specs.Outcome.{decided, outcome, leaves, after, Rows, rows_after}
use Rattle.rules.specs.InWords.{Sound}
use Rattle.rules.specs.Runs.{Fits, Reader, reading, Ask, calls, reads, AllFit, Told, answers, says, Kept, Run, end, own, other, asked, Box, start, comes_to, box_after, answer_of, next_box, tell_box, tells, ends}
use Rattle.rules.specs.Statements.{FollowsFromCalls, NeverUnsound}
use Rattle.std.proofs.lemmas.Bool.{cond_both}
use Rattle.rules.proofs.Cases.{cases, by_eq, apart}
use Rattle.rules.proofs.Lists.{SameHeads, frame}
use Rattle.rules.proofs.Decide.{unless_3, unless_4, rest, Opens, decided_later}
use Rattle.rules.proofs.SoundWords.{ruled_words}
use Rattle.rules.proofs.Good.{sound_decided}
use Rattle.rules.proofs.Passes.{by_change}
use Rattle.rules.proofs.SoundKept.{Keeps, decided_keeps, outcome_keeps}
use Rattle.rules.proofs.MemoryWords.{stands_read}

-- ---- writes between the calls

each_head : (base : Addr) (m w : List ℕ) (ks : List Hole)
    → ((k : Hole) → Memᴰ k ks → (i : ℕ) → k.addr.0 - base.0 ≤ i → i < k.addr.0 - base.0 + 16 → get_or m i 0 ≡ get_or w i 0)
    → SameHeads base m w ks
each_head base m w [] f = tt
each_head base m w (k ∷ ks) f = (f k (Memᴰ.head refl), each_head base m w ks (λ j d. f j (Memᴰ.tail d)))

-- bytes written outside the first 16 of each hole leave the holes as they are
pub kept_holes : (h : Heap) (m w : List ℕ) → Kept h m w → holes h w ≡ holes h m
unfolding holes
kept_holes h m w kept =
    cases (same h.bottom (addr 0))
    (λ e. rw e)
    (λ e.
    rw e
    (frame (suc (most h)) h.base m w h.first
    (each_head h.base m w (holes_from (suc (most h)) h.base m h.first) (λ k d. kept k (rw e d)))))

-- ---- a box on memory, and the box of the calls alone

-- the first has the heap and the holes of the second
pub record Follows (b : Box) (h : Heap) (m : List ℕ) : Type 0 where
  pub heap : h ≡ b.heap
  pub holes : holes h m ≡ b.holes

leaves_follows : (c : Call) (b : Box) (h : Heap) (w : List ℕ) (o : Outcome) → Follows b h w → Keeps (length w) o
    → Follows (box_after c b o) (leaves h w o).heap (leaves h w o).arena
unfolding leaves box_after
leaves_follows c b h w (refused r) f k = f
leaves_follows c b h w (told a ks) f k = f
leaves_follows c b h w (done a h' ks) f k = record { heap = refl; holes = stands_read h' w ks k.0 k.1 }

leaves_answer : (h : Heap) (w : List ℕ) (o : Outcome) → (leaves h w o).answer ≡ answer_of o
unfolding leaves answer_of
leaves_answer h w (refused r) = refl
leaves_answer h w (told a ks) = refl
leaves_answer h w (done a h' ks) = refl

-- where a call comes to the same in both, it is told the same
same_told : (c : Call) (r : Rows) (n : ℕ) (b : Box) (h : Heap) (w : List ℕ) → outcome c h w ≡ comes_to c n b
    → answers (after c h w).answer (rows_after c h w r) ≡ tell_box (calls c r n) b
unfolding after rows_after tell_box
same_told c r n b h w e = rw (e, leaves_answer h w (comes_to c n b))

-- a call on the box's own arena
module _ (c : Call) (n : ℕ) (b : Box) (h : Heap) (m w : List ℕ) (f : Follows b h m) (k : Kept h m w) (e : length w ≡ n) where
  own_outcome : outcome c h w ≡ comes_to c n b
  unfolding outcome
  own_outcome = let p = f.heap in let q = kept_holes h m w k ∙ f.holes in cc

  own_follows : (r : Rows) → Fits c → Follows (next_box (calls c r n) b) (after c h w).heap (after c h w).arena
  unfolding after next_box
  own_follows r fit =
      let before : Follows b h w = record { heap = f.heap; holes = kept_holes h m w k ∙ f.holes } in
      rw (← own_outcome) (leaves_follows c b h w (outcome c h w) before (outcome_keeps c h w fit))

-- a call that is lent memory of another length: it is refused before any hole matters
abbrev elsewhere : Call → Refusal
elsewhere c = cond (Opens c) AlreadyOpened OtherLength

decided_elsewhere : (c : Call) (n : ℕ) (h : Heap) (ks : List Hole) → (h.bottom.0 ≡ 0 → ⊥) → (n ≡ h.len → ⊥)
    → decided c n h ks ≡ refused (elsewhere c)
unfolding decided tests
decided_elsewhere (opening base named) n h ks o d = unfold unless in rw (ne_eqb h.bottom.0 0 o)
decided_elsewhere (change c) n h ks o d = unless_4 n h ks (change_tests c h ks) _ o d
decided_elsewhere (report r) n h ks o d = unless_4 n h ks (report_tests r) _ o d

module _
    (c : Call) (n : ℕ) (b : Box) (h : Heap) (m w : List ℕ) (f : Follows b h m) (o : h.bottom.0 ≡ 0 → ⊥)
    (d : n ≡ h.len → ⊥) (e : length w ≡ n)
  where
    there : outcome c h w ≡ refused (elsewhere c)
    unfolding outcome
    there = rw e (decided_elsewhere c n h (holes h w) o d)

    here : comes_to c n b ≡ refused (elsewhere c)
    here = rw (← f.heap) (decided_elsewhere c n h b.holes o d)

    other_outcome : outcome c h w ≡ comes_to c n b
    other_outcome = there ∙ sym here

    other_follows : (r : Rows) → Follows (next_box (calls c r n) b) (after c h w).heap m
    unfolding after leaves next_box box_after
    other_follows r = rw (there, here) f

-- a reader, which sees the heap alone
module _ (x : Reader) (b : Box) (h : Heap) (m : List ℕ) (f : Follows b h m) where
  asked_told : says (reading x h) ≡ tell_box (reads x) b
  unfolding tell_box
  asked_told = rw f.heap

  asked_follows : Follows (next_box (reads x) b) h m
  unfolding next_box
  asked_follows = f

-- ---- a run

run_follows : {asks : List Ask} {h : Heap} {m : List ℕ} {ts : List Told} {h' : Heap} {m' : List ℕ} (b : Box)
    → Follows b h m → AllFit asks → Run asks h m ts h' m' → (ts ≡ tells asks b) × Follows (ends asks b) h' m'
unfolding tells ends
run_follows b f fit end = (refl, f)
run_follows b f fit (own {c = c} {r = r} {n = n} {h = h} {m = m} w k e run) =
    let ih = run_follows (next_box (calls c r n) b) (own_follows c n b h m w f k e r fit.0) fit.1 run in
    let first = same_told c r n b h w (own_outcome c n b h m w f k e) in
    (rw (first, ih.0), ih.1)
run_follows b f fit (other {c = c} {r = r} {n = n} {h = h} {m = m} w o d e run) =
    let ih = run_follows (next_box (calls c r n) b) (other_follows c n b h m w f o d e r) fit.1 run in
    let first = same_told c r n b h w (other_outcome c n b h m w f o d e) in
    (rw (first, ih.0), ih.1)
run_follows b f fit (asked {x = x} {h = h} {m = m} run) =
    let ih = run_follows (next_box (reads x) b) (asked_follows x b h m f) fit run in
    (rw (asked_told x b h m f, ih.0), ih.1)

-- before the opening every memory will do
fresh : (m : List ℕ) → Follows start unopened m
unfolding holes
fresh m = record { heap = refl; holes = refl }

pub follows_from_calls : FollowsFromCalls
follows_from_calls asks m ts h m' fit run =
    let t = run_follows start (fresh m) fit run in
    (t.0, t.1.heap, t.1.holes)

-- ---- the box of the calls alone: unopened as at the start, or sound

abbrev Whole : Box → Type 0
Whole b = (b ≡ start) ⊎ Sound b.heap b.holes

after_whole : (c : Call) (n : ℕ) (b : Box) (o : Outcome) → Whole b → Keeps n o → Whole (box_after c b o)
unfolding box_after
after_whole c n b (refused r) v k = v
after_whole c n b (told a ks) v k = v
after_whole c n b (done a h ks) v k = inr (ruled_words h ks k.0.ruled k.0.sound)

call_whole : (c : Call) (r : Rows) (n : ℕ) (b : Box) → Fits c → Whole b → Whole (next_box (calls c r n) b)
unfolding next_box
call_whole c r n b fit v = after_whole c n b (comes_to c n b) v (decided_keeps c n b.heap b.holes fit)

ends_whole : (asks : List Ask) (b : Box) → AllFit asks → Whole b → Whole (ends asks b)
unfolding ends next_box
ends_whole [] b fit v = v
ends_whole (calls c r n ∷ asks) b fit v =
    ends_whole asks (next_box (calls c r n) b) fit.1 (call_whole c r n b fit.0 v)
ends_whole (reads x ∷ asks) b fit v = ends_whole asks b fit v

-- ---- no call of it is refused with 5

abbrev five : Refusal → Bool
five r = eqb (refusal_numbers r).no 5

abbrev NoFive : Outcome → Type 0
NoFive (refused r) = five r ≡ false
NoFive (told a ks) = Unit {0}
NoFive (done a h ks) = Unit {0}

-- none of the tests gives 5
abbrev Spare : List Test → Type 0
Spare [] = Unit {0}
Spare (t ∷ ts) = (five t.gives ≡ false) × Spare ts

unless_spare : (ts : List Test) (o : Outcome) → Spare ts → NoFive o → NoFive (unless ts o)
unfolding unless
unless_spare [] o s n = n
unless_spare (t ∷ ts) o s n =
    cond_both (any t.«exactly_if») (refused t.gives) (unless ts o) NoFive (λ e. s.0) (λ e. unless_spare ts o s.1 n)

change_spare : (c : Change) (h : Heap) (ks : List Hole) → Spare (change_tests c h ks)
unfolding refusal_numbers
change_spare (Change.allocate s align) h ks = (refl, tt)
change_spare (Change.free x s align) h ks = (refl, (refl, tt))
change_spare (Change.resize x s align n) h ks = (refl, (refl, (refl, (refl, tt))))
change_spare (Change.extend by) h ks = (refl, tt)

report_spare : (r : Report) → Spare (report_tests r)
unfolding refusal_numbers
report_spare Report.list = tt
report_spare (Report.room align) = (refl, tt)

-- behind 3, 4 and 5
rest_spare : (c : Call) (n : ℕ) (h : Heap) (ks : List Hole) → NoFive (unless (rest c h ks) (accepted c n h ks))
unfolding unless accepted
rest_spare (opening base named) n h ks = tt
rest_spare (change c) n h ks =
    unless_spare (change_tests c h ks) _ (change_spare c h ks) (by_change NoFive h ks (λ r e. e) (λ a h' js e p. tt) c n)
rest_spare (report r) n h ks = unless_spare (report_tests r) _ (report_spare r) tt

later_spare : (c : Call) (n : ℕ) (b : Box) → Opens c ≡ false → Whole b → NoFive (comes_to c n b)
unfolding refusal_numbers
later_spare c n b later (inl e) =
    rw (decided_later c n b.heap b.holes later, unless_3 n b.heap b.holes (rest c b.heap b.holes) _ (rw e))
later_spare c n b later (inr s) =
    by_eq n b.heap.len
    (λ d. rw (sound_decided c n b.heap b.holes later d s) (rest_spare c n b.heap b.holes))
    (λ d.
    rw (decided_elsewhere c n b.heap b.holes (λ z. omega (arith, s.0.base, s.0.bottom.above)) d, later))

whole_spare : (c : Call) (n : ℕ) (b : Box) → Whole b → NoFive (comes_to c n b)
unfolding decided tests accepted refusal_numbers
whole_spare (opening base named) n b v =
    unless_spare (tests (opening base named) n b.heap b.holes) _ (refl, (refl, tt)) tt
whole_spare (change c) n b v = later_spare (change c) n b refl v
whole_spare (report r) n b v = later_spare (report r) n b refl v

pub never_unsound : NeverUnsound
unfolding refusal_numbers
never_unsound asks fit =
    let v = ends_whole asks start fit (inl refl) in
    (v, λ c n f e. apart refl (rw e at (whole_spare c n (ends asks start) v)))
