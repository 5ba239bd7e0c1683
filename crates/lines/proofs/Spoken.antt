-- What is printed of a call: its answer's line and, of a list, the lines of its holes. Assumes nothing.
use mathlib.Core.Path.{◌≡◌, refl, sym, ◌∙◌}
use mathlib.Core.Bool.{Bool, true, false}
use mathlib.Core.List.{List, [], ◌++◌, append-nil}
use Prim.Native.Nat.{ℕ, ◌+◌, ◌*◌, ◌/◌, ◌≤◌}
use native.Mathlib.Omega.{arith}
use lib.ListN.{length}
use lib.Dec.{eqb}
use Rattle.std.proofs.Common.{Ok}
use lib.Seq.{take-nil}
use borrow.Author.Tests.{eqb-true, not-false}
use Rattle.rules.specs.declared.Hole.{Hole}
use Rattle.rules.specs.declared.Heap.{Heap}
use Rattle.rules.specs.declared.Refusal.{Refusal}
use Rattle.rules.specs.declared.Refusal.TheVariants as no
use Rattle.rules.specs.declared.Answer.TheVariants.{Listed}
use Rattle.rules.specs.Fixed.{min_size}
use Rattle.rules.specs.Sound.{sound_numbers, sound_holes, holes}
use Rattle.rules.specs.Changes.{Report}
use Rattle.rules.specs.Calls.{Call, opening, change, report, list, Outcome, refused, told, done, accepted}
use Rattle.rules.specs.Refusals.{tests}
use Rattle.rules.specs.Answers.{refusal_numbers, answer_numbers}
use Rattle.rules.specs.Outcome.{outcome, leaves, after, Rows, over, in_rows, leaves_rows}
use Rattle.std.proofs.lemmas.Bool.{or_parts}
use Rattle.rules.proofs.Cases.{apart}
use Rattle.rules.proofs.Walk.{sound_fair, sound_count}
use Rattle.rules.proofs.Passes.{by_change, by_decided}
use Rattle.lines.specs.Wire.{numbers_line, hole_lines, spoken}

-- the holes that an outcome prints
unfoldable pub shown : Outcome → List Hole
shown (refused r) = []
shown (told a ks) = ks
shown (done a h ks) = []

-- an answer's line, then a line for each hole
pub spoken_is : (h : Heap) (m : List ℕ) (o : Outcome)
    → spoken o ≡ numbers_line (answer_numbers (leaves h m o).answer) ++ hole_lines (shown o)
unfolding spoken leaves answer_numbers hole_lines shown
spoken_is h m (refused r) = sym (append-nil (numbers_line (refusal_numbers r)))
spoken_is h m (told a ks) = refl
spoken_is h m (done a h' ks) = sym (append-nil (numbers_line (answer_numbers (Ok a))))

-- ---- the calls that print one line

-- list prints more
abbrev pub lists : Call → Bool
lists (opening base named) = false
lists (change c) = false
lists (report Report.list) = true
lists (report (Report.room align)) = false

-- and no other call does
pub lists_list : (c : Call) → lists c ≡ true → c ≡ list
lists_list (opening base named) e = apart e refl
lists_list (change c) e = apart e refl
lists_list (report Report.list) e = refl
lists_list (report (Report.room align)) e = apart e refl

accepted_shown : (c : Call) (len : ℕ) (h : Heap) (ks : List Hole) → lists c ≡ false → shown (accepted c len h ks) ≡ []
unfolding accepted shown
accepted_shown (opening base named) len h ks e = refl
accepted_shown (change c) len h ks e = by_change (λ o. shown o ≡ []) h ks (λ r q. refl) (λ a h' js q p. refl) c len
accepted_shown (report Report.list) len h ks e = apart refl e
accepted_shown (report (Report.room align)) len h ks e = refl

pub call_shown : (c : Call) (h : Heap) (m : List ℕ) → lists c ≡ false → shown (outcome c h m) ≡ []
unfolding outcome shown
call_shown c h m e =
    by_decided (λ o. shown o ≡ []) c (length m) h (holes h m) (λ r. refl) (λ p. accepted_shown c (length m) h (holes h m) e)

pub spoken_line : (c : Call) (h : Heap) (m : List ℕ) → lists c ≡ false
    → spoken (outcome c h m) ≡ numbers_line (answer_numbers (after c h m).answer)
unfolding after hole_lines
spoken_line c h m e = spoken_is h m (outcome c h m) ∙ rw (call_shown c h m e) (append-nil _)

-- ---- a report changes nothing

pub report_stays : (r : Report) (h : Heap) (m : List ℕ) → (h ≡ (after (report r) h m).heap) × (m ≡ (after (report r) h m).arena)
unfolding after outcome accepted leaves
report_stays r h m =
    by_decided (λ o. (h ≡ (leaves h m o).heap) × (m ≡ (leaves h m o).arena)) (report r) (length m) h (holes h m)
    (λ x. (refl, refl)) (λ p. (refl, refl))

-- ---- the list

-- a refusal has 0 where the list has its number of holes
refusal_one : (r : Refusal) → (refusal_numbers r).one ≡ 0
unfolding refusal_numbers
refusal_one no.BadOpening = refl
refusal_one no.AlreadyOpened = refl
refusal_one no.Unopened = refl
refusal_one no.OtherLength = refl
refusal_one no.NotSound = refl
refusal_one no.BadLayout = refl
refusal_one (no.NoRoom count) = refl
refusal_one no.BadSpan = refl
refusal_one no.PastArena = refl
refusal_one no.BadStretch = refl

-- an arena of a length has room for so many holes of a sound heap: the heap lies in the arena
sound_few : (h : Heap) (ks : List Hole) {len : ℕ} → len ≡ h.len → sound_numbers h ≡ true → sound_holes h ks ≡ true
    → length ks ≤ (len + min_size) / (2 * min_size)
sound_few h ks l n e = let f = sound_fair h n in omega (arith, sound_count h f ks e)

-- the answer has the number of the holes printed, the arena has room for them, and the rows hold them
pub record Listing (h : Heap) (m : List ℕ) (o : Outcome) : Type 0 where
  pub count : (answer_numbers (leaves h m o).answer).one ≡ length (shown o)
  pub few : length (shown o) ≤ (length m + min_size) / (2 * min_size)
  pub rows : (r : Rows) → leaves_rows r o ≡ in_rows (shown o) r

refused_listing : (h : Heap) (m : List ℕ) (r : Refusal) → Listing h m (refused r)
unfolding leaves answer_numbers shown leaves_rows in_rows over
refused_listing h m r = record { count = refusal_one r; few = omega arith; rows = λ rs. simp take-nil }

told_listing : (h : Heap) (m : List ℕ) (bytes : ℕ) (ks : List Hole) → length ks ≤ (length m + min_size) / (2 * min_size)
    → Listing h m (told (Listed (length ks) bytes) ks)
unfolding leaves answer_numbers shown leaves_rows
told_listing h m bytes ks few = record { count = refl; few = few; rows = λ rs. refl }

-- where the list is not refused, the tests have shown that the arena has the heap's length, and that the heap is sound
pub listing : (h : Heap) (m : List ℕ) → Listing h m (outcome list h m)
unfolding outcome tests accepted
listing h m =
    let ks = holes h m in
    by_decided (Listing h m) list (length m) h ks (refused_listing h m)
    (λ (unopened, (lent, (numbers, (its, behind)))).
    told_listing h m _ ks
    (sound_few h ks (eqb-true (length m) h.len (not-false (eqb (length m) h.len) (or_parts _ _ lent).0))
    (not-false (sound_numbers h) (or_parts _ _ numbers).0) (not-false (sound_holes h ks) (or_parts _ _ its).0)))
