-- A call whose number is not 0 leaves all that it was lent, and tells zeros; one whose number is 0 has passed its tests. Assumes nothing.
use mathlib.Core.Path.{◌≡◌, refl, ap, ◌∙◌}
use mathlib.Core.List.{List, []}
use Prim.Native.Nat.{ℕ}
use native.Mathlib.Omega.{arith}
use lib.ListN.{length}
use Rattle.std.proofs.Common.{Result, Ok}
use Rattle.rules.specs.declared.Heap.{Heap}
use Rattle.rules.specs.declared.Refusal.{Refusal}
use Rattle.rules.specs.declared.Refusal.TheVariants.{BadOpening, AlreadyOpened, Unopened, OtherLength, NotSound, BadLayout, NoRoom, BadSpan, PastArena, BadStretch}
use Rattle.rules.specs.declared.Answer.{Answer}
use Rattle.rules.specs.declared.Answer.TheVariants.{Opened, Allocated, Freed, Resized, Extended, Listed, Room}
use Rattle.rules.specs.Sound.{holes}
use Rattle.rules.specs.Changes.{Report}
use Rattle.rules.specs.Calls.{Call, opening, change, report, list, Outcome, accepted}
use Rattle.rules.specs.Answers.{answer_numbers, refusal_numbers}
use Rattle.rules.specs.Refusals.{tests}
use Rattle.rules.specs.Outcome.{outcome, leaves, after, Rows, rows, leaves_rows, rows_after}
use Rattle.rules.proofs.Passes.{Passes, by_decided, by_change}
use Rattle.c_face.specs.Face.{heap_of, words_of}
use Rattle.c_face.specs.Statements.{RefusedLeaves, RefusedTells, RefusedRows}
use Rattle.c_face.proofs.Returned.{words_return}

-- the number of an answer
abbrev pub number_of : Result Answer Refusal → ℕ
number_of a = (answer_numbers a).no

refusal_above : (r : Refusal) → (refusal_numbers r).no ≡ 0 → ⊥
unfolding refusal_numbers
refusal_above BadOpening e = omega arith
refusal_above AlreadyOpened e = omega arith
refusal_above Unopened e = omega arith
refusal_above OtherLength e = omega arith
refusal_above NotSound e = omega arith
refusal_above BadLayout e = omega arith
refusal_above (NoRoom count) e = omega arith
refusal_above BadSpan e = omega arith
refusal_above PastArena e = omega arith
refusal_above BadStretch e = omega arith

accepted_zero : (a : Answer) → number_of (Ok a) ≡ 0
unfolding answer_numbers
accepted_zero (Opened a n) = refl
accepted_zero (Allocated a n) = refl
accepted_zero (Freed x y) = refl
accepted_zero (Resized x y) = refl
accepted_zero (Extended x y) = refl
accepted_zero (Listed x y) = refl
accepted_zero (Room x y) = refl

-- ---- a number other than 0 is a refusal's

-- what is said of every refusal is said of an outcome whose number is not 0
module _ (P : Outcome → Type 0) (h : Heap) (m : List ℕ) (f : (r : Refusal) → P (Outcome.refused r)) where
  abbrev Else : Outcome → Type 0
  Else o = (number_of (leaves h m o).answer ≡ 0 → ⊥) → P o

  accepted_else : (c : Call) → Else (accepted c (length m) h (holes h m))
  unfolding accepted leaves answer_numbers
  accepted_else (opening base named) n = absurd (n refl)
  accepted_else (change x) n =
      by_change Else h (holes h m) (λ r e k. f r) (λ a h' js b p k. absurd (k (accepted_zero a))) x (length m) n
  accepted_else (report Report.list) n = absurd (n refl)
  accepted_else (report (Report.room align)) n = absurd (n refl)

  by_refused : (c : Call) → (number_of (after c h m).answer ≡ 0 → ⊥) → P (outcome c h m)
  unfolding after outcome
  by_refused c n = by_decided Else c (length m) h (holes h m) (λ r k. f r) (λ p. accepted_else c) n

-- ---- the number 0 is no refusal's

pub accepted_passes : (c : Call) (h : Heap) (m : List ℕ) → number_of (after c h m).answer ≡ 0 → Passes (tests c (length m) h (holes h m))
unfolding after outcome leaves answer_numbers
accepted_passes c h m z =
    by_decided (λ o. number_of (leaves h m o).answer ≡ 0 → Passes (tests c (length m) h (holes h m))) c (length m) h (holes h m)
    (λ r e. absurd (refusal_above r e))
    (λ p e. p)
    z

-- ---- what a refusal leaves

-- the two values that an outcome tells
abbrev Told : Heap → List ℕ → Outcome → Type 0
Told h m o = let a = answer_numbers (leaves h m o).answer in (a.one ≡ 0) × ((a.no ≡ 7 → ⊥) → a.two ≡ 0)

refusal_zeros : (h : Heap) (m : List ℕ) (r : Refusal) → Told h m (Outcome.refused r)
unfolding leaves answer_numbers refusal_numbers
refusal_zeros h m BadOpening = (refl, λ n. refl)
refusal_zeros h m AlreadyOpened = (refl, λ n. refl)
refusal_zeros h m Unopened = (refl, λ n. refl)
refusal_zeros h m OtherLength = (refl, λ n. refl)
refusal_zeros h m NotSound = (refl, λ n. refl)
refusal_zeros h m BadLayout = (refl, λ n. refl)
refusal_zeros h m (NoRoom count) = (refl, λ n. absurd (n refl))
refusal_zeros h m BadSpan = (refl, λ n. refl)
refusal_zeros h m PastArena = (refl, λ n. refl)
refusal_zeros h m BadStretch = (refl, λ n. refl)

-- the heap, the arena and the rows
abbrev Kept : Heap → List ℕ → Rows → Outcome → Type 0
Kept h m rows o =
    ((leaves h m o).heap ≡ h) × ((leaves h m o).arena ≡ m) × (leaves_rows rows o ≡ rows) × Told h m o

refusal_keeps : (h : Heap) (m : List ℕ) (rows : Rows) (r : Refusal) → Kept h m rows (Outcome.refused r)
unfolding leaves leaves_rows
refusal_keeps h m rows r = (refl, refl, refl, refusal_zeros h m r)

module _ (c : Call) (h : Heap) (m : List ℕ) (rows : Rows) (n : number_of (after c h m).answer ≡ 0 → ⊥) where
  kept : Kept h m rows (outcome c h m)
  kept = by_refused (Kept h m rows) h m (refusal_keeps h m rows) c n

pub refused_leaves : RefusedLeaves
unfolding after rows_after
refused_leaves c s t n =
    let ws = s.words in
    let (heap, arena, same, told) =
    kept c (heap_of ws) s.bytes (rows [] []) (λ e. n (t.shows.0.0 ∙ e)) in
    record {
      words = t.shows.1 ∙ ap words_of heap ∙ words_return ws t.seven;
      bytes = t.shows.2 ∙ arena;
      zeros = rw (t.shows.0.0, t.shows.0.1) (record { one = told.0; two = told.1 });
    }

pub refused_tells : RefusedTells
unfolding after
refused_tells x ws m number answer t n =
    let (heap, arena, same, told) = kept (report x) (heap_of ws) m (rows [] []) (λ e. n (t.0 ∙ e)) in
    rw (t.0, t.1) (record { one = told.0; two = told.1 })

pub refused_rows : RefusedRows
unfolding rows_after
refused_rows ws m before left number answer t n =
    let (heap, arena, same, told) = kept list (heap_of ws) m before (λ e. n (t.0.0 ∙ e)) in
    t.1 ∙ same
