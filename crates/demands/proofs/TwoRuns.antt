-- Two runs of the same calls, each with rows of its own: what they tell is the same, and so are the holes that they leave. Assumes nothing.
use mathlib.Core.Path.{◌≡◌, refl, sym, ap, ◌∙◌}
use mathlib.Core.List.{List}
use Prim.Native.Nat.{ℕ}
use native.Mathlib.Omega.{arith}
use Rattle.rules.specs.declared.Refusal.{Refusal}
use Rattle.rules.specs.declared.Refusal.TheVariants.{BadOpening, AlreadyOpened, Unopened, OtherLength, NotSound, BadLayout, NoRoom, BadSpan, PastArena, BadStretch}
use Rattle.rules.specs.Changes.{Report}
use Rattle.rules.specs.Calls.{Call, opening, change, report, list, room, Outcome, refused, accepted}
use Rattle.rules.specs.Answers.{refusal_numbers, answer_numbers}
use Rattle.rules.specs.Outcome.{Rows, leaves_rows}
use Rattle.rules.specs.Runs.{reading, Ask, AllFit, Box, start, comes_to, answer_of, next_box, tell_box, tells, ends}
use Rattle.rules.specs.Statements.{SameAsks, asks_end, asks_call, asks_reader, SameRow, SameRows, SameTold, told_end, told_answer, told_number, SideBySide}
use Rattle.rules.proofs.Passes.{by_decided}
use Rattle.rules.proofs.Unaltered.{rows_stay}
use Rattle.rules.proofs.Reports.{in_rows_lem}
use Rattle.demands.proofs.OneRow.{same_row, unwritten}
use Rattle.demands.proofs.RunLaws.{follows_from_calls}

-- ---- one call

-- the first value of a refusal is 0
refused_zero : (x : Refusal) → (refusal_numbers x).one ≡ 0
unfolding refusal_numbers
refused_zero BadOpening = refl
refused_zero AlreadyOpened = refl
refused_zero Unopened = refl
refused_zero OtherLength = refl
refused_zero NotSound = refl
refused_zero BadLayout = refl
refused_zero (NoRoom n) = refl
refused_zero BadSpan = refl
refused_zero PastArena = refl
refused_zero BadStretch = refl

module _ (r₁ r₂ : Rows) where
  -- what comes of a call leaves rows that are the same where they are written
  abbrev Leaves : Call → Outcome → Type 0
  Leaves c o = SameRows c (answer_of o) r₁ r₂ (leaves_rows r₁ o) (leaves_rows r₂ o)

  list_refused : (x : Refusal) → Leaves list (refused x)
  unfolding answer_of answer_numbers leaves_rows
  list_refused x =
      let z = refused_zero x in (
        unwritten r₁.addrs r₂.addrs _ _ (omega arith) (omega arith),
        unwritten r₁.sizes r₂.sizes _ _ (omega arith) (omega arith),
      )

  list_leaves : (n : ℕ) (b : Box) → Leaves list (comes_to list n b)
  unfolding accepted answer_of answer_numbers leaves_rows
  list_leaves n b =
      by_decided (Leaves list) list n b.heap b.holes list_refused
      (λ p.
      let one = in_rows_lem b.holes r₁ in
      let two = in_rows_lem b.holes r₂ in (
        same_row (λ k. k.addr.0) b.holes _ _ r₁.addrs r₂.addrs _ _ one.0 two.0,
        same_row (λ k. k.size) b.holes _ _ r₁.sizes r₂.sizes _ _ one.1 two.1,
      ))

  -- a call that is no list leaves them as they were lent
  other_leaves : (c : Call) (n : ℕ) (b : Box) → (c ≡ list → ⊥)
      → SameRow 0 0 r₁.addrs r₂.addrs (leaves_rows r₁ (comes_to c n b)).addrs (leaves_rows r₂ (comes_to c n b)).addrs
      × SameRow 0 0 r₁.sizes r₂.sizes (leaves_rows r₁ (comes_to c n b)).sizes (leaves_rows r₂ (comes_to c n b)).sizes
  other_leaves c n b d =
      rw (rows_stay r₁ c n b.heap b.holes d, rows_stay r₂ c n b.heap b.holes d) (
        unwritten r₁.addrs r₂.addrs 0 0 refl refl,
        unwritten r₁.sizes r₂.sizes 0 0 refl refl,
      )

  call_leaves : (c : Call) (n : ℕ) (b : Box) → Leaves c (comes_to c n b)
  call_leaves (opening base named) n b = other_leaves (opening base named) n b (λ e. cc)
  call_leaves (change c) n b = other_leaves (change c) n b (λ e. cc)
  call_leaves (report Report.list) n b = list_leaves n b
  call_leaves (report (Report.room align)) n b = other_leaves (room align) n b (λ e. cc)

-- ---- all of them

tells_same : {asks₁ asks₂ : List Ask} (b : Box) → SameAsks asks₁ asks₂ → SameTold asks₁ asks₂ (tells asks₁ b) (tells asks₂ b)
unfolding tells tell_box next_box
tells_same b asks_end = told_end
tells_same b (asks_call c r₁ r₂ n same) =
    told_answer c r₁ r₂ _ _ n _ (call_leaves r₁ r₂ c n b) (tells_same _ same)
tells_same b (asks_reader x same) = told_number x (reading x b.heap) (tells_same b same)

ends_same : {asks₁ asks₂ : List Ask} (b : Box) → SameAsks asks₁ asks₂ → ends asks₁ b ≡ ends asks₂ b
unfolding ends next_box
ends_same b asks_end = refl
ends_same b (asks_call c r₁ r₂ n same) = ends_same _ same
ends_same b (asks_reader x same) = ends_same b same

fit_same : {asks₁ asks₂ : List Ask} → SameAsks asks₁ asks₂ → AllFit asks₁ → AllFit asks₂
fit_same asks_end f = f
fit_same (asks_call c r₁ r₂ n same) f = (f.0, fit_same same f.1)
fit_same (asks_reader x same) f = fit_same same f

pub side_by_side : SideBySide
side_by_side asks₁ asks₂ m₁ m₂ ts₁ ts₂ h₁ h₂ m₁' m₂' fit same run₁ run₂ =
    let p = follows_from_calls asks₁ m₁ ts₁ h₁ m₁' fit run₁ in
    let q = follows_from_calls asks₂ m₂ ts₂ h₂ m₂' (fit_same same fit) run₂ in
    let e = ends_same start same in (
      rw (p.0, q.0) (tells_same start same),
      λ d. p.0 ∙ ap (λ (asks : List Ask). tells asks start) d ∙ sym q.0,
      p.1 ∙ ap (λ (b : Box). b.heap) e ∙ sym q.1,
      p.2 ∙ ap (λ (b : Box). b.holes) e ∙ sym q.2,
    )
