-- What a call leaves as it was: a refusal everything, a call that only tells heap and memory, every call but list its rows; and that
-- no more than one outcome meets a promise. Assumes nothing.
use mathlib.Core.Path.{◌≡◌, refl, sym, ◌∙◌}
use mathlib.Core.List.{List, []}
use Rattle.std.proofs.Common.{Result}
use Prim.Native.Nat.{ℕ, min}
use lib.ListN.{length, take}
use lib.Seq.{take-nil}
use Rattle.rules.specs.declared.Hole.{Hole}
use Rattle.rules.specs.declared.Heap.{Heap}
use Rattle.rules.specs.declared.Done.{Done}
use Rattle.rules.specs.declared.Answer.{Answer}
use Rattle.rules.specs.declared.Refusal.{Refusal}
use Rattle.rules.specs.Sound.{holes}
use Rattle.rules.specs.Changes.{Report}
use Rattle.rules.specs.Calls.{Call, opening, change, report, list, Outcome, accepted}
use Rattle.rules.specs.Outcome.{decided, outcome, leaves, after, Rows, over, in_rows, leaves_rows, rows_after}
use Rattle.rules.specs.Behaviour.{ours}
use Rattle.rules.specs.Statements.{RefusalsKeep, TellsOnly, OtherRows, NothingLoose}
use Rattle.rules.proofs.Calls.{answer_refused, answer_told, rows_refused}
use Rattle.rules.proofs.Passes.{by_decided, by_change}

pub refusals_keep : RefusalsKeep ours
unfolding after leaves
refusals_keep c h m rows r e = (answer_refused c h m r e, rw e, rw e, rows_refused c h m r rows e)

pub tells_only : TellsOnly ours
unfolding after leaves
tells_only c h m a ks e = (answer_told c h m a ks e, rw e, rw e)

-- what is handed back is known by its answer and its heap
done_is : (d : Done) {a : Result Answer Refusal} {h : Heap} → d.answer ≡ a → d.heap ≡ h → d ≡ record { answer = a; heap = h }
done_is d p q = rw (← p, ← q)

pub nothing_loose : NothingLoose
nothing_loose c h m r d e w v s t p q x y =
    (rw (p.0, q.0), done_is d p.0 p.1 ∙ sym (done_is e q.0 q.1), p.2 ∙ sym q.2, x ∙ sym y)

-- ---- the rows

none_over : (n : ℕ) (row : List ℕ) → over (take n []) row ≡ row
unfolding over
none_over n row = rw (take-nil {A = ℕ} n)

module _ (r : Rows) where
  abbrev Stays : Outcome → Type 0
  Stays o = leaves_rows r o ≡ r

  accepted_stays : (c : Call) (len : ℕ) (h : Heap) (ks : List Hole) → (c ≡ list → ⊥) → Stays (accepted c len h ks)
  unfolding accepted leaves_rows in_rows
  accepted_stays (opening base named) len h ks n = refl
  accepted_stays (change c) len h ks n = by_change Stays h ks (λ x e. refl) (λ a h' js b p. refl) c len
  accepted_stays (report Report.list) len h ks n = absurd (n refl)
  accepted_stays (report (Report.room align)) len h ks n =
      let k = min (length r.addrs) (length r.sizes) in
      rw (none_over k r.addrs, none_over k r.sizes)

  pub rows_stay : (c : Call) (len : ℕ) (h : Heap) (ks : List Hole) → (c ≡ list → ⊥) → Stays (decided c len h ks)
  rows_stay c len h ks n =
      by_decided Stays c len h ks
      (λ q. unfold leaves_rows in refl)
      (λ p. accepted_stays c len h ks n)

pub other_rows : OtherRows ours
unfolding rows_after outcome
other_rows c h m r n = rows_stay r c (length m) h (holes h m) n
