-- What a heap becomes is one heap: its seven numbers are fixed. Assumes nothing.
use mathlib.Core.Path.{◌≡◌, refl, sym, ◌∙◌}
use mathlib.Core.List.{List, [], ◌∷◌}
use Prim.Native.Nat.{ℕ}
use native.Mathlib.Omega.{arith}
use Rattle.rules.specs.declared.Hole.{Hole}
use Rattle.rules.specs.declared.Heap.{Heap}
use Rattle.rules.specs.Kinds.{addr, place}
use Rattle.rules.specs.Statements.{Becomes}

module _ {t p u : ℕ} {h₁ h₂ : Heap} where
  first_one : (h : Heap) (ks : List Hole) → Becomes h ks t p u h₁ → Becomes h ks t p u h₂ → h₁.first.0 ≡ h₂.first.0
  first_one h [] b c = b.none refl ∙ sym (c.none refl)
  first_one h (k ∷ ks) b c = omega (arith, b.first k ks refl, c.first k ks refl)

  pub one_heap : {h : Heap} {ks : List Hole} → Becomes h ks t p u h₁ → Becomes h ks t p u h₂ → h₁ ≡ h₂
  one_heap {h} {ks} b c =
      let base = b.base ∙ sym c.base in
      let len = b.len ∙ sym c.len in
      let bottom = b.bottom ∙ sym c.bottom in
      let top = b.new_top ∙ sym c.new_top in
      let first = first_one h ks b c in
      let pending = b.new_pending ∙ sym c.new_pending in
      let used = b.new_used ∙ sym c.new_used in
      λ i.
      record {
        base = base i;
        len = len i;
        bottom = bottom i;
        top = addr (top i);
        first = place (first i);
        pending = pending i;
        used = used i;
      }
