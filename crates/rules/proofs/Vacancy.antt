-- Which addresses are free after a free: those that were, and those of the span. Assumes nothing.
use mathlib.Core.List.{List}
use mathlib.Core.Logic.{◌⊎◌, inl, inr, ⊎_elim}
use Prim.Native.Nat.{ℕ}
use native.Mathlib.Omega.{arith}
use Rattle.rules.specs.declared.Hole.{Hole}
use Rattle.rules.specs.Free.{freed}
use Rattle.rules.specs.InWords.{Vacant}
use Rattle.rules.proofs.Cases.{by_le}
use Rattle.rules.proofs.Totals.{freed_added}
use Rattle.rules.proofs.Cover.{Inside, cover, once_in, once_inside, once_adds, vacant_cover, cover_vacant}

pub freed_vacates : (g : Hole) (ks : List Hole) (y : ℕ)
    → (Vacant (freed g ks) y → Vacant ks y ⊎ Inside g y) × (Vacant ks y ⊎ Inside g y → Vacant (freed g ks) y)
freed_vacates g ks y =
    let s = freed_added (once_adds y) g ks in (
      λ v.
          by_le 1 (cover y ks)
          (λ l. inl (cover_vacant y ks l))
          (λ l. inr (once_inside y g (omega (arith, vacant_cover y (freed g ks) v)))),
      ⊎_elim
          (λ v. cover_vacant y (freed g ks) (omega (arith, vacant_cover y ks v)))
          (λ w. cover_vacant y (freed g ks) (omega (arith, once_in y g w))),
    )
