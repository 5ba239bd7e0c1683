-- A test and a statement that say the same; so say the tests behind each refusal and the paper's words for it. Assumes nothing.
use mathlib.Core.Path.{◌≡◌, refl, subst}
use mathlib.Core.Bool.{Bool, true, false, ◌&&◌, ◌||◌, or-false}
use mathlib.Core.List.Memᴰ
use mathlib.Core.List.{List, [], ◌∷◌, Memᴰ}
use mathlib.Core.Logic.{◌⊎◌, inl, inr, ⊎_elim}
use Prim.Native.Nat.{ℕ, ◌+◌, ◌-◌, ◌%◌, ◌^◌, ◌<◌}
use native.Mathlib.Omega.{arith}
use lib.Dec.{ltb}
use lib.Count.{ones_in}
use borrow.Author.Tests.{eqb-true, eq-eqb, ltb-true, lt-ltb}
use Rattle.std.proofs.Common.{Decides}
use Rattle.std.proofs.Math.Bool.{and-true}
use Rattle.std.proofs.lemmas.Bool.{false_from_ne_true}
use Rattle.std.proofs.lemmas.Bool.Decides.{Decides-at, Decides-like, Decides-not, Decides-and, Decides-or, Decides-eqb, Decides-ltb}
use Rattle.rules.specs.declared.Addr.{Addr}
use Rattle.rules.specs.declared.Hole.{Hole}
use Rattle.rules.specs.declared.Heap.{Heap}
use Rattle.rules.specs.Fixed.{width}
use Rattle.rules.specs.Round.{Power}
use Rattle.rules.specs.Tests.{all, any}
use Rattle.rules.specs.Holes.{hole}
use Rattle.rules.specs.Allocate.{rounded}
use Rattle.rules.specs.Free.{overlaps, eight_to_hole}
use Rattle.rules.specs.Calls.{only_hole}
use Rattle.rules.specs.Refusals.{refusal1, one_power, refusal6, refusal8}
use Rattle.rules.specs.InWords.{most_bytes, end_of, Rounds, Left, NoStart, NoLayout, NoSpan}
use Rattle.rules.proofs.Cases.{apart, Some, some_first, some_later, some_cases}
use Rattle.rules.proofs.Powers.{one_power_lem, power_one}
use Rattle.rules.proofs.Layouts.{rounded_least}
use Rattle.rules.proofs.SoundWords.{rounded_rounds, rounds_rounded, left_is, is_left}

-- ---- what is made of tests

pub means_fails : {b : Bool} {P : Type 0} → Decides b P → (P → ⊥) → b ≡ false
means_fails {b} m n = false_from_ne_true b (λ e. n (m.0 e))

-- the last test of a list
pub means_last : {b : Bool} {P : Type 0} → Decides b P → Decides (b || false) P
means_last {b} m = Decides-at (b || false) b (or-false b) m

means_both : {b c : Bool} {P Q : Type 0} → Decides b P → Decides c Q → Decides (all (b ∷ c ∷ [])) (P × Q)
means_both {b} {c} m n = Decides-and b (c && true) m (Decides-at (c && true) c (and-true c) n)

-- one of the holes
means_some : (P : Hole → Type 0) {b c : Bool} (k : Hole) (ks : List Hole) → Decides b (P k) → Decides c (Some P ks)
    → Decides (b || c) (Some P (k ∷ ks))
means_some P {b} {c} k ks m n =
    Decides-like (b || c) (⊎_elim (some_first P) (some_later P)) (λ t. some_cases P t inl inr) (Decides-or b c m n)

-- the rounded size is the only one that the paper's words fit
pub means_rounds : (P : ℕ → Type 0) {b : Bool} (s : ℕ) → Decides b (P (rounded s)) → Decides b ((r : ℕ) × Rounds s r × P r)
means_rounds P {b} s m =
    Decides-like b (λ p. (rounded s, rounded_rounds s, p)) (λ t. subst P (rounds_rounded t.1) t.2) m

-- ---- refusal 1

pub no_start : (len : ℕ) (base : Addr) (named : ℕ) → Decides (any (refusal1 len base named)) (NoStart len base.0 named)
no_start len base named =
    Decides-or _ _ (Decides-eqb base.0 0)
    (Decides-or _ _ (Decides-ltb most_bytes len)
    (Decides-or _ _ (Decides-ltb (2 ^ 63) (base.0 + len)) (Decides-or _ _ (Decides-ltb len named) (means_last small))))
  where
    s : ℕ
    s = (only_hole base named).size

    small : Decides (ltb s 16) ((bottom : ℕ) × (s : ℕ) × Left base.0 named bottom s × (s < 16))
    small = (
      λ e. (_, s, is_left base.0 named, ltb-true s 16 e),
      λ t. lt-ltb s 16 (omega (arith, (left_is t.2).1, t.3)),
    )

-- ---- refusal 6

pub means_power : (align : ℕ) → align < 2 ^ 64 → Decides (one_power align) (Power align)
means_power align l = (
  λ e. one_power_lem width align l (eqb-true (ones_in width align) 1 e),
  λ p. eq-eqb (ones_in width align) 1 (power_one width p l),
)

pub no_layout : (s align : ℕ) → align < 2 ^ 64 → Decides (any (refusal6 s align)) (NoLayout s align)
no_layout s align l =
    Decides-or _ _ (Decides-not _ (means_power align l)) (means_last (means_rounds (λ r. 2 ^ 63 < r + align) s large))
  where
    large : Decides (ltb (2 ^ 63 - align) (rounded s)) (2 ^ 63 < rounded s + align)
    large = (
      λ e. omega (arith, ltb-true (2 ^ 63 - align) (rounded s) e, rounded_least s),
      λ g. lt-ltb (2 ^ 63 - align) (rounded s) (omega (arith, rounded_least s)),
    )

-- ---- refusal 8

module _ (x : Addr) (r : ℕ) where
  overlap_means : (ks : List Hole)
      → Decides (overlaps (hole x r) ks) ((k : Hole) × Memᴰ k ks × ((x.0 < end_of k) × (k.addr.0 < x.0 + r)))
  unfolding overlaps
  overlap_means [] = (λ e. apart e refl, λ t. absurd (Memᴰ.not-nil t.1))
  overlap_means (k ∷ ks) =
      means_some (λ j. (x.0 < end_of j) × (j.addr.0 < x.0 + r)) k ks
      (means_both (Decides-ltb x.0 (end_of k)) (Decides-ltb k.addr.0 (x.0 + r)))
      (overlap_means ks)

  eight_means : (ks : List Hole)
      → Decides (eight_to_hole (hole x r) ks) ((k : Hole) × Memᴰ k ks × ((x.0 + r + 8 ≡ k.addr.0) ⊎ (end_of k + 8 ≡ x.0)))
  unfolding eight_to_hole
  eight_means [] = (λ e. apart e refl, λ t. absurd (Memᴰ.not-nil t.1))
  eight_means (k ∷ ks) =
      means_some (λ j. (x.0 + r + 8 ≡ j.addr.0) ⊎ (end_of j + 8 ≡ x.0)) k ks
      (Decides-or _ _ (Decides-eqb (x.0 + r + 8) k.addr.0) (means_last (Decides-eqb (end_of k + 8) x.0)))
      (eight_means ks)

  pub no_span : (h : Heap) (ks : List Hole) (align : ℕ)
      → Decides (any (refusal8 h ks (hole x r) align)) (NoSpan h ks x.0 r align)
  no_span h ks align =
      Decides-or _ _ (Decides-not _ (Decides-eqb (x.0 % 8) 0))
      (Decides-or _ _ (Decides-not _ (Decides-eqb (x.0 % align) 0))
      (Decides-or _ _ (Decides-ltb x.0 h.bottom.0)
      (Decides-or _ _ (Decides-ltb h.top.0 (x.0 + r))
      (Decides-or _ _
      (λ e. let t = (overlap_means ks).0 e in (t.0, t.1, t.2.0, t.2.1), λ t. (overlap_means ks).1 (t.0, t.1, (t.2, t.3)))
      (Decides-or _ _ (eight_means ks)
      (Decides-or _ _ (Decides-eqb (h.bottom.0 + 8) x.0) (means_last (Decides-eqb (x.0 + r + 8) h.top.0))))))))
