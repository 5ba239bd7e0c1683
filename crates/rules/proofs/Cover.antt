-- How often stretches cover an address: a count that adds up where they are split, joined or taken together. Assumes nothing.
use mathlib.Core.Path.{◌≡◌}
use mathlib.Core.Bool.{cond}
use mathlib.Core.List.Memᴰ
use mathlib.Core.List.{List, [], ◌∷◌, Memᴰ}
use mathlib.Core.Logic.{⊎_elim}
use Prim.Native.Nat.{ℕ, ◌+◌, ◌≤◌, ◌<◌}
use native.Mathlib.Omega.{arith}
use lib.Dec.{leb, ltb}
use borrow.Author.Tests.{le-leb, lt-leb, lt-ltb, le-ltb}
use Rattle.rules.specs.declared.Hole.{Hole}
use Rattle.rules.specs.Holes.{end}
use Rattle.rules.specs.Free.{joined}
use Rattle.rules.specs.InWords.{Within, Vacant}
use Rattle.rules.proofs.Cases.{by_le, some_first, some_later}
use Rattle.rules.proofs.Totals.{added, Adds}

-- the address y lies in the hole k
abbrev pub Inside : Hole → ℕ → Type 0
Inside k y = Within k.addr.0 k.size y

-- 1 if the address y lies in the stretch k, else 0
unfoldable pub once : ℕ → Hole → ℕ
once y k = cond (leb k.addr.0 y) (cond (ltb y (end k).0) 1 0) 0

-- how often the stretches cover y
abbrev pub cover : ℕ → List Hole → ℕ
cover y ks = added (once y) ks

-- ---- one stretch

module _ (y : ℕ) (k : Hole) where
  pub once_in : Inside k y → once y k ≡ 1
  unfolding once
  once_in w = rw (le-leb k.addr.0 y w.0, lt-ltb y (end k).0 w.1)

  pub once_before : y < k.addr.0 → once y k ≡ 0
  unfolding once
  once_before l = rw (lt-leb k.addr.0 y l)

  pub once_behind : (end k).0 ≤ y → once y k ≡ 0
  unfolding once
  once_behind l = rw (le-leb k.addr.0 y (omega arith), le-ltb y (end k).0 l)

  by_once {ℓ} : {X : Type ℓ} → (Inside k y → once y k ≡ 1 → X) → (y < k.addr.0 → once y k ≡ 0 → X)
      → ((end k).0 ≤ y → once y k ≡ 0 → X) → X
  by_once f g h =
      by_le k.addr.0 y
      (λ a. by_le (end k).0 y (λ b. h b (once_behind b)) (λ b. f (a, b) (once_in (a, b))))
      (λ a. g a (once_before a))

  pub once_inside : 1 ≤ once y k → Inside k y
  once_inside l = by_once (λ w e. w) (λ a e. absurd (omega arith)) (λ a e. absurd (omega arith))

  pub once_most : once y k ≤ 1
  once_most = by_once (λ w e. omega arith) (λ a e. omega arith) (λ a e. omega arith)

-- two that touch
pub joined_once : (y : ℕ) (g k : Hole) → (end g).0 ≡ k.addr.0 → once y (joined g k) ≡ once y g + once y k
joined_once y g k t =
    by_once y g
    (λ w e. omega (arith, once_before y k (omega arith), once_in y (joined g k) (omega arith)))
    (λ l e. omega (arith, once_before y k (omega arith), once_before y (joined g k) l))
    (λ l e.
    by_once y k
    (λ w q. omega (arith, once_in y (joined g k) (omega arith)))
    (λ d q. absurd (omega arith))
    (λ d q. omega (arith, once_behind y (joined g k) (omega arith))))

pub once_adds : (y : ℕ) → Adds (once y)
once_adds y =
    record {
      empty = λ k z. by_once y k (λ w e. absurd (omega arith)) (λ a e. e) (λ a e. e);
      joins = joined_once y;
    }

-- ---- several

module _ (y : ℕ) where
  pub cover_member : (ks : List Hole) (k : Hole) → Memᴰ k ks → once y k ≤ cover y ks
  unfolding added
  cover_member [] k m = absurd (Memᴰ.not-nil m)
  cover_member (j ∷ js) k m =
      ⊎_elim (λ e. rw e (omega arith)) (λ t. omega (arith, cover_member js k t)) (Memᴰ.cases_cons m)

  -- two stretches that differ
  pub cover_two : (ks : List Hole) (j k : Hole) → Memᴰ j ks → Memᴰ k ks → (j ≡ k → ⊥)
      → once y j + once y k ≤ cover y ks
  unfolding added
  cover_two [] j k m n d = absurd (Memᴰ.not-nil m)
  cover_two (i ∷ is) j k m n d =
      ⊎_elim
      (λ e.
      ⊎_elim
      (λ f. let z : j ≡ k = cc in absurd (d z))
      (λ t. rw e (omega (arith, cover_member is k t)))
      (Memᴰ.cases_cons n))
      (λ (s : Memᴰ j is).
      ⊎_elim
      (λ f. rw f (omega (arith, cover_member is j s)))
      (λ t. omega (arith, cover_two is j k s t d))
      (Memᴰ.cases_cons n))
      (Memᴰ.cases_cons m)

  pub vacant_cover : (ks : List Hole) → Vacant ks y → 1 ≤ cover y ks
  vacant_cover ks v = omega (arith, cover_member ks v.0 v.1, once_in y v.0 v.2)

  pub cover_vacant : (ks : List Hole) → 1 ≤ cover y ks → Vacant ks y
  unfolding added
  cover_vacant [] l = absurd (omega arith)
  cover_vacant (k ∷ ks) l =
      by_once y k
      (λ w e. some_first (λ j. Inside j y) w)
      (λ a e. some_later (λ j. Inside j y) (cover_vacant ks (omega arith)))
      (λ a e. some_later (λ j. Inside j y) (cover_vacant ks (omega arith)))
