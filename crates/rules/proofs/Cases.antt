-- Going by cases on a test, with the test's equation in hand; lists of tests, test by test; one of a list. Assumes nothing.
use mathlib.Core.Path.{◌≡◌, refl, sym, ap, subst, ◌∙◌}
use Rattle.std.proofs.Common.{Result, Err, IsErrAnd}
use Rattle.std.proofs.lemmas.Result.{err_from_is_err_and}
use mathlib.Core.Bool.{Bool, true, false, ◌||◌, cond, or-false}
use mathlib.Core.List.Memᴰ
use mathlib.Core.List.{List, [], ◌∷◌, Memᴰ}
use mathlib.Core.Logic.{⊎_elim}
use Prim.Native.Nat.{ℕ, ◌≤◌, ◌<◌}
use lib.Dec.{leb, eqb}
use borrow.Author.Tests.{leb-true, leb-false, eqb-true, eqb-false}
use Rattle.std.proofs.lemmas.Bool.{and_parts, and_from, or_parts, or_from}
use Rattle.rules.specs.Tests.{all, any}

pub cases {ℓ} : {X : Type ℓ} (b : Bool) → (b ≡ true → X) → (b ≡ false → X) → X
cases true f g = f refl
cases false f g = g refl

pub by_eq {ℓ} : {X : Type ℓ} (a b : ℕ) → (a ≡ b → X) → ((a ≡ b → ⊥) → X) → X
by_eq a b f g = cases (eqb a b) (λ e. f (eqb-true a b e)) (λ e. g (eqb-false a b e))

pub by_le {ℓ} : {X : Type ℓ} (a b : ℕ) → (a ≤ b → X) → (b < a → X) → X
by_le a b f g = cases (leb a b) (λ e. f (leb-true a b e)) (λ e. g (leb-false a b e))

-- what holds of both arms of a test holds of its choice
pub by_test {ℓ κ} : {A : Type ℓ} (P : A → Type κ) (b : Bool) (x y : A) → (b ≡ true → P x) → (b ≡ false → P y) → P (cond b x y)
by_test P true x y f g = f refl
by_test P false x y f g = g refl

-- true and false are two
pub apart {ℓ} : {X : Type ℓ} {b : Bool} → b ≡ true → b ≡ false → X
apart e f = cc

-- ---- two tests

-- the last of several tests, once the others have failed
pub last : (a : Bool) → (a || false) ≡ true → a ≡ true
last a e = sym (or-false a) ∙ e

-- ---- a list of tests

-- each test has the value t
abbrev pub Each : Bool → List Bool → Type 0
Each t [] = Unit {0}
Each t (b ∷ bs) = (b ≡ t) × Each t bs

pub all_each : (bs : List Bool) → all bs ≡ true → Each true bs
all_each [] e = tt
all_each (b ∷ bs) e = let p = and_parts b (all bs) e in (p.0, all_each bs p.1)

pub each_all : (bs : List Bool) → Each true bs → all bs ≡ true
each_all [] p = refl
each_all (b ∷ bs) p = and_from b (all bs) p.0 (each_all bs p.1)

pub any_each : (bs : List Bool) → any bs ≡ false → Each false bs
any_each [] e = tt
any_each (b ∷ bs) e = let p = or_parts b (any bs) e in (p.0, any_each bs p.1)

pub each_any : (bs : List Bool) → Each false bs → any bs ≡ false
each_any [] p = refl
each_any (b ∷ bs) p = or_from b (any bs) p.0 (each_any bs p.1)

-- ---- one of a list

-- one of them has the property P
abbrev pub Some : {A : Type 0} → (A → Type 0) → List A → Type 0
Some {A} P ks = (k : A) × Memᴰ k ks × P k

module _ {A : Type 0} (P : A → Type 0) {k : A} {ks : List A} where
  pub some_first : P k → Some P (k ∷ ks)
  some_first p = (k, Memᴰ.head refl, p)

  pub some_later : Some P ks → Some P (k ∷ ks)
  some_later s = (s.0, Memᴰ.tail s.1, s.2)

  pub some_cases {ℓ} : {X : Type ℓ} → Some P (k ∷ ks) → (P k → X) → (Some P ks → X) → X
  some_cases (j, m, p) f g = ⊎_elim (λ e. f (subst P e p)) (λ t. g (j, t, p)) (Memᴰ.cases_cons m)

-- ---- the exit of a `?`: it returns the refusal that the callee gave

pub handed_on : {T E : Type 0} {r : Result T E} {e : E} → IsErrAnd r (λ y. y ≡ e) → r ≡ Err e
handed_on {r = r} i = let p = err_from_is_err_and r i in p.1 ∙ ap Err p.2
