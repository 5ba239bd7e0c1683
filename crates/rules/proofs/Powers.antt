-- Powers of two, at any width: known by their count of ones, the mask that takes a remainder, and how they stand to 8. Assumes nothing.
use mathlib.Core.Path.{◌≡◌, refl, sym, ap, ◌∙◌}
use mathlib.Core.Logic.{◌⊎◌, inl, inr}
use Prim.Native.Nat.{ℕ, zero, suc, ◌+◌, ◌-◌, ◌*◌, ◌/◌, ◌%◌, ◌^◌, ◌≤◌, ◌<◌}
use native.Mathlib.Omega.{arith}
use native.Mathlib.Nat.{pow-suc}
use lib.Pow.{pow_pos, pow_mono}
use lib.Bits.{bit_and, and_mask}
use lib.Count.{ones, ones_in, ones_step, ones_cat}
use Rattle.std.proofs.lemmas.Nat.{zero_from_ones}
use Rattle.rules.specs.Fixed.{grain}
use Rattle.rules.specs.Round.{Power}
use Rattle.rules.proofs.Cases.{by_eq, by_le}

pub power_pos : {a : ℕ} → Power a → 0 < a
power_pos p = rw p.is (pow_pos p.exponent)

-- the greatest power of two with k + 1 digits is 2 ^ k
pub power_half : {a : ℕ} (k : ℕ) → Power a → a < 2 ^ suc k → a ≤ 2 ^ k
power_half {a} k p l =
    by_le p.exponent k
    (λ h. rw p.is (pow_mono h))
    (λ h. let e : a ≡ 2 ^ p.exponent = p.is in absurd (omega (arith, pow_mono {i = suc k} h)))

-- one less than a power of two keeps the remainder, so no division is needed
pub mask : {a : ℕ} (x : ℕ) → Power a → bit_and x (a - 1) ≡ x % a
mask x p = rw p.is (and_mask x p.exponent)

-- ---- the count of ones

-- the count of a number of k digits is the same however many more are looked at
pub ones_in_lem : (k a : ℕ) → a < 2 ^ k → ones a ≡ ones_in k a
unfolding ones_in ones
ones_in_lem zero a l = let z : a ≡ 0 = omega arith in ap ones z
ones_in_lem (suc k) a l =
    let e : 2 ^ suc k ≡ 2 ^ k * 2 = pow-suc 2 k in
    ones_step a ∙ ap (λ (n : ℕ). a % 2 + n) (ones_in_lem k (a / 2) (omega arith))

double : (a : ℕ) → a % 2 ≡ 0 → Power (a / 2) → Power a
double a e p =
    let h : a / 2 ≡ 2 ^ p.exponent = p.is in
    let d : 2 ^ suc p.exponent ≡ 2 ^ p.exponent * 2 = pow-suc 2 p.exponent in
    record { exponent = suc p.exponent; is = omega arith }

pub one_power_lem : (k a : ℕ) → a < 2 ^ k → ones_in k a ≡ 1 → Power a
unfolding ones_in
one_power_lem zero a l e = absurd (omega arith)
one_power_lem (suc k) a l e =
    let p : 2 ^ suc k ≡ 2 ^ k * 2 = pow-suc 2 k in
    by_eq (a % 2) 0
    (λ z. double a z (one_power_lem k (a / 2) (omega arith) (omega arith)))
    (λ z.
    let h : a / 2 < 2 ^ k = omega arith in
    let none : ones_in k (a / 2) ≡ 0 = omega arith in
    let r : a / 2 ≡ 0 = zero_from_ones (a / 2) (ones_in_lem k (a / 2) h ∙ none) in
    record { exponent = 0; is = omega arith })

one_bit : (e : ℕ) → ones (2 ^ e) ≡ 1
unfolding ones_in ones
one_bit e =
    let is : 2 ^ e ≡ 1 * 2 ^ e + 0 = omega arith in
    ap ones is ∙ ones_cat e 1 0 (pow_pos e)

pub power_one : (k : ℕ) {a : ℕ} → Power a → a < 2 ^ k → ones_in k a ≡ 1
power_one k {a} p l = sym (ones_in_lem k a l) ∙ rw p.is (one_bit p.exponent)

-- ---- against 8, the grain of addresses and sizes

pub grain_power : Power grain
grain_power = record { exponent = 3; is = refl }

eight : (e : ℕ) → (8 % 2 ^ e ≡ 0) ⊎ ((16 ≤ 2 ^ e) × (2 ^ e % 8 ≡ 0))
eight zero = inl refl
eight (suc zero) = inl refl
eight (suc (suc zero)) = inl refl
eight (suc (suc (suc zero))) = inl refl
eight (suc (suc (suc (suc e)))) =
    let p : 0 < 2 ^ e = pow_pos e in
    let q : 2 ^ suc (suc (suc (suc e))) ≡ 2 ^ e * 16 = omega arith in
    inr (omega arith, omega arith)

-- a power of two divides 8, or is a multiple of 8 that leaves room for a head
pub eight_or_more : {a : ℕ} → Power a → (8 % a ≡ 0) ⊎ ((16 ≤ a) × (a % 8 ≡ 0))
eight_or_more p = rw p.is (eight p.exponent)
