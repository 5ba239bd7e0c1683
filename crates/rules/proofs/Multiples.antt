-- Multiples and rounding, for any modulus above 0: each number has one multiple next below it and one next above, and `down_to` and
-- `up_to` compute them. Assumes nothing.
use mathlib.Core.Path.{◌≡◌, ap, ◌∙◌}
use Prim.Native.Nat.{ℕ, ◌+◌, ◌-◌, ◌*◌, ◌/◌, ◌%◌, ◌≤◌, ◌<◌}
use native.Mathlib.Omega.{arith, by_contra}
use native.Mathlib.Nat.{div-add-mod', mod-lt, mul-mod_left, mul-le-mul_right, suc-mul, dvd_trans, dvd_of_mod-eq-zero, mod-eq-zero_of_dvd}
use Rattle.rules.specs.Round.{Below, Above, down_to, up_to}
use Rattle.rules.proofs.Cases.{by_le}

-- ---- multiples

-- two multiples of a are equal or at least a apart
pub multiples_apart : (a c x : ℕ) → c % a ≡ 0 → x % a ≡ 0 → c < x → c + a ≤ x
multiples_apart a c x ec ex l =
    let dc : c / a * a + c % a ≡ c = div-add-mod' c a in
    let dx : x / a * a + x % a ≡ x = div-add-mod' x a in
    by_le (x / a) (c / a)
    (λ h. absurd (omega (arith, mul-le-mul_right a h)))
    (λ h. omega (arith, mul-le-mul_right a h, suc-mul (c / a) a))

-- the multiples of a multiple of a are multiples of a
pub multiple_trans : (a b x : ℕ) → x % b ≡ 0 → b % a ≡ 0 → x % a ≡ 0
multiple_trans a b x ex eb =
    mod-eq-zero_of_dvd a (dvd_trans a (dvd_of_mod-eq-zero a eb) (dvd_of_mod-eq-zero b ex))

-- ---- rounding down

pub down_is : (a x : ℕ) → 0 < a → Below a x (down_to a x)
down_is a x pos =
    let d : x / a * a + x % a ≡ x = div-add-mod' x a in
    let e : down_to a x ≡ x / a * a = omega arith in
    let m : down_to a x % a ≡ 0 = ap (λ (n : ℕ). n % a) e ∙ mul-mod_left (x / a) a in
    let l : x % a < a = mod-lt x pos in
    record {
      multiple = m;
      below = omega arith;
      greatest =
          λ y ey h. by_contra y (down_to a x) (λ k. omega (arith, multiples_apart a (down_to a x) y m ey k));
    }

pub below_is : {a x r : ℕ} → 0 < a → Below a x r → r ≡ down_to a x
below_is {a} {x} {r} pos p =
    let q = down_is a x pos in
    omega (arith, q.greatest r p.multiple p.below, p.greatest (down_to a x) q.multiple q.below)

-- ---- rounding up

pub up_near : (a x : ℕ) → 0 < a → up_to a x < x + a
up_near a x pos = omega arith

pub up_is : (a x : ℕ) → 0 < a → Above a x (up_to a x)
up_is a x pos =
    let b : Below a (x + (a - 1)) (up_to a x) = down_is a (x + (a - 1)) pos in
    let n : up_to a x < x + a = up_near a x pos in
    let l : (x + (a - 1)) % a < a = mod-lt (x + (a - 1)) pos in
    record {
      multiple = b.multiple;
      above = omega arith;
      least =
          λ y ey h. by_contra (up_to a x) y (λ k. omega (arith, multiples_apart a y (up_to a x) ey b.multiple k));
    }

pub above_is : {a x r : ℕ} → 0 < a → Above a x r → r ≡ up_to a x
above_is {a} {x} {r} pos p =
    let q = up_is a x pos in
    omega (arith, q.least r p.multiple p.above, p.least (up_to a x) q.multiple q.above)

-- what rounds x + (a - 1) down rounds x up
pub below_above : {a x r : ℕ} → 0 < a → Below a (x + (a - 1)) r → Above a x r
below_above {a} {x} {r} pos p = rw (below_is pos p) (up_is a x pos)
