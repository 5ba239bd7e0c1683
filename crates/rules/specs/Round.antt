-- Multiples: rounding down and up, as what it means and as what computes. Definitions only.
use Rattle.std.specs.Prelude.{◌≡◌, ℕ, ◌+◌, ◌-◌, ◌%◌, ◌^◌, ◌≤◌}

-- a power of two
pub record Power (a : ℕ) : Type 0 where
  pub exponent : ℕ
  pub is : a ≡ 2 ^ exponent

-- r is the greatest multiple of a at or below x
pub record Below (a x r : ℕ) : Type 0 where
  pub multiple : r % a ≡ 0
  pub below : r ≤ x
  pub greatest : (y : ℕ) → y % a ≡ 0 → y ≤ x → y ≤ r

-- r is the least multiple of a at or above x
pub record Above (a x r : ℕ) : Type 0 where
  pub multiple : r % a ≡ 0
  pub above : x ≤ r
  pub least : (y : ℕ) → y % a ≡ 0 → x ≤ y → r ≤ y

-- x rounded down to a multiple of a
abbrev pub down_to : ℕ → ℕ → ℕ
down_to a x = x - x % a

-- x rounded up to a multiple of a
abbrev pub up_to : ℕ → ℕ → ℕ
up_to a x = down_to a (x + (a - 1))
