-- What a call leans on once refusal 6 has let a rounded size and its alignment through. Definitions only.
use Rattle.std.specs.Prelude.{◌≡◌, true, ℕ, ◌+◌, ◌≤◌}
use Rattle.rules.specs.Fixed.{min_size, addr_limit}
use Rattle.rules.specs.Refusals.{one_power}

pub record Asked (size align : ℕ) : Type 0 where
  pub power : one_power align ≡ true
  pub least : min_size ≤ size
  pub room : size + align ≤ addr_limit
