-- The calls on an opened heap, with their numbers: those that change it, and those that report on it. Definitions only.
use Rattle.std.specs.Prelude.{ℕ}
use Rattle.rules.specs.declared.Addr.{Addr}

pub data Change : Type 0 where
  -- size, alignment
  allocate : ℕ → ℕ → Change
  -- address, size, alignment
  free : Addr → ℕ → ℕ → Change
  -- address, old size, alignment, new size
  resize : Addr → ℕ → ℕ → ℕ → Change
  -- by
  extend : ℕ → Change

pub data Report : Type 0 where
  list : Report
  -- alignment
  room : ℕ → Report
