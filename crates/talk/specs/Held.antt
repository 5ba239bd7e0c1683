-- What a contract sees of a buffer. Definitions only.
use Rattle.std.specs.Prelude.{List, ℕ}

-- the bytes that it holds, and what stands in the room behind them, of which no clause speaks
pub record Held : Type 0 where
  pub items : List ℕ
  pub spare : List ℕ
