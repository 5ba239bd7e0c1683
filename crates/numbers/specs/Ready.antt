-- What a call leans on once the tests on a heap's numbers have passed. Definitions only.
use Rattle.std.specs.Prelude.{List, ℕ}
use Rattle.rules.specs.declared.Heap.{Heap}
use Rattle.rules.specs.Inner.{Bytes, Lent}

-- as many of the rules on the numbers as a walk uses, and an arena of bytes of the length that they say
pub record Ready (h : Heap) (m : List ℕ) : Type 0 where
  pub lent : Lent h m
  pub bytes : Bytes m
