-- What a call leans on once a walk has come to the end: a loan whose holes keep every rule. Definitions only.
use Rattle.std.specs.Prelude.{◌≡◌, true, List, ℕ}
use Rattle.rules.specs.Sound.{sound_holes, holes}
use Rattle.rules.specs.declared.Heap.{Heap}
use Rattle.numbers.specs.Ready.{Ready}

pub record Settled (h : Heap) (m : List ℕ) : Type 0 where
  pub ready : Ready h m
  pub sound : sound_holes h (holes h m) ≡ true
