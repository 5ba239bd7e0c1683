-- The loan that a heap and an arena make. Definitions only.
use Rattle.std.specs.Prelude.{◌≡◌, Ok, List, ℕ, length}
use Rattle.rules.specs.declared.Heap.{Heap}
use Rattle.numbers.specs.declared.loan.Loan.{Loan}
use Rattle.numbers.specs.Checks.{checked_of}

pub record Lends (h : Heap) (m : List ℕ) (l : Loan) : Type 0 where
  pub checked : checked_of (length m) h ≡ Ok tt
  pub heap : l.heap ≡ h
  pub arena : l.arena.now ≡ m
