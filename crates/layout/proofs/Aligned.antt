-- The alignment of a layout is a power of two, and no larger than a size may be. Assumes nothing.
use Rattle.std.proofs.Common.{ℕ, arith}
use borrow.Author.Tests.{eqb-true}
use Rattle.std.specs.Int.Count.{ones_in}
use Rattle.rules.specs.Fixed.{width}
use Rattle.rules.specs.Round.{Power}
use Rattle.rules.proofs.Powers.{one_power_lem}
use Rattle.layout.specs.Asked.{Asked}

pub asked_power : {s align : ℕ} → Asked s align → Power align
asked_power {align = align} a =
    one_power_lem width align (omega (arith, a.room)) (eqb-true (ones_in width align) 1 a.power)
