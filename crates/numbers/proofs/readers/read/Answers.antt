-- `numbers::readers::read` meets its contract: where the heap is readable no sum wraps and no difference goes below 0. Assumes nothing.
use mathlib.Core.Path.{refl, sym, ◌∙◌}
use native.Mathlib.Omega.{arith}
use Rattle.numbers.proofs.Reading.{readable_is, says_own, says_none}
use Rattle.numbers.proofs.readers.read.Goals as goal

pub fair_size-size-requires : goal.fair_size-size-requires
fair_size-size-requires c = omega (arith, readable_is c.args.h (sym c.readable.ensures ∙ c.if-readable.true))

pub overflow_add-result : goal.overflow_add-result
overflow_add-result c = omega (arith, readable_is c.args.h (sym c.readable.ensures ∙ c.if-readable.true))

pub overflow_sub-result : goal.overflow_sub-result
overflow_sub-result c = omega (arith, readable_is c.args.h (sym c.readable.ensures ∙ c.if-readable.true))

pub returns-then-readable : goal.returns-then-readable
returns-then-readable c =
    says_own c.args.h _ (sym c.readable.ensures ∙ c.if-readable.true) refl refl c.fair_size-size.ensures refl
    (omega (arith, c.fair_size-size.ensures))

pub returns : goal.returns
returns c = says_none c.args.h (sym c.readable.ensures ∙ c.if-readable.false)
