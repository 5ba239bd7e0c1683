-- `numbers::checks::lend` meets its contract: what the tests let pass is what a loan is known for. Assumes nothing.
use Rattle.std.proofs.Common.{sym, ◌∙◌}
use Rattle.numbers.proofs.Verdicts.{ready}
use Rattle.numbers.proofs.checks.lend.Goals as goal

pub invariant_of-result : goal.invariant_of-result
invariant_of-result c =
    record {
      ready = ready c.args.h c.args.arena.now c.arena_len.ensures.1 (rw (← c.arena_len.ensures.0) (sym c.check.ensures ∙ c.in_ok-check.was));
    }
