-- `extend::decide` meets its contract: the tests in front refuse, or the bytes behind top decide. Assumes nothing.
use Rattle.std.proofs.Common.{refl}
use Rattle.rules.specs.Calls.{extend}
use Rattle.rules.proofs.Cases.{handed_on}
use Rattle.rules.proofs.Calls.{extend_on}
use Rattle.rules.proofs.Written.{fulfils_left}
use Rattle.numbers.proofs.Verdicts.{fulfils_no, lends_numbers}
use Rattle.extend.proofs.decide.Goals as goal

pub returns-in_err-loan : goal.returns-in_err-loan
returns-in_err-loan c =
    rw (handed_on c.from_residual.ensures.1) (fulfils_no (extend c.args.by) c.args.h c.args.arena.now refl c.in_err-loan.ensures)

pub returns : goal.returns
returns c =
    let l = c.in_ok-loan.loan in
    let e = c.in_ok-loan.ensures in
    rw (← e.heap, ← e.arena)
    (fulfils_left (extend c.args.by) l.heap l.arena.now _
    (extend_on l.heap l.arena.now l.ready.lent.lent (lends_numbers e) c.args.by)
    c.extend_top.ensures)
