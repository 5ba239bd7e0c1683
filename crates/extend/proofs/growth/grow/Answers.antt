-- `extend::growth::grow` meets its contract: the span at top is inserted, and top rises by it. Assumes nothing.
use Rattle.extend.proofs.Extending.{grown_is}
use Rattle.extend.proofs.growth.grow.Goals as goal

pub returns : goal.returns
returns c =
    let l = c.args.sound.loan in
    grown_is l.heap l.arena.now c.args.by l.ready.lent.fair c.insert-list.ensures
