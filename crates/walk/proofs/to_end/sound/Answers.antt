-- `walk::to_end::sound` meets its contract: a walk from the first place and the first floor decides the rules on the holes. Assumes
-- nothing.
use Rattle.std.proofs.Common.{ap, arith}
use Rattle.rules.specs.declared.Addr.{Addr}
use Rattle.walk.proofs.Turn.{start}
use Rattle.walk.proofs.ToEnd.{sound_from}
use Rattle.walk.proofs.to_end.sound.Goals as goal

pub finish-requires : goal.finish-requires
finish-requires c =
    let l = c.args.loan in
    let t = start l.heap l.arena.now l.ready.lent.fair in
    let floor = ap (λ (a : Addr). a.0) c.first_floor.ensures in
    (omega (arith, t.bottom, floor), omega (arith, t.low, floor))

pub returns : goal.returns
returns c =
    let l = c.args.loan in
    let t = start l.heap l.arena.now l.ready.lent.fair in
    let floor = ap (λ (a : Addr). a.0) c.first_floor.ensures in
    sound_from l.heap l.arena.now l.ready.lent.fair c.finish.ensures (omega (arith, t.bottom, floor))
