-- `reports::filling::fill` meets its contract: at each turn the holes passed stand in both rows. Assumes nothing.
use Rattle.std.proofs.Common.{Ok, ap, ◌∙◌, arith}
use Rattle.walk.proofs.Turn.{turn_bounds}
use Rattle.reports.proofs.Filled.{fills, fills_on, fills_ended, fills_unbroken, fills_full}
use Rattle.reports.proofs.filling.fill.Goals as goal

pub loop-i-init : goal.loop-i-init
loop-i-init c = rw c.first_floor-floor.ensures (fills _ _ _ _ c.args.sound.loan.ready.lent.fair)

pub returns-in_default : goal.returns-in_default
returns-in_default c =
    let e = c.min-i-end.ensures in
    fills_ended _ _ _ _ c.loop-i.invariant c.next.ensures (omega arith) (cc)

pub returns-in_default-2 : goal.returns-in_default-2
returns-in_default-2 c =
    fills_unbroken _ _ _ _ c.loop-i.invariant c.next.ensures c.args.sound.settled.sound c.in_default.is

pub behind-floor-requires : goal.behind-floor-requires
behind-floor-requires c = omega (arith, turn_bounds c.loop-i.invariant.gone c.next.ensures (c.in-Ok-Some.is ∙ ap Ok c.in-Ok-Some.field-0-is))

pub loop-i-preserved : goal.loop-i-preserved
loop-i-preserved c =
    let e = c.min-i-end.ensures in
    rw c.behind-floor.ensures (fills_on _ _ _ _ c.loop-i.invariant c.next.ensures (omega arith) (c.in-Ok-Some.is ∙ ap Ok c.in-Ok-Some.field-0-is))

pub returns : goal.returns
returns c =
    let e = c.min-i-end.ensures in
    fills_full _ _ _ _ c.loop-i.invariant (omega arith)
