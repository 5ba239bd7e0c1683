-- `extend::growth::extend_top` meets its contract: the search from top and the sum decide the rules on the holes, the bytes that the
-- arena has left refusal 9. Assumes nothing.
use Rattle.std.proofs.Common.{sym, ◌∙◌, arith}
use Rattle.rules.specs.Sound.{holes}
use Rattle.rules.specs.Inner.{extending}
use Rattle.rules.proofs.Cases.{handed_on}
use Rattle.rules.proofs.Written.{fulfils_broken}
use Rattle.walk.proofs.ToEnd.{or_5_kept, or_5_broken}
use Rattle.joining.proofs.Neighbours.{Sought, near_broken}
use Rattle.extend.proofs.Extending.{top_sound, top_free, Fits, past_is, gathers_is, grows_is}
use Rattle.extend.proofs.growth.extend_top.Goals as goal

pub returns-in_err-near : goal.returns-in_err-near
returns-in_err-near c =
    let h = c.args.loan.heap in
    let m = c.args.loan.arena.now in
    let b = near_broken h m h.top c.args.loan.ready.lent.fair (sym c.neighbours.ensures ∙ c.in_err-near.was) in
    rw (handed_on c.from_residual.ensures.1, b.0)
    (fulfils_broken h m (holes h m) (extending c.args.by h (holes h m)) b.1)

pub returns-in_err-add_up : goal.returns-in_err-add_up
returns-in_err-add_up c =
    let h = c.args.loan.heap in
    let m = c.args.loan.arena.now in
    let k : Sought h m h.top c.in_ok-near.near =
    record { fair = c.args.loan.ready.lent.fair; found = sym c.neighbours.ensures ∙ c.in_ok-near.was } in
    let b = or_5_broken (sym c.add_up.ensures ∙ c.in_err-add_up.was) in
    rw (handed_on c.from_residual-in_err-add_up.ensures.1, b.1)
    (fulfils_broken h m (holes h m) (extending c.args.by h (holes h m)) (top_sound k ∙ b.0))

pub returns-then-room-by : goal.returns-then-room-by
returns-then-room-by c =
    let h = c.args.loan.heap in
    let m = c.args.loan.arena.now in
    let f = c.args.loan.ready.lent.fair in
    let k : Sought h m h.top c.in_ok-near.near =
    record { fair = c.args.loan.ready.lent.fair; found = sym c.neighbours.ensures ∙ c.in_ok-near.was } in
    let sound = top_sound k ∙ or_5_kept (sym c.add_up.ensures ∙ c.in_ok-add_up.was) in
    past_is h m c.args.by c.args.loan.ready sound (omega (arith, c.if-room-by.true))

pub returns-then-sum-lt-MIN_SIZE : goal.returns-then-sum-lt-MIN_SIZE
returns-then-sum-lt-MIN_SIZE c =
    let h = c.args.loan.heap in
    let m = c.args.loan.arena.now in
    let f = c.args.loan.ready.lent.fair in
    let k : Sought h m h.top c.in_ok-near.near =
    record { fair = c.args.loan.ready.lent.fair; found = sym c.neighbours.ensures ∙ c.in_ok-near.was } in
    let sound = top_sound k ∙ or_5_kept (sym c.add_up.ensures ∙ c.in_ok-add_up.was) in
    let l : Fits h c.args.by = omega (arith, c.if-room-by.false) in
    rw c.gather.ensures (gathers_is h m c.args.by c.args.loan.ready sound l c.if-sum-lt-MIN_SIZE.true)

pub invariant_of-grow : goal.invariant_of-grow
invariant_of-grow c =
    let h = c.args.loan.heap in
    let m = c.args.loan.arena.now in
    let k : Sought h m h.top c.in_ok-near.near =
    record { fair = c.args.loan.ready.lent.fair; found = sym c.neighbours.ensures ∙ c.in_ok-near.was } in
    let sound = top_sound k ∙ or_5_kept (sym c.add_up.ensures ∙ c.in_ok-add_up.was) in
    record { settled = record { ready = c.args.loan.ready; sound = sound } }

pub grow-requires : goal.grow-requires
grow-requires c =
    let h = c.args.loan.heap in
    let m = c.args.loan.arena.now in
    let f = c.args.loan.ready.lent.fair in
    let l : Fits h c.args.by = omega (arith, c.if-room-by.false) in
    let k : Sought h m h.top c.in_ok-near.near =
    record { fair = c.args.loan.ready.lent.fair; found = sym c.neighbours.ensures ∙ c.in_ok-near.was } in
    let sound = top_sound k ∙ or_5_kept (sym c.add_up.ensures ∙ c.in_ok-add_up.was) in
    (omega arith, top_free k sound _ c.if-sum-lt-MIN_SIZE.false (omega arith))

pub returns : goal.returns
returns c =
    let h = c.args.loan.heap in
    let m = c.args.loan.arena.now in
    let f = c.args.loan.ready.lent.fair in
    let l : Fits h c.args.by = omega (arith, c.if-room-by.false) in
    let k : Sought h m h.top c.in_ok-near.near =
    record { fair = c.args.loan.ready.lent.fair; found = sym c.neighbours.ensures ∙ c.in_ok-near.was } in
    let sound = top_sound k ∙ or_5_kept (sym c.add_up.ensures ∙ c.in_ok-add_up.was) in
    grows_is h m c.args.by c.args.loan.ready sound l c.if-sum-lt-MIN_SIZE.false c.grow.ensures
