-- `allocate::split::split_current` meets its contract: the pieces of the hole, linked, are the new list. Assumes nothing.
use native.Mathlib.Omega.{arith}
use Rattle.walk.proofs.ToFit.{fit_at}
use Rattle.allocate.proofs.Pieces.{room, split_is}
use Rattle.layout.proofs.Aligned.{asked_power}
use Rattle.allocate.proofs.split.split_current.Goals as goal

pub candidate-start-requires : goal.candidate-start-requires
candidate-start-requires c =
    let fit = fit_at c.args.sound.loan.heap c.args.layout.size c.args.layout.align _ c.requires in
    let r = room c.args.sound.loan.heap c.args.sound.loan.arena.now c.args.layout.size c.args.layout.align c.args.sound.settled c.args.layout.asked fit in
    (asked_power c.args.layout.asked, omega (arith, c.args.layout.asked.room), omega arith)

pub overflow_add-end : goal.overflow_add-end
overflow_add-end c =
    let fit = fit_at c.args.sound.loan.heap c.args.layout.size c.args.layout.align _ c.requires in
    let r = room c.args.sound.loan.heap c.args.sound.loan.arena.now c.args.layout.size c.args.layout.align c.args.sound.settled c.args.layout.asked fit in
    omega arith

pub overflow_add-start : goal.overflow_add-start
overflow_add-start c =
    let fit = fit_at c.args.sound.loan.heap c.args.layout.size c.args.layout.align _ c.requires in
    let r = room c.args.sound.loan.heap c.args.sound.loan.arena.now c.args.layout.size c.args.layout.align c.args.sound.settled c.args.layout.asked fit in
    rw c.candidate-start.ensures (omega arith)

pub remains-rear-requires : goal.remains-rear-requires
remains-rear-requires c =
    let fit = fit_at c.args.sound.loan.heap c.args.layout.size c.args.layout.align _ c.requires in
    let r = room c.args.sound.loan.heap c.args.sound.loan.arena.now c.args.layout.size c.args.layout.align c.args.sound.settled c.args.layout.asked fit in
    rw c.candidate-start.ensures (omega arith, r.stop)

pub remains-front-requires : goal.remains-front-requires
remains-front-requires c =
    let fit = fit_at c.args.sound.loan.heap c.args.layout.size c.args.layout.align _ c.requires in
    let r = room c.args.sound.loan.heap c.args.sound.loan.arena.now c.args.layout.size c.args.layout.align c.args.sound.settled c.args.layout.asked fit in
    rw c.candidate-start.ensures (r.low, r.start)

pub relink-list-requires : goal.relink-list-requires
relink-list-requires c =
    let fit = fit_at c.args.sound.loan.heap c.args.layout.size c.args.layout.align _ c.requires in
    let r = room c.args.sound.loan.heap c.args.sound.loan.arena.now c.args.layout.size c.args.layout.align c.args.sound.settled c.args.layout.asked fit in
    r.before

pub overflow_add-result : goal.overflow_add-result
overflow_add-result c =
    let fit = fit_at c.args.sound.loan.heap c.args.layout.size c.args.layout.align _ c.requires in
    let r = room c.args.sound.loan.heap c.args.sound.loan.arena.now c.args.layout.size c.args.layout.align c.args.sound.settled c.args.layout.asked fit in
    omega arith

pub returns : goal.returns
returns c =
    let fit = fit_at c.args.sound.loan.heap c.args.layout.size c.args.layout.align _ c.requires in
    split_is c.args.sound.loan.heap c.args.sound.loan.arena.now c.args.layout.size c.args.layout.align c.args.sound.settled c.args.layout.asked fit
    c.candidate-start.ensures c.remains-rear.ensures c.leads-behind.ensures c.remains-front.ensures
    c.relink-list.ensures
