-- `walk::to_fit::suits` meets its contract, test by test: no candidate lies below its hole, and none so far above that a sum wraps.
-- Assumes nothing.
use mathlib.Core.Path.{ap}
use native.Mathlib.Omega.{arith}
use Rattle.rules.specs.declared.Addr.{Addr}
use Rattle.walk.proofs.ToFit.{candidate_near, small_unsuited, past_unsuited, filled_suits, left_suits}
use Rattle.layout.proofs.Aligned.{asked_power}
use Rattle.walk.proofs.to_fit.suits.Goals as goal

pub returns-then-size-want : goal.returns-then-size-want
returns-then-size-want c = small_unsuited c.args.layout.size (asked_power c.args.layout.asked) c.args.hole c.if-size-want.true

pub overflow_add-stop : goal.overflow_add-stop
overflow_add-stop c =
    let e = ap (λ (a : Addr). a.0) c.candidate.ensures in
    let n = candidate_near (asked_power c.args.layout.asked) c.args.hole.addr in
    omega arith

pub returns-then-end-stop : goal.returns-then-end-stop
returns-then-end-stop c =
    past_unsuited c.args.layout.size (asked_power c.args.layout.asked) c.args.hole c.candidate.ensures c.if-end-stop.true

pub returns-then-stop-end : goal.returns-then-stop-end
returns-then-stop-end c =
    filled_suits c.args.layout.size (asked_power c.args.layout.asked) c.args.hole c.candidate.ensures c.if-stop-end.true

pub returns : goal.returns
returns c =
    left_suits c.args.layout.size (asked_power c.args.layout.asked) c.args.hole c.candidate.ensures c.if-end-stop.false c.if-stop-end.false

pub candidate-requires : goal.candidate-requires
candidate-requires c =
    let a = c.args.layout.asked in
    (asked_power a, omega (arith, a.room), omega (arith, c.requires))
