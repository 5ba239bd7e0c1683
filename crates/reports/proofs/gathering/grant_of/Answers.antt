-- `reports::gathering::grant_of` meets its contract: no candidate lies so far above its hole that the sum wraps. Assumes nothing.
use Rattle.std.proofs.Common.{ap, arith}
use Rattle.rules.specs.declared.Addr.{Addr}
use Rattle.layout.proofs.Aligned.{asked_power}
use Rattle.walk.proofs.ToFit.{candidate_near}
use Rattle.reports.proofs.Gathered.{grant_none, grant_some}
use Rattle.reports.proofs.gathering.grant_of.Goals as goal

pub overflow_add-start : goal.overflow_add-start
overflow_add-start c =
    let asked = c.args.layout.asked in
    let e = ap (λ (a : Addr). a.0) c.candidate-start.ensures in
    let n = candidate_near (asked_power asked) c.args.hole.addr in
    omega (arith, asked.least, asked.room)

pub returns-then-end-start : goal.returns-then-end-start
returns-then-end-start c =
    let s = c.args in
    grant_none s.layout.align s.hole c.candidate-start.ensures c.if-end-start.true

pub returns : goal.returns
returns c =
    let s = c.args in
    grant_some s.layout.align s.hole c.candidate-start.ensures c.if-end-start.false

pub candidate-start-requires : goal.candidate-start-requires
candidate-start-requires c =
    let asked = c.args.layout.asked in
    (asked_power asked, omega (arith, asked.room), omega (arith, c.requires))
