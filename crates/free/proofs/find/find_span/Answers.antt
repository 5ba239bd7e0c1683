-- `free::find::find_span` meets its contract: the walk decides 5, and the span's neighbours 8. Assumes nothing.
use Rattle.std.proofs.Common.{sym, ◌∙◌}
use Rattle.rules.specs.Holes.{hole}
use Rattle.rules.specs.Sound.{holes}
use Rattle.rules.proofs.Cases.{handed_on}
use Rattle.layout.proofs.Aligned.{asked_power}
use Rattle.joining.proofs.Neighbours.{near_broken, starts}
use Rattle.free.proofs.Found.{Known, span_5, found_5, known, found_around, found_8, found}
use Rattle.free.proofs.find.find_span.Goals.{In_ok-finish}
use Rattle.free.proofs.find.find_span.Goals as goal

-- the holes keep every rule once the walk has come to the end
known_of : (c : In_ok-finish) → Known c.args.loan.heap c.args.loan.arena.now c.args.addr c.in_ok-near.near
known_of c =
    known (record { fair = c.args.loan.ready.lent.fair; found = sym c.neighbours.ensures ∙ c.in_ok-near.was })
    c.finish.ensures c.in_ok-finish.was

pub returns-in_err-near : goal.returns-in_err-near
returns-in_err-near c =
    let s = c.args in
    let none = sym c.neighbours.ensures ∙ c.in_err-near.was in
    let b = near_broken s.loan.heap s.loan.arena.now s.addr s.loan.ready.lent.fair none in
    rw (handed_on c.from_residual.ensures.1, b.0)
    (span_5 s.loan.heap (holes s.loan.heap s.loan.arena.now) (hole s.addr s.layout.size) s.layout.align b.1)

pub finish-requires : goal.finish-requires
finish-requires c =
    starts (record { fair = c.args.loan.ready.lent.fair; found = sym c.neighbours.ensures ∙ c.in_ok-near.was })

pub returns-in_err-finish : goal.returns-in_err-finish
returns-in_err-finish c =
    let s = c.args in
    rw (handed_on c.from_residual-in_err-finish.ensures.1)
    (found_5 (record { fair = s.loan.ready.lent.fair; found = sym c.neighbours.ensures ∙ c.in_ok-near.was })
    c.finish.ensures s.layout.size s.layout.align c.in_err-finish.was)

pub may_free-requires : goal.may_free-requires
may_free-requires c =
    (asked_power c.args.layout.asked, found_around (known_of (goal.at.may_free-requires c).In_ok-finish) c.args.layout.size)

pub returns-then-not-may_free : goal.returns-then-not-may_free
returns-then-not-may_free c =
    found_8 (known_of (goal.at.returns-then-not-may_free c).In_ok-finish) _ _ c.args.layout.asked.least
    (sym c.may_free.ensures ∙ c.if-not-may_free.true)

pub returns : goal.returns
returns c =
    found (known_of (goal.at.returns c).In_ok-finish) _ _ c.args.layout.asked.least (sym c.may_free.ensures ∙ c.if-not-may_free.false)
