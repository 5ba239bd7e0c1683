-- `talk::first_line` meets its contract. Assumes nothing.
use Rattle.talk.proofs.Hearing.{cut_at, no_end, none_ends}
use Rattle.talk.proofs.first_line.Goals as goal

pub returns : goal.returns
returns c =
    let f = c.in_ok-end.ensures in
    let bytes = c.args.bytes.now in (no_end bytes c.in_ok-end.end f.0.before, cut_at bytes c.in_ok-end.end f.0.high f.1)

pub returns-in_err-end : goal.returns-in_err-end
returns-in_err-end c = rw c.from_residual.ensures (none_ends c.args.bytes.now c.in_err-end.ensures)
