-- `talk::keep` meets its contract. Assumes nothing.
use native.Mathlib.Omega.{arith}
use Rattle.talk.proofs.Hearing.{held}
use Rattle.talk.proofs.keep.Goals as goal

pub returns-clause-keeps : goal.returns-clause-keeps
returns-clause-keeps c =
    let kept = c.args.kept.now in
    rw (c.extend.ensures, c.min-n.ensures) (held _ kept.items c.args.part.now (omega (arith, c.len-room.ensures)))
