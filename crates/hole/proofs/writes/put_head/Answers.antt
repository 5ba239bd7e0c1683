-- `hole::writes::put_head` meets its contract: a head written into the part that is lent on is written at the place. Assumes nothing.
use mathlib.Core.Path.{◌≡◌}
use Prim.Native.Nat.{◌+◌, ◌-◌}
use native.Mathlib.Omega.{arith}
use Rattle.rules.proofs.Heads.{head_part}
use Rattle.hole.proofs.writes.put_head.Goals as goal

pub returns : goal.returns
returns c =
    let s = c.args in
    let sixteen : s.at.0 + 16 - s.at.0 ≡ 16 = omega arith in
    rw (c.make_hole.ensures, sixteen) (head_part s.arena.now s.at s.head)
