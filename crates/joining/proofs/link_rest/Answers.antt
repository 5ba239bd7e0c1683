-- `joining::link_rest` meets its contract: what remains of the stretch, linked, is the list that a resize leaves. Assumes nothing.
use native.Mathlib.Omega.{arith}
use Rattle.rules.proofs.Gaps.{gap_le}
use Rattle.joining.proofs.Rest.{ends, rest_relinked}
use Rattle.joining.proofs.link_rest.Goals as goal

pub overflow_add-end : goal.overflow_add-end
overflow_add-end c =
    let b = (ends c.args.sound.settled c.requires.0 c.requires.1) in omega arith

pub overflow_add-addr : goal.overflow_add-addr
overflow_add-addr c =
    let b = (ends c.args.sound.settled c.requires.0 c.requires.1) in
    omega (arith, gap_le _ _ c.requires.2)

pub remains-rest-requires : goal.remains-rest-requires
remains-rest-requires c =
    let b = (ends c.args.sound.settled c.requires.0 c.requires.1) in
    (omega arith, gap_le _ _ c.requires.2)

pub link-requires : goal.link-requires
link-requires c = (ends c.args.sound.settled c.requires.0 c.requires.1).before

pub returns : goal.returns
returns c = rw (c.link.ensures, c.leads-to.ensures, c.remains-rest.ensures)
    (rest_relinked c.args.sound.settled c.requires.0 c.requires.1 c.args.want c.requires.2)
