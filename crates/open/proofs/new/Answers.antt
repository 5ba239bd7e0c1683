-- `open::new` meets its contract: what it rounds base up to is bottom. Assumes nothing.
use native.Mathlib.Omega.{arith}
use Rattle.rules.specs.Holes.{first_of}
use Rattle.rules.specs.Calls.{opened}
use Rattle.rules.proofs.Powers.{grain_power}
use Rattle.numbers.proofs.Refused.{may_open}
use Rattle.open.proofs.Begun.{is_bottom}
use Rattle.open.proofs.new.Goals as goal

pub align_up-bottom-requires : goal.align_up-bottom-requires
align_up-bottom-requires c =
    (grain_power, omega (arith, (may_open c.args.len c.args.base c.args.named c.requires).low))

pub overflow_sub-left-2 : goal.overflow_sub-left-2
overflow_sub-left-2 c =
    rw (is_bottom c.args.base _ c.align_up-bottom.ensures)
    (omega (arith, (may_open c.args.len c.args.base c.args.named c.requires).room))

pub returns : goal.returns
unfolding opened first_of
returns c = rw (c.place_of-first.ensures, (is_bottom c.args.base _ c.align_up-bottom.ensures))
