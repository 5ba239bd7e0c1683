-- `numbers::readers::readable` meets its contract: used decides where the numbers keep their rules. Assumes nothing.
use mathlib.Core.Path.{sym, ◌∙◌}
use native.Mathlib.Omega.{arith}
use Rattle.rules.proofs.Walk.{sound_fair}
use Rattle.numbers.proofs.Reading.{used_decides, unreadable_is}
use Rattle.numbers.proofs.readers.readable.Goals as goal

pub fair_size-requires : goal.fair_size-requires
fair_size-requires c =
    let e = sym c.sound_numbers.ensures ∙ c.if-sound_numbers.true in
    omega (arith, sound_fair c.args.h e)

pub returns-then-sound_numbers : goal.returns-then-sound_numbers
returns-then-sound_numbers c = rw c.fair_size.ensures
    (used_decides _ (sym c.sound_numbers.ensures ∙ c.if-sound_numbers.true))

pub returns : goal.returns
returns c = unreadable_is _ (sym c.sound_numbers.ensures ∙ c.if-sound_numbers.false)
