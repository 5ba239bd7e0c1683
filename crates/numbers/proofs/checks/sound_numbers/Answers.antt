-- `numbers::checks::sound_numbers` meets its contract: each test that fails breaks a rule, and the tests on top decide.
-- Assumes nothing.
use mathlib.Core.Path.{◌≡◌}
use native.Mathlib.Omega.{arith}
use Rattle.std.proofs.lemmas.Bool.Decides.{nat_tests}
use borrow.Author.Rules.{rules}
use Rattle.rules.proofs.Powers.{grain_power}
use Rattle.numbers.proofs.Rules.{broken, bottom_is}
use Rattle.numbers.proofs.checks.sound_numbers.Goals as goal

pub returns-then-eq : goal.returns-then-eq
returns-then-eq c = broken _ (λ f. grind (arith, nat_tests))

pub returns-then-h-gt-ARENA_LIMIT : goal.returns-then-h-gt-ARENA_LIMIT
returns-then-h-gt-ARENA_LIMIT c = broken _ (λ f. omega arith)

pub returns-then-h-base : goal.returns-then-h-base
returns-then-h-base c = broken _ (λ f. omega arith)

pub align_up-bottom-requires : goal.align_up-bottom-requires
align_up-bottom-requires c = (grain_power, search rules)

pub returns-then-ne : goal.returns-then-ne
returns-then-ne c = broken _ (λ f. let e = bottom_is _ f c.align_up-bottom.ensures in grind (arith, nat_tests))

pub sound_top-requires : goal.sound_top-requires
sound_top-requires c = record {
  base = grind (arith, nat_tests);
  small = omega arith;
  low = omega arith;
  bottom =
      let e : c.args.h.bottom.0 ≡ c.align_up-bottom.result.0 = grind (arith, nat_tests) in
      rw e c.align_up-bottom.ensures;
}
