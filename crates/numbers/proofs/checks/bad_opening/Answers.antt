-- `numbers::checks::bad_opening` meets its contract: each test that holds is a condition of refusal 1, and the last one decides.
-- Assumes nothing.
use Prim.Native.Nat.{◌≤◌}
use native.Mathlib.Omega.{arith}
use borrow.Author.Rules.{rules}
use borrow.Author.Tests.{ltb-false, le-ltb}
use Rattle.std.proofs.lemmas.Bool.Decides.{nat_tests}
use Rattle.rules.proofs.Multiples.{above_is}
use Rattle.rules.proofs.Powers.{power_pos, grain_power}
use Rattle.numbers.proofs.Rules.{above_near}
use Rattle.numbers.proofs.Refused.{refuses, refuses_if}
use Rattle.numbers.proofs.checks.bad_opening.Goals as goal

pub returns-then-eq : goal.returns-then-eq
returns-then-eq c =
    let s = c.args in refuses s.len s.base s.named (λ o. grind (arith, nat_tests))

pub returns-then-len-gt-ARENA_LIMIT : goal.returns-then-len-gt-ARENA_LIMIT
returns-then-len-gt-ARENA_LIMIT c =
    let s = c.args in refuses s.len s.base s.named (λ o. omega arith)

pub returns-then-len-base : goal.returns-then-len-base
returns-then-len-base c =
    let s = c.args in refuses s.len s.base s.named (λ o. omega arith)

pub returns-then-len-named : goal.returns-then-len-named
returns-then-len-named c =
    let s = c.args in refuses s.len s.base s.named (λ o. omega arith)

pub align_up-requires : goal.align_up-requires
align_up-requires c = (grain_power, search rules)

pub overflow_add-result : goal.overflow_add-result
overflow_add-result c = omega (arith, above_near c.align_up.ensures)

pub returns : goal.returns
returns c =
    let u = above_is (power_pos grain_power) c.align_up.ensures in
    let s = c.args in
    let some : 1 ≤ s.base.0 = grind (arith, nat_tests) in
    refuses_if s.len s.base s.named (λ e. omega (arith, ltb-false)) (λ o. omega (arith, le-ltb))
