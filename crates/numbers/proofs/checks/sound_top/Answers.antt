-- `numbers::checks::sound_top` meets its contract: each test that fails breaks a rule, and the last one decides. Assumes nothing.
use Prim.Native.Nat.{◌+◌, ◌≤◌}
use native.Mathlib.Omega.{arith}
use borrow.Author.Tests.{leb-true, le-leb}
use Rattle.std.proofs.lemmas.Bool.Decides.{nat_tests}
use Rattle.numbers.proofs.Rules.{above_near, broken, decides}
use Rattle.numbers.proofs.checks.sound_top.Goals as goal

pub returns-then-lt : goal.returns-then-lt
returns-then-lt c = broken _ (λ f. grind (arith, nat_tests))

pub returns-then-size-ne0 : goal.returns-then-size-ne0
returns-then-size-ne0 c = broken _ (λ f. omega arith)

pub returns-then-size-lt-MIN_SIZE : goal.returns-then-size-lt-MIN_SIZE
returns-then-size-lt-MIN_SIZE c = broken _ (λ f. omega arith)

pub returns-then-h-gt15 : goal.returns-then-h-gt15
returns-then-h-gt15 c = broken _ (λ f. omega arith)

pub returns-then-lt-2 : goal.returns-then-lt-2
returns-then-lt-2 c = broken _ (λ f. grind (arith, nat_tests))

pub returns : goal.returns
returns c =
    let n = above_near c.requires.bottom in
    let end : c.args.h.top.0 ≤ c.args.h.base.0 + c.args.h.len = grind (arith, nat_tests) in
    decides _ (λ e. omega (arith, leb-true)) (λ f. omega (arith, le-leb))
