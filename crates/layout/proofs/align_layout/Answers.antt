-- `layout::align_layout` meets its contract: each test that it makes decides refusal 6, and what it rounds up is the rounded size.
-- Assumes nothing.
use mathlib.Core.Path.{refl, sym, ap, ◌∙◌}
use Rattle.std.proofs.Common.{Some}
use borrow.Author.Tests.{eq-eqb}
use Prim.Native.Nat.{◌^◌, ◌<◌}
use native.Mathlib.Omega.{arith}
use borrow.Author.Rules.{rules}
use Rattle.rules.specs.Fixed.{width}
use Rattle.rules.proofs.Powers.{power_half, one_power_lem, ones_in_lem, grain_power}
use Rattle.rules.proofs.Layouts.{is_rounded, rounded_covers, rounded_least, layout_no_power, layout_large, layout_fits}
use Rattle.layout.proofs.align_layout.Goals as goal

pub returns-then-align-ne1 : goal.returns-then-align-ne1
returns-then-align-ne1 c =
    let size = c.args.size in
    let align = c.args.align in
    let l : align < 2 ^ width = omega arith in
    (layout_no_power size align (λ e. c.if-align-ne1.true (ones_in_lem width align l ∙ e)))

pub returns-then-size-gt-ADDR_LIMIT : goal.returns-then-size-gt-ADDR_LIMIT
returns-then-size-gt-ADDR_LIMIT c =
    let size = c.args.size in
    let align = c.args.align in
    (layout_large size align (omega (arith, rounded_covers size)))

pub align_up_size-rounded-requires : goal.align_up_size-rounded-requires
align_up_size-rounded-requires c = (grain_power, search rules)

pub overflow_sub-align : goal.overflow_sub-align
overflow_sub-align c =
    let align = c.args.align in
    let l : align < 2 ^ width = omega arith in
    let e = sym (ones_in_lem width align l) ∙ c.if-align-ne1.false in
    power_half 63 (one_power_lem width align l e) l

pub returns-then-align-rounded : goal.returns-then-align-rounded
returns-then-align-rounded c =
    let size = c.args.size in
    let align = c.args.align in
    let r = is_rounded size c.max.ensures c.align_up_size-rounded.ensures in
    (layout_large size align (omega arith))

pub invariant_of-result : goal.invariant_of-result
invariant_of-result c =
    let s = c.args in
    let l : s.align < 2 ^ width = omega arith in
    let e = sym (ones_in_lem width s.align l) ∙ c.if-align-ne1.false in
    let r = is_rounded s.size c.max.ensures c.align_up_size-rounded.ensures in
    record {
      asked =
          record {
            power = eq-eqb _ _ e;
            least = rw r (rounded_least s.size);
            room = omega arith;
          };
    }

pub returns : goal.returns
returns c =
    let size = c.args.size in
    let align = c.args.align in
    let l : align < 2 ^ width = omega arith in
    let e = sym (ones_in_lem width align l) ∙ c.if-align-ne1.false in
    let r = is_rounded size c.max.ensures c.align_up_size-rounded.ensures in
    record { rounded = layout_fits size align e (omega arith) ∙ ap Some (sym r); aligned = refl }
