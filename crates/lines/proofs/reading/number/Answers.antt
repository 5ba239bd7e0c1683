-- `lines::reading::number` meets its contract: the digits left, behind the number so far, always make the number wanted. Assumes nothing.
use Rattle.std.proofs.Common.{◌∙◌, sym, arith}
use Rattle.lines.proofs.Digits.{read_on, read_off, read_end, more_digits, sixteen_fit}
use Rattle.lines.proofs.reading.number.Goals as goal

pub overflow_mul-sum : goal.overflow_mul-sum
overflow_mul-sum c =
    let s = c.loop-b in
    omega (arith, sixteen_fit _ _ (more_digits s.sum 0 s.b-index s.invariant.1 (omega arith)) (omega arith))

-- a byte that is no digit
pub returns-in_err-sum : goal.returns-in_err-sum
returns-in_err-sum c =
    let s = c.loop-b in
    c.from_residual.ensures ∙ sym (read_off s.sum _ s.b-index (omega arith) c.in_err-sum.ensures) ∙ s.invariant.0

pub overflow_add-sum : goal.overflow_add-sum
overflow_add-sum c =
    let s = c.loop-b in
    omega (arith, sixteen_fit _ _ (more_digits s.sum c.in_ok-sum.field-0 s.b-index s.invariant.1 c.in_ok-sum.ensures.1) (omega arith))

pub loop-b-preserved : goal.loop-b-preserved
loop-b-preserved c =
    let s = c.loop-b in
    let d = c.in_ok-sum.ensures in (
      read_on s.sum _ _ s.b-index (omega arith) (rw d.0 at d.1) (omega (arith, d.0)) ∙ s.invariant.0,
      omega (arith, more_digits s.sum c.in_ok-sum.field-0 s.b-index s.invariant.1 d.1),
    )

-- behind the last byte
pub returns : goal.returns
returns c =
    let s = c.loop-b in
    sym (read_end s.sum _ s.b-index (omega arith)) ∙ s.invariant.0
