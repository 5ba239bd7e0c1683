-- `lines::reading::read_frame` meets its contract: the numbers taken are the line's, and what is left has the line's other digits.
-- Assumes nothing.
use Rattle.std.proofs.Common.{◌≡◌, ◌∙◌, refl, sym, ap, ◌++◌, ◌/◌, ◌<◌, ◌≤◌, length, length-append, length-set, take-append-drop, arith}
use Rattle.std.specs.Iterator.Adapters.{enumerate_source, enumerate_count}
use Rattle.std.specs.Slice.Iter.{chunks_exact_rest}
use Rattle.lines.specs.Frames.{value}
use Rattle.lines.proofs.Digits.{read_some}
use Rattle.lines.proofs.Frames.{line_longer, no_length}
use Rattle.lines.proofs.Taken.{begun, one_more, no_call, none_more, all_taken}
use Rattle.lines.proofs.reading.read_frame.Goals as goal

pub returns-then-line-gt-FRAME : goal.returns-then-line-gt-FRAME
returns-then-line-gt-FRAME c = sym (line_longer c.args.line.now c.if-line-gt-FRAME.true)

pub returns-in_err-call : goal.returns-in_err-call
returns-in_err-call c =
    let l : length c.args.line.now < 2 = c.in_err-call.ensures.cases in
    c.from_residual.ensures ∙ sym (no_length c.args.line.now (λ n m e. omega arith))

pub returns-in_err-call-2 : goal.returns-in_err-call-2
returns-in_err-call-2 c =
    let (low, front, back, long, behind) = c.in_ok-call.ensures.cases in
    let line = c.args.line.now in
    let parts : line ≡ c.in_ok-call.call.now ++ c.in_ok-call.rest.now = rw (front, back) (sym (take-append-drop 2 line)) in
    c.from_residual-in_err-call-2.ensures ∙ sym (no_call line _ _ parts (sym c.in_err-call-2.ensures))

pub returns-then-rest-ne0 : goal.returns-then-rest-ne0
returns-then-rest-ne0 c =
    let (low, front, back, long, behind) = c.in_ok-call.ensures.cases in
    sym (no_length c.args.line.now (λ n m e. omega arith))

pub loop-i-init : goal.loop-i-init
loop-i-init c =
    let (low, front, back, long, behind) = c.in_ok-call.ensures.cases in
    let line = c.args.line.now in
    let parts : line ≡ c.in_ok-call.call.now ++ c.in_ok-call.rest.now = rw (front, back) (sym (take-append-drop 2 line)) in
    rw (
      c.into_iter-i-iterator.ensures.into_iter_gives,
      c.enumerate-i-items.ensures.source,
      c.enumerate-i-items.ensures.count,
      c.chunks_exact.ensures.rest,
      c.chunks_exact.ensures.size,
    )
    (record { taken = begun line _ _ _ parts long (read_some _ _ (sym c.in_ok-call-2.ensures)).0; room = refl; size = refl })

pub loop-i-preserved : goal.loop-i-preserved
loop-i-preserved c =
    let s = c.in-Some.ensures.steps in
    let t = c.loop-i.invariant in
    let l : length c.in-Some.digits.now ≡ 16 = s.0.1.1 ∙ t.size in
    let many : 16 ≤ length (chunks_exact_rest (enumerate_source c.loop-i.i-iterator)) = rw s.0.1.0 (simp length-append (omega arith)) in
    rw (s.1, s.2)
    (record {
      taken = one_more c.args.line.now c.loop-i.numbers _ _ _ _ _ t.taken s.0.1.0 l (sym c.in_ok-numbers.ensures)
          (omega (arith, t.taken.whole, many, t.room));
      room = simp length-set t.room;
      size = s.0.0 ∙ t.size;
    })

pub returns-in_err-numbers : goal.returns-in_err-numbers
returns-in_err-numbers c =
    let s = c.in-Some.ensures.steps in
    c.from_residual-in_err-numbers.ensures
    ∙ sym (none_more c.args.line.now _ _ _ _ _ c.loop-i.invariant.taken s.0.1.0 (sym c.in_err-numbers.ensures))

pub returns : goal.returns
returns c =
    let s = c.in-None.ensures.steps in
    let t = c.loop-i.invariant in
    let (low, front, back, long, behind) = c.in_ok-call.ensures.cases in
    let none : length (chunks_exact_rest (enumerate_source c.loop-i.i-iterator)) ≡ 0 = omega (arith, t.taken.whole, s.0.1.0, t.size) in
    let all : enumerate_count c.loop-i.i-iterator ≡ length c.in_ok-call.rest.now / 16 = omega (arith, t.taken.whole, none) in
    let call = ap (value 0) (sym front) ∙ (read_some _ _ (sym c.in_ok-call-2.ensures)).1 in
    c.made.ensures ∙ rw (← all) (all_taken c.args.line.now c.loop-i.numbers _ _ _ t.taken none call (omega arith))
