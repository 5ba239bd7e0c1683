-- `lines::printing::put_holes` meets its contract: so many lines are written, and the bytes behind them stay. Assumes nothing.
use Rattle.std.proofs.Common.{◌≡◌, ◌+◌, ◌*◌, ◌-◌, ap, ◌∙◌, length, get_or, arith, ◌<◌, ℕ}
use Rattle.std.specs.List.{zip}
use Rattle.std.proofs.lemmas.Iterator.{YieldsList-from_slice, YieldsList-from_zip}
use Rattle.std.proofs.lemmas.Iterator.Consumers.{YieldsList-from_enumerate, YieldsList-turn, YieldsList-end}
use Rattle.std.proofs.lemmas.List.FromFn.{length-enumerate_from, get_or-enumerate_from}
use Rattle.std.proofs.lemmas.List.{length_push}
use Rattle.lines.specs.Lines.{line}
use Rattle.lines.proofs.FromRows.{pairs_length, pairs_at, one_more, all_written}
use Rattle.lines.proofs.printing.put_holes.Goals as goal

pub loop-i-preserved : goal.loop-i-preserved
loop-i-preserved c =
    let s = c.loop-i in
    let a = c.args.addrs.now in
    let b = c.args.sizes.now in
    let n = length s.yielded in
    let p : ℕ × (ℕ × ℕ) = (c.in-Some.i, (c.in-Some.addr.now, c.in-Some.size.now)) in
    let t = YieldsList-turn (YieldsList-from_enumerate (YieldsList-from_zip (YieldsList-from_slice a cc) (YieldsList-from_slice b cc)) (cc))
    s.yielded _ s.yielded_by _ c.next.new.self (c.in-Some.i, (c.in-Some.addr, c.in-Some.size)) c.in-Some.is c.next.ensures.steps in
    let l : length s.yielded < length a = omega (arith, t.0, length-enumerate_from 0 (zip a b), pairs_length a b c.requires.1) in
    let e = t.1 ∙ get_or-enumerate_from 0 (zip a b) n p (omega (arith, pairs_length a b c.requires.1)) in
    let q = ap (λ (x : ℕ × (ℕ × ℕ)). x.1) e ∙ pairs_at n a b p.1 c.requires.1 l in
    let i : c.in-Some.i ≡ n = ap (λ (x : ℕ × (ℕ × ℕ)). x.0) e ∙ omega arith in
    let new : c.put_line.new.out ≡ line 0x20 (get_or a n 0) (get_or b n 0) = c.put_line.ensures ∙ ap (λ (x : ℕ × ℕ). line 0x20 x.0 x.1) q in
    let k : 35 * n + 35 - 35 * n ≡ 35 = omega arith in
    rw (length_push s.yielded (c.in-Some.i, (c.in-Some.addr, c.in-Some.size)), i, k)
    (one_more n a b _ s.out _ s.invariant l c.requires.1 (omega arith) new)

pub returns : goal.returns
returns c =
    let s = c.loop-i in
    let a = c.args.addrs.now in
    let b = c.args.sizes.now in
    let t = YieldsList-end (YieldsList-from_enumerate (YieldsList-from_zip (YieldsList-from_slice a cc) (YieldsList-from_slice b cc)) (cc))
    s.yielded _ s.yielded_by _ c.next.new.self c.in-None.is c.next.ensures.steps in
    let l : length s.yielded ≡ length a = t.1 ∙ length-enumerate_from 0 (zip a b) ∙ pairs_length a b c.requires.1 in
    all_written a b _ s.out (rw l at s.invariant)
