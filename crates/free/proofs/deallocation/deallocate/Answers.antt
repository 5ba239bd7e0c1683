-- `free::deallocation::deallocate` meets its contract: the span is refused, or inserted among the holes. Assumes nothing.
use Rattle.std.proofs.Common.{◌-◌}
use Rattle.rules.specs.Holes.{hole}
use Rattle.rules.specs.Sound.{holes}
use Rattle.rules.specs.Free.{freed}
use Rattle.rules.specs.Calls.{given}
use Rattle.rules.specs.Inner.{freeing}
use Rattle.rules.specs.declared.Answer.TheVariants.{Freed}
use Rattle.rules.proofs.Cases.{handed_on}
use Rattle.rules.proofs.Written.{fulfils_changed}
use Rattle.free.proofs.Found.{settled, fulfils_unfit, fulfils_fit}
use Rattle.free.proofs.deallocation.deallocate.Goals as goal

pub returns-in_err-cursor : goal.returns-in_err-cursor
unfolding freeing
returns-in_err-cursor c =
    let s = c.args in
    rw (handed_on c.from_residual.ensures.1)
    (fulfils_unfit s.loan.heap _ (hole s.addr s.layout.size) s.layout.align s.loan.arena.now _ c.in_err-cursor.ensures)

pub invariant_of-sound : goal.invariant_of-sound
invariant_of-sound c = record { settled = settled c.args.loan.ready c.in_ok-cursor.ensures }

pub returns : goal.returns
unfolding freeing given
returns c =
    let h = c.args.loan.heap in
    let m = c.args.loan.arena.now in
    let span = hole c.args.addr c.args.layout.size in
    let used = h.used - span.size in
    fulfils_fit h (holes h m) span c.args.layout.align m _ c.in_ok-cursor.ensures.passed
    (fulfils_changed h m (Freed span.size used) (freed span (holes h m)) h.top h.pending used c.insert-list.ensures)
