-- `resize::fitting::refit` meets its contract: the block is refused, the stretch is refused, or the rest of it is linked. Assumes nothing.
use Rattle.std.proofs.Common.{◌≡◌, sym, ◌∙◌, ◌+◌, ◌-◌, arith}
use Rattle.rules.specs.Holes.{hole}
use Rattle.rules.specs.Kinds.{plus}
use Rattle.rules.specs.Resize.{stretch_end, resized}
use Rattle.rules.specs.Calls.{refitted}
use Rattle.rules.specs.Inner.{resizing}
use Rattle.rules.specs.declared.Refusal.TheVariants.{BadStretch}
use Rattle.rules.specs.declared.Answer.TheVariants.{Resized}
use Rattle.rules.proofs.Written.{fulfils_refused, fulfils_changed}
use Rattle.rules.specs.Sound.{holes}
use Rattle.rules.proofs.Cases.{handed_on}
use Rattle.rules.proofs.Gaps.{gap_words}
use Rattle.rules.proofs.Walk.{sound_sum}
use Rattle.rules.proofs.Powers.{power_pos}
use Rattle.layout.proofs.Aligned.{asked_power}
use Rattle.joining.proofs.Inserted.{may_merge}
use Rattle.joining.proofs.Rest.{Ends, ends, stretch_end_lem}
use Rattle.free.proofs.Found.{settled, fulfils_unfit, fulfils_fit}
use Rattle.resize.proofs.fitting.refit.Goals.{After-try_merge_next-stretch}
use Rattle.resize.proofs.fitting.refit.Goals as goal

-- the stretch ends where the merge behind says, within bounds
bounds : (c : After-try_merge_next-stretch)
    → Ends (settled c.args.loan.ready c.in_ok-cursor.ensures) c.in_ok-cursor.ensures.free c.try_merge_next-stretch.ensures
bounds c = ends (settled c.args.loan.ready c.in_ok-cursor.ensures) c.in_ok-cursor.ensures.free c.try_merge_next-stretch.ensures

stretch : (c : After-try_merge_next-stretch)
    → stretch_end (hole c.args.addr c.args.old.size) (holes c.args.loan.heap c.args.loan.arena.now)
    ≡ plus c.args.addr c.try_merge_next-stretch.result.size
stretch c =
    stretch_end_lem (settled c.args.loan.ready c.in_ok-cursor.ensures) c.in_ok-cursor.ensures.free c.try_merge_next-stretch.ensures

pub returns-in_err-cursor : goal.returns-in_err-cursor
unfolding resizing
returns-in_err-cursor c =
    let s = c.args in
    rw (handed_on c.from_residual.ensures.1)
    (fulfils_unfit s.loan.heap _ (hole s.addr s.old.size) s.old.align s.loan.arena.now _ c.in_err-cursor.ensures)

pub try_merge_next-stretch-requires : goal.try_merge_next-stretch-requires
try_merge_next-stretch-requires c = may_merge (settled c.args.loan.ready c.in_ok-cursor.ensures) c.in_ok-cursor.ensures.free

pub overflow_add-addr : goal.overflow_add-addr
overflow_add-addr c =
    let b = bounds (goal.at.overflow_add-addr c).After-try_merge_next-stretch in
    omega (arith, c.args.new.asked.room)

pub overflow_add-addr-2 : goal.overflow_add-addr-2
overflow_add-addr-2 c =
    let b = bounds (goal.at.overflow_add-addr-2 c).After-try_merge_next-stretch in omega arith

pub leaves_gap-requires : goal.leaves_gap-requires
leaves_gap-requires c =
    let b = bounds (goal.at.leaves_gap-requires c).After-try_merge_next-stretch in
    omega (arith, c.args.new.asked.room, power_pos (asked_power c.args.new.asked))

pub returns-then-not-leaves_gap : goal.returns-then-not-leaves_gap
unfolding resizing
returns-then-not-leaves_gap c =
    let h = c.args.loan.heap in
    let m = c.args.loan.arena.now in
    let block = hole c.args.addr c.args.old.size in
    let ends = stretch (goal.at.returns-then-not-leaves_gap c).After-try_merge_next-stretch in
    fulfils_fit h (holes h m) block c.args.old.align m _ c.in_ok-cursor.ensures.passed
    (rw (ends, sym c.leaves_gap.ensures ∙ c.if-not-leaves_gap.true) (fulfils_refused h m BadStretch))

pub invariant_of-sound : goal.invariant_of-sound
invariant_of-sound c = record { settled = settled c.args.loan.ready c.in_ok-cursor.ensures }

pub link_rest-list-requires : goal.link_rest-list-requires
link_rest-list-requires c =
    (c.in_ok-cursor.ensures.free, c.try_merge_next-stretch.ensures, gap_words _ _ (sym c.leaves_gap.ensures ∙ c.if-not-leaves_gap.false))

pub overflow_add-used : goal.overflow_add-used
overflow_add-used c =
    let h = c.args.loan.heap in
    let t = settled c.args.loan.ready c.in_ok-cursor.ensures in
    omega (arith, sound_sum h t.ready.lent.fair (holes h c.args.loan.arena.now) t.sound, c.args.new.asked.room)

pub returns : goal.returns
unfolding resizing refitted
returns c =
    let h = c.args.loan.heap in
    let m = c.args.loan.arena.now in
    let block = hole c.args.addr c.args.old.size in
    let want = c.args.new.size in
    let used = h.used - block.size + want in
    let ends = stretch (goal.at.returns c).After-try_merge_next-stretch in
    fulfils_fit h (holes h m) block c.args.old.align m _ c.in_ok-cursor.ensures.passed
    (rw (ends, sym c.leaves_gap.ensures ∙ c.if-not-leaves_gap.false)
    (fulfils_changed h m (Resized want used) (resized block want (holes h m)) h.top h.pending used c.link_rest-list.ensures))
