-- `allocate::first_fit::allocate_first_fit` meets its contract: the search, and the walk behind it, decide. Assumes nothing.
use Rattle.std.proofs.Common.{sym, ◌∙◌, arith}
use Rattle.rules.specs.Sound.{holes}
use Rattle.rules.proofs.Cases.{handed_on}
use Rattle.rules.proofs.Written.{fulfils_sound, fulfils_broken}
use Rattle.walk.proofs.ToEnd.{or_5_kept, or_5_broken}
use Rattle.allocate.specs.Granted.{takes}
use Rattle.allocate.proofs.Searched.{inside, asks, goes_on, not_found}
use Rattle.allocate.proofs.first_fit.allocate_first_fit.Goals as goal

pub returns-in_err-fit : goal.returns-in_err-fit
returns-in_err-fit c =
    let l = c.args.loan in
    rw (handed_on c.from_residual.ensures.1)
    (not_found l.heap l.arena.now _ _ l.ready.lent.fair (sym c.first_fit.ensures ∙ c.in_err-fit.was))

pub behind-floor-requires : goal.behind-floor-requires
behind-floor-requires c =
    let l = c.args.loan in
    let f = l.ready.lent.fair in
    omega (arith, (inside l.heap l.arena.now _ _ f (sym c.first_fit.ensures ∙ c.in_ok-fit.was)).1)

pub finish-requires : goal.finish-requires
finish-requires c =
    let l = c.args.loan in
    rw c.behind-floor.ensures (asks l.heap l.arena.now _ _ l.ready.lent.fair (sym c.first_fit.ensures ∙ c.in_ok-fit.was))

pub returns-in_err-finish : goal.returns-in_err-finish
returns-in_err-finish c =
    let l = c.args.loan in
    let found = sym c.first_fit.ensures ∙ c.in_ok-fit.was in
    let walked = rw c.behind-floor.ensures at c.finish.ensures in
    let b = or_5_broken (sym (goes_on l.heap l.arena.now _ _ l.ready.lent.fair found walked) ∙ c.in_err-finish.was) in
    rw (handed_on c.from_residual-in_err-finish.ensures.1, b.1)
    (fulfils_broken l.heap l.arena.now (holes l.heap l.arena.now) (takes _ _ l.heap l.arena.now) b.0)

pub invariant_of-split_current : goal.invariant_of-split_current
invariant_of-split_current c =
    let l = c.args.loan in
    let found = sym c.first_fit.ensures ∙ c.in_ok-fit.was in
    let walked = rw c.behind-floor.ensures at c.finish.ensures in
    let sound = or_5_kept (sym (goes_on l.heap l.arena.now _ _ l.ready.lent.fair found walked) ∙ c.in_ok-finish.was) in
    record { settled = record { ready = l.ready; sound = sound } }

pub split_current-requires : goal.split_current-requires
split_current-requires c = sym c.first_fit.ensures ∙ c.in_ok-fit.was

pub returns : goal.returns
returns c =
    let l = c.args.loan in
    let found = sym c.first_fit.ensures ∙ c.in_ok-fit.was in
    let walked = rw c.behind-floor.ensures at c.finish.ensures in
    let sound = or_5_kept (sym (goes_on l.heap l.arena.now _ _ l.ready.lent.fair found walked) ∙ c.in_ok-finish.was) in
    fulfils_sound l.heap l.arena.now (holes l.heap l.arena.now) (takes _ _ l.heap l.arena.now) sound c.split_current.ensures
