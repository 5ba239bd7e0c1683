-- `request::requested` meets its contract: where 6 is due, the walk decides between it and 5. Assumes nothing.
use Rattle.std.proofs.Common.{sym, ◌∙◌}
use Rattle.walk.proofs.ToEnd.{or_5_broken, or_5_kept}
use Rattle.request.proofs.requested.Goals as goal

pub returns-in-Err : goal.returns-in-Err
returns-in-Err c =
    let b = or_5_broken (sym c.sound.ensures ∙ c.in-Err.is) in
    record { layout = c.in_default.ensures; why = rw b.0 b.1 }

pub returns-in_default : goal.returns-in_default
returns-in_default c =
    record {
      layout = c.in_default.ensures;
      why = rw (or_5_kept (sym c.sound.ensures ∙ c.in_default-sound.is));
    }
