-- `wire::answer_all` meets its contract. Assumes nothing.
use mathlib.Core.List.{[], ◌++◌}
use mathlib.Core.Path.{refl}
use Rattle.talk.specs.Hearing.{come}
use Rattle.talk.proofs.Hearing.{cut_next}
use Rattle.wire.proofs.Said.{said_none, said_more}
use Rattle.wire.proofs.answer_all.Goals as goal

pub hearing-init : goal.hearing-init
hearing-init g c = record { front = []; cut = refl; said = said_none _ _ c.requires }

pub hearing-preserved : goal.hearing-preserved
hearing-preserved g c =
    let i = c.hearing.invariant in
    let h = c.hear-rest.ensures in
    record {
      front = i.front ++ h.front;
      cut = cut_next _ i.front h.front _ _ i.cut h.cut;
      said = rw c.flush.ensures.rest (said_more _ _ (come c.hear-rest.new.self) i.front h.front _ _ _ i.said h.comes c.in_ok-flush.ensures.written);
    }
