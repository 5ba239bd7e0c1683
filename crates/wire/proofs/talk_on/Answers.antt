-- `wire::talk_on` meets its contract. Assumes nothing.
use Rattle.std.proofs.lemmas.Result.{on_ok_weaker}
use Rattle.talk.specs.Hearing.{come}
use Rattle.wire.proofs.Said.{talked}
use Rattle.wire.proofs.talk_on.Goals as goal

pub returns-clause-talked : goal.returns-clause-talked
returns-clause-talked g c =
    on_ok_weaker c.answer_last.result
    (talked _ (come c.answer_input.new.talk) _ _ _ (g.W.Write.contents c.answer_input.new.out) _ c.in_ok-answer_input.ensures.took)
    c.answer_last.ensures.written
