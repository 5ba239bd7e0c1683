-- `wire::answer_input` meets its contract. Assumes nothing.
use mathlib.Core.List.{[]}
use Rattle.talk.specs.Hearing.{come}
use Rattle.wire.proofs.Said.{consumes_none, said_none, took_more}
use Rattle.wire.proofs.answer_input.Goals as goal

pub loop-init : goal.loop-init
loop-init g c = record { settled = c.requires; took = record { bytes = []; read = consumes_none _; said = said_none _ _ c.requires } }

pub loop-preserved : goal.loop-preserved
loop-preserved g c =
    record {
      settled = c.answer_all.ensures.settled;
      took =
          took_more _ (come c.loop.talk) _ _ _ (g.R.Read.remaining c.loop.from) _ _ (g.W.Write.contents c.loop.out) _ c.loop.invariant.took
          c.in_ok-n.ensures.bytes.0 c.in_ok-answer_all.ensures.said;
    }
