-- Of the bytes that were read every answer is written, and none waits.
use Rattle.talk.specs.Hearing.{come}
use Rattle.wire.specs.Bounds.{Settled, Took}
use Rattle.wire.proofs.answer_input.Given as goal

abbrev pub invariant-loop : goal.invariant-loop
invariant-loop g l =
    record {
      settled : Settled l.talk;
      took : Took (come l.initial.talk) (g.R.Read.remaining l.initial.from) (g.R.Read.remaining l.from) (g.W.Write.contents l.initial.out)
          (g.W.Write.contents l.out)
          (come l.talk);
    }
