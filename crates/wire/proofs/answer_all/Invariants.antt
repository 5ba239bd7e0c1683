-- Of the bytes before those that are left every answer is written. The measure is what is left: each hearing gets on.
use Rattle.std.proofs.Common.{List, ℕ, length, ◌++◌, ◌≡◌}
use Rattle.talk.specs.Hearing.{come}
use Rattle.wire.specs.Bounds.{Said}
use Rattle.wire.proofs.answer_all.Given as goal

abbrev pub invariant-hearing : goal.invariant-hearing
invariant-hearing g l =
    record {
      front : List ℕ;
      cut : l.bytes ≡ front ++ l.rest;
      said : Said (come l.initial.talk) front (g.W.Write.contents l.initial.out) (g.W.Write.contents l.out) (come l.talk);
    }

abbrev pub decreases-hearing : goal.decreases-hearing
decreases-hearing g l = length l.rest
