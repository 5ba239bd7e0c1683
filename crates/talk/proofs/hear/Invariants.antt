-- From line to line the parts have come to what comes of hearing the bytes before those that are left. The measure is what is left of them.
use Rattle.std.proofs.Common.{List, ℕ, length, ◌++◌, ◌≡◌, ◌≤◌, ◌<◌, ◌⊎◌}
use Rattle.lines.specs.Wire.{longest}
use Rattle.talk.specs.Hearing.{line_room, answers_room, heard}
use Rattle.talk.specs.Transcript.{at}
use Rattle.talk.proofs.hear.Given as goal

abbrev pub invariant-loop-rest : goal.invariant-loop-rest
invariant-loop-rest l =
    record {
      front : List ℕ;
      cut : l.bytes ≡ front ++ l.rest;
      comes : at l.heap l.arena l.kept.items l.waits.items
          ≡ heard front (at l.initial.heap l.initial.arena l.initial.kept.items l.initial.waits.items);
      ends : (length l.waits.items ≤ longest)
          ⊎ ((0 < length front) × (length l.kept.items ≤ line_room) × (length l.waits.items ≤ answers_room));
    }

abbrev pub decreases-loop-rest : goal.decreases-loop-rest
decreases-loop-rest l = length l.rest
