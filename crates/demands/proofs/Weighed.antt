-- K1 to K13, by computation. Assumes nothing.
use mathlib.Core.Path.{refl}
use lib.Count.{ones_in}
use Rattle.rules.specs.Words.{word, store}
use Rattle.rules.specs.Holes.{head_at, put_head, holes_from, first_of, put_heads, total}
use Rattle.rules.specs.Sound.{sound_numbers, gap, lie, rise, leave_before, leave_after, sound_holes, sound, holes}
use Rattle.rules.specs.Allocate.{rounded, candidate, suits, later, find, grant_of, largest_grant, remains, split}
use Rattle.rules.specs.Free.{in_front, freed, overlaps, eight_to_hole}
use Rattle.rules.specs.Calls.{opened, taken, given, grown, gathered, extended, accepted}
use Rattle.rules.specs.Refusals.{tests, unless}
use Rattle.rules.specs.Answers.{refusal_numbers, answer_numbers}
use Rattle.rules.specs.Outcome.{decided, outcome, leaves, after}
use Rattle.demands.specs.Weighed.{run, weigh, Weighed}

pub weighed : Weighed
unfolding ones_in word store head_at put_head holes_from first_of put_heads total sound_numbers gap lie rise leave_before leave_after sound_holes sound holes rounded candidate suits later find grant_of largest_grant remains split in_front freed overlaps eight_to_hole opened taken given grown gathered extended accepted tests unless refusal_numbers answer_numbers decided outcome leaves after run weigh
weighed = refl
