-- What the two reports gather of the holes. Definitions only.
use Rattle.std.specs.Prelude.{Result, Ok, Err, cond, List, ℕ, length}
use Rattle.rules.specs.Sound.{sound_holes}
use Rattle.rules.specs.Allocate.{largest_grant}
use Rattle.rules.specs.declared.Hole.{Hole}
use Rattle.rules.specs.declared.Heap.{Heap}
use Rattle.rules.specs.declared.Refusal.{Refusal}
use Rattle.rules.specs.declared.Refusal.TheVariants.{NotSound}
use Rattle.reports.specs.declared.Survey.{Survey}

unfoldable pub survey_of : Heap → ℕ → List Hole → Result Survey Refusal
survey_of h align ks =
    cond (sound_holes h ks) (Ok (record { count = length ks; largest = largest_grant align ks })) (Err NotSound)
