-- What an allocation decides: what is said of it, and the hole that is used. Definitions only.
use Rattle.std.specs.Prelude.{Option, Some, None, List, ℕ}
use Rattle.rules.specs.Sound.{holes}
use Rattle.rules.specs.Allocate.{find}
use Rattle.rules.specs.Calls.{Outcome, taken}
use Rattle.rules.specs.Outcome.{After, leaves}
use Rattle.rules.specs.declared.Place.{Place}
use Rattle.rules.specs.declared.Heap.{Heap}
use Rattle.rules.specs.declared.Write.{Write}
use Rattle.rules.specs.Inner.{sifted}
use Rattle.joining.specs.declared.Relinked.{Relinked}
use Rattle.joining.specs.Span.{relinked, linked_to}

-- ---- what is said of a rounded size on sound holes, and of any

abbrev pub takes : ℕ → ℕ → Heap → List ℕ → Outcome
takes want align h m = taken want align h (holes h m) (find want align (holes h m))

abbrev pub granted : ℕ → ℕ → Heap → List ℕ → After
granted want align h m = leaves h m (takes want align h m)

abbrev pub granted_if_sound : ℕ → ℕ → Heap → List ℕ → After
granted_if_sound want align h m = leaves h m (sifted h (holes h m) (takes want align h m))

-- ---- a hole is used

-- what remains in front stands where the hole stood, or the hole before leads to what comes behind
unfoldable pub split_to : Place → List ℕ → Place → Option Write → Option Write → Place → Relinked
split_to first m prev None rear to = linked_to first m prev to rear
split_to first m prev (Some front) rear to = relinked first rear (Some front)
