-- What is said of a block of another size, unless the holes break a rule. Definitions only.
use Rattle.std.specs.Prelude.{List, ℕ}
use Rattle.rules.specs.Sound.{holes}
use Rattle.rules.specs.Calls.{Outcome}
use Rattle.rules.specs.Outcome.{After, leaves}
use Rattle.rules.specs.Inner.{sifted, resizing}
use Rattle.rules.specs.declared.Addr.{Addr}
use Rattle.rules.specs.declared.Heap.{Heap}

abbrev pub refits : ℕ → Addr → ℕ → ℕ → Heap → List ℕ → Outcome
refits s a align n h m = resizing s a align n h (holes h m)

abbrev pub refitted_if_sound : ℕ → Addr → ℕ → ℕ → Heap → List ℕ → After
refitted_if_sound s a align n h m = leaves h m (sifted h (holes h m) (refits s a align n h m))
