-- What a call on a lent heap tells and leaves. Definitions only.
use Rattle.std.specs.Prelude.{◌≡◌, Result, List, ℕ}
use Rattle.rules.specs.Outcome.{After}
use Rattle.rules.specs.declared.Heap.{Heap}
use Rattle.rules.specs.declared.Answer.{Answer}
use Rattle.rules.specs.declared.Refusal.{Refusal}

-- the answer, the heap that is stored and the arena are what the definition says
abbrev pub Stored : After → Result Answer Refusal → Heap → List ℕ → Type 0
Stored a r h m = (r ≡ a.answer) × (h ≡ a.heap) × (m ≡ a.arena)
