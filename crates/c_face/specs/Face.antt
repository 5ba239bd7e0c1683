-- Heaps and answers as C sees them: seven words, and a number with two words. Definitions only.
use Rattle.std.specs.Prelude.{◌≡◌, Result, List, [], ◌∷◌, ℕ, get_or}
use Rattle.rules.specs.Kinds.{addr, place, number, index}
use Rattle.rules.specs.Answers.{answer_numbers}
use Rattle.rules.specs.Calls as Calls
use Rattle.rules.specs.Outcome.{After, after, Rows, rows_after}
use Rattle.rules.specs.declared.Heap.{Heap}
use Rattle.rules.specs.declared.Answer.{Answer}
use Rattle.rules.specs.declared.Refusal.{Refusal}

-- base, arena length, bottom, top, first, pending, used
abbrev pub heap_of : List ℕ → Heap
heap_of ws =
    record {
      base = addr (get_or ws 0 0);
      len = get_or ws 1 0;
      bottom = addr (get_or ws 2 0);
      top = addr (get_or ws 3 0);
      first = place (get_or ws 4 0);
      pending = get_or ws 5 0;
      used = get_or ws 6 0;
    }

abbrev pub words_of : Heap → List ℕ
words_of h =
    number h.base
    ∷ h.len
    ∷ number h.bottom
    ∷ number h.top
    ∷ index h.first
    ∷ h.pending
    ∷ h.used
    ∷ []

-- the number is the result, the two values are the answer's words
abbrev pub Tells : Result Answer Refusal → ℕ → List ℕ → Type 0
Tells a r ws = (r ≡ (answer_numbers a).no) × (ws ≡ (answer_numbers a).one ∷ (answer_numbers a).two ∷ [])

-- the result, the heap's words, the answer's words and the entire arena
abbrev pub Shows : After → ℕ → List ℕ → List ℕ → List ℕ → Type 0
Shows a r hs ws m = Tells a.answer r ws × (hs ≡ words_of a.heap) × (m ≡ a.arena)

-- the list of a heap on its arena, asked with these rows: the result, the answer's words and the rows as they are left
abbrev pub Lists : Heap → List ℕ → Rows → ℕ → List ℕ → Rows → Type 0
Lists h m before r ws left = Tells (after Calls.list h m).answer r ws × (left ≡ rows_after Calls.list h m before)
