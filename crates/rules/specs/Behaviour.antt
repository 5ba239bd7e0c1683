-- What a box does with what it is lent, as one value: the statements of the demands speak of any such value, and ours is the one that the
-- definitions make. Definitions only.
use Rattle.std.specs.Prelude.{◌≡◌, Result, Bool, List, ℕ, length}
use Rattle.rules.specs.declared.Hole.{Hole}
use Rattle.rules.specs.declared.Heap.{Heap}
use Rattle.rules.specs.declared.Answer.{Answer}
use Rattle.rules.specs.declared.Refusal.{Refusal}
use Rattle.rules.specs.Sound.{unopened, sound, holes}
use Rattle.rules.specs.Calls.{Call, Outcome}
use Rattle.rules.specs.Answers.{Numbers, answer_numbers}
use Rattle.rules.specs.Outcome.{outcome, After, after, Rows, rows_after}
use Rattle.rules.specs.InWords.{Sound}
use Rattle.rules.specs.Runs.{Reader, reading}

pub record Behaviour : Type 0 where
  -- the heap before an opening
  pub unopened : Heap
  -- the test that its calls make, and the holes that they read
  pub sound : Heap → List Hole → Bool
  pub holes : Heap → List ℕ → List Hole
  -- what comes of a call; the answer, heap and arena after it; the rows after it
  pub outcome : Call → Heap → List ℕ → Outcome
  pub after : Call → Heap → List ℕ → After
  pub rows_after : Call → Heap → List ℕ → Rows → Rows
  -- what a reader says
  pub reading : Reader → Heap → ℕ
  -- the number of an answer, with its two values
  pub answer_numbers : Result Answer Refusal → Numbers

-- what the definitions say
abbrev pub ours : Behaviour
ours =
    record {
      unopened = unopened;
      sound = sound;
      holes = holes;
      outcome = outcome;
      after = after;
      rows_after = rows_after;
      reading = reading;
      answer_numbers = answer_numbers;
    }

-- a sound heap with its arena
abbrev pub Good : Behaviour → Heap → List ℕ → Type 0
Good b h m = (length m ≡ h.len) × Sound h (b.holes h m)
