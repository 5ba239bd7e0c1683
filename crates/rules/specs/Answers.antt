-- The paper's number and two values of each answer. Definitions only.
use Rattle.std.specs.Prelude.{Result, Ok, Err, ℕ}
use Rattle.rules.specs.declared.Refusal.{Refusal}
use Rattle.rules.specs.declared.Refusal.TheVariants.{BadOpening, AlreadyOpened, Unopened, OtherLength, NotSound, BadLayout, NoRoom, BadSpan, PastArena, BadStretch}
use Rattle.rules.specs.declared.Answer.{Answer}
use Rattle.rules.specs.declared.Answer.TheVariants.{Opened, Allocated, Freed, Resized, Extended, Listed, Room}
use Rattle.rules.specs.Kinds.{number}

pub record Numbers : Type 0 where
  -- 0 or the refusal
  pub no : ℕ
  pub one : ℕ
  pub two : ℕ

abbrev pub numbers : ℕ → ℕ → ℕ → Numbers
numbers n x y = record { no = n; one = x; two = y }

-- a refusal answers its number and zeros, except 7, whose count is the number of holes
unfoldable pub refusal_numbers : Refusal → Numbers
refusal_numbers BadOpening = numbers 1 0 0
refusal_numbers AlreadyOpened = numbers 2 0 0
refusal_numbers Unopened = numbers 3 0 0
refusal_numbers OtherLength = numbers 4 0 0
refusal_numbers NotSound = numbers 5 0 0
refusal_numbers BadLayout = numbers 6 0 0
refusal_numbers (NoRoom count) = numbers 7 0 count
refusal_numbers BadSpan = numbers 8 0 0
refusal_numbers PastArena = numbers 9 0 0
refusal_numbers BadStretch = numbers 10 0 0

unfoldable pub answer_numbers : Result Answer Refusal → Numbers
answer_numbers (Ok (Opened bottom size)) = numbers 0 (number bottom) size
answer_numbers (Ok (Allocated a count)) = numbers 0 (number a) count
answer_numbers (Ok (Freed rounded used)) = numbers 0 rounded used
answer_numbers (Ok (Resized rounded used)) = numbers 0 rounded used
answer_numbers (Ok (Extended size pending)) = numbers 0 size pending
answer_numbers (Ok (Listed holes free)) = numbers 0 holes free
answer_numbers (Ok (Room largest holes)) = numbers 0 largest holes
answer_numbers (Err r) = refusal_numbers r
