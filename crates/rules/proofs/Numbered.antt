-- Each answer has the paper's number and values. Assumes nothing.
use mathlib.Core.Path.{refl}
use Rattle.rules.specs.Answers.{answer_numbers, refusal_numbers}
use Rattle.rules.specs.Behaviour.{ours}
use Rattle.rules.specs.Statements.{RefusalNumbers, AnswerNumbers}

pub refusal_numbers_lem : RefusalNumbers ours
unfolding answer_numbers refusal_numbers
refusal_numbers_lem =
    record {
      one = refl;
      two = refl;
      three = refl;
      four = refl;
      five = refl;
      six = refl;
      seven = λ n. refl;
      eight = refl;
      nine = refl;
      ten = refl;
    }

pub answer_numbers_lem : AnswerNumbers ours
unfolding answer_numbers
answer_numbers_lem =
    record {
      opens = λ a n. refl;
      allocates = λ a n. refl;
      frees = λ x y. refl;
      resizes = λ x y. refl;
      extends = λ x y. refl;
      lists = λ x y. refl;
      reports = λ x y. refl;
    }
