-- An answer in the paper's numbers, as code has them. Definitions only.
use Rattle.rules.specs.Answers.{Numbers}
use Rattle.answers.specs.declared.Told.{Told}

abbrev pub told : Numbers → Told
told n = record { no = n.no; one = n.one; two = n.two }
