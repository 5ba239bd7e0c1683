-- `lines::answer::tell` meets its contract: it prints the answer's line. Assumes nothing.
use mathlib.Core.Path.{refl}
use Rattle.lines.proofs.Placed.{line_front}
use borrow.Author.Rules.{rules}
use Rattle.lines.proofs.answer.tell.Goals as goal

pub returns : goal.returns
returns c =
    let s = c.from-t.ensures in
    (refl, rw (c.put_line.ensures, s) (line_front _ _ _ _), search rules)
