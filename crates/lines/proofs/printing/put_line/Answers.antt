-- `lines::printing::put_line` meets its contract: a line is its byte, its two numbers and LF. Assumes nothing.
use Rattle.std.proofs.Common.{ap, ◌∙◌, rules}
use Rattle.std.proofs.lemmas.List.{places}
use Rattle.lines.specs.Lines.{hex}
use Rattle.lines.proofs.Placed.{line_parts}
use Rattle.lines.proofs.printing.put_line.Goals as goal

pub returns : goal.returns
returns c =
    let s = c.args in
    line_parts s.code s.one s.two s.out.now _ _ _ c.requires
    (c.put_hex.ensures ∙ ap (λ n. hex n s.code) (search (rules, places)))
    (c.put_hex-2.ensures ∙ ap (λ n. hex n s.one) (search (rules, places)))
    (c.put_hex-3.ensures ∙ ap (λ n. hex n s.two) (search (rules, places)))
