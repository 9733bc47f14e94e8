use Rattle.std.proofs.Common.{◌∙◌, sym, ap, ◌∷◌, length-take, length-drop, arith}
use Rattle.tko_bytes.specs.Lines.{lines_of}
use Rattle.tko_bytes.proofs.LineLemmas.{lines_of-split, lines_of-last}
use Rattle.tko_bytes.proofs.lines.first_line.Goals as goal

pub returns-in-Some-clause-lines : goal.returns-in-Some-clause-lines
returns-in-Some-clause-lines c =
    lines_of-split c.args.text.now c.in-Some.line.now c.in-Some.rest.now c.in-Some.ensures
    ∙ ap (λ line. line ∷ lines_of c.in-Some.rest.now) (sym c.content.ensures)

pub returns-in-None-clause-lines : goal.returns-in-None-clause-lines
returns-in-None-clause-lines c =
    lines_of-last c.args.text.now _ c.requires (simp (length-take, length-drop) (omega arith)) c.in-None.ensures
