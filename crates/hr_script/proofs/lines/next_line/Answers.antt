use Rattle.std.proofs.Common.{◌∷◌, ◌+◌, ap, sym, ◌∙◌, arith, drop, length}
use Rattle.std.specs.Str.Lines.{lines, strip_carriage_return}
use Rattle.std.proofs.lemmas.Bool.{eqb-false}
use Rattle.hr_script.proofs.Scripts.{line_found, line_left}
use Rattle.hr_script.proofs.lines.next_line.Goals as goal

pub returns-in-Some-clause-lines : goal.returns-in-Some-clause-lines
returns-in-Some-clause-lines c =
    line_found c.args.bytes.now c.in-Some.end (sym c.in-Some.is ∙ c.line_end.ensures.place) c.in-Some.ensures.within
    ∙ ap (λ x. strip_carriage_return x ∷ lines (drop (c.in-Some.end + 1) c.args.bytes.now)) (sym c.split_at.ensures.front)
    ∙ ap (λ x. x ∷ lines (drop (c.in-Some.end + 1) c.args.bytes.now)) (sym c.without_return-line.ensures)
    ∙ ap (λ x. c.without_return-line.result.now ∷ lines x) (sym c.split_at-in-Some.ensures.back)

pub returns-in-None-2-clause-lines : goal.returns-in-None-2-clause-lines
returns-in-None-2-clause-lines c =
    line_left c.args.bytes.now (sym c.in-None.is ∙ c.line_end.ensures.place)
    (omega (arith, eqb-false (length c.args.bytes.now) 0 (sym c.is_empty.ensures ∙ c.if-is_empty.false)))
