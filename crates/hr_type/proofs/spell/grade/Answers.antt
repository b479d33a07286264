use Rattle.std.proofs.Common.{ap, sym, ◌∙◌}
use Rattle.hr_type.proofs.Spellings.{written_var, written_enclosed, written_applied, written_fun, applied_grade-map}
use Rattle.hr_type.specs.Spelling as spec
use Rattle.hr_type.specs.Spelling.{Written}
use Rattle.hr_type.proofs.spell.grade.Goals as goal

pub returns-in-Var : goal.returns-in-Var
returns-in-Var c = λ scope. sym (ap (λ (w : Written). w.grade) (written_var scope _ _ c.in-Var.is))

pub returns-in-Fun : goal.returns-in-Fun
returns-in-Fun c = λ scope. sym (ap (λ (w : Written). w.grade) (written_fun scope _ _ _ c.in-Fun.is))

pub returns-in-Some : goal.returns-in-Some
returns-in-Some c = λ scope. sym (ap (λ (w : Written). w.grade) (written_enclosed scope _ _ _ c.in-Some.field-0 c.in-Con.is (sym c.brackets_of.ensures ∙ c.in-Some.is)))

pub returns-in-None : goal.returns-in-None
returns-in-None c = λ scope.
    c.applied_grade.ensures ∙ ap spec.applied_grade c.as_slice.ensures ∙ sym (applied_grade-map (spec.written scope) c.in-Con.arguments)
    ∙ sym (ap (λ (w : Written). w.grade) (written_applied scope _ _ _ c.in-Con.is (sym c.brackets_of.ensures ∙ c.in-None.is)))
