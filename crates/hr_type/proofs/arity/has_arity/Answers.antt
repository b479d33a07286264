use Rattle.std.proofs.Common.{ap, sym, ◌∙◌}
use Rattle.hr_type.specs.Spelling as spec
use Rattle.hr_type.proofs.Layers.{arity_var, arity_con, arity_fun}
use Rattle.hr_type.proofs.arity.has_arity.Goals as goal

pub returns-in-Var : goal.returns-in-Var
returns-in-Var c = sym (arity_var _ _ c.in-Var.is)

pub returns-in-Con : goal.returns-in-Con
returns-in-Con c = c.fits_arity.ensures ∙ ap (λ n. spec.fits_arity c.in-Con.entity n (spec.brackets_of c.in-Con.entity)) c.len.ensures ∙ sym (arity_con _ _ _ c.in-Con.is)

pub returns-in-Fun : goal.returns-in-Fun
returns-in-Fun c = sym (arity_fun _ _ _ c.in-Fun.is)
