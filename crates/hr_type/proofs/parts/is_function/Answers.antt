use Rattle.std.proofs.Common.{refl}
use Rattle.hr_type.proofs.Reading.{never, is_fun, con_fun_differ}
use Rattle.hr_type.proofs.Reading as reading
use Rattle.hr_type.proofs.parts.is_function.Goals as goal

pub returns-in-Var : goal.returns-in-Var
returns-in-Var c = never _ (λ h. reading.var_no_arrow _ _ c.in-Var.is h)

pub returns-in-Con : goal.returns-in-Con
returns-in-Con c = never _ (λ h. reading.con_no_arrow _ _ _ c.in-Con.is h)

pub returns-in-Fun : goal.returns-in-Fun
returns-in-Fun c = (λ _. is_fun _ _ _ c.in-Fun.is, λ _. refl)
