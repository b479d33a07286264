use Rattle.std.proofs.Common.{ap, sym, ◌∙◌, nat_lt}
use Rattle.hr_type.proofs.Layers.{spelling_var, spelling_con, spelling_fun}
use Rattle.hr_type.proofs.spell.has_spelling.Goals as goal

pub returns-in-Var : goal.returns-in-Var
returns-in-Var c = ap (nat_lt c.in-Var.variable) c.len.ensures ∙ sym (spelling_var c.args.scope.now _ _ c.in-Var.is)

pub returns-in-Con : goal.returns-in-Con
returns-in-Con c = c.is_named.ensures ∙ sym (spelling_con c.args.scope.now _ _ _ c.in-Con.is)

pub returns-in-Fun : goal.returns-in-Fun
returns-in-Fun c = sym (spelling_fun c.args.scope.now _ _ _ c.in-Fun.is)
