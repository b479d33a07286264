use Rattle.std.proofs.Common.{sym, ap, refl}
use Rattle.hr_type.specs.Heads.{placed}
use Rattle.hr_type.proofs.Reading.{is_var, if_ok, made_con, made_fun}
use Rattle.hr_type.proofs.copy.made.Goals as goal

pub returns-in-Var : goal.returns-in-Var
returns-in-Var c = sym (ap (λ h. placed h c.args.types.now.items) (is_var _ _ c.in-Var.is))

pub returns-in_ok-copy-in-Con : goal.returns-in_ok-copy-in-Con
returns-in_ok-copy-in-Con c = made_con _ _ _ _ _ c.in_ok-own-in-Con.ensures.taken c.in_ok-own-in-Con.ensures.left _ _ _ _ c.in-Con.is c.in_ok-copy-in-Con.ensures c.from_vec.ensures c.len.ensures

pub returns-in_ok-own-in-Fun : goal.returns-in_ok-own-in-Fun
returns-in_ok-own-in-Fun c =
    if_ok c.function_of.result _ _ (λ ty h. made_fun _ _ _ _ 2 c.in_ok-own-in-Fun.ensures.taken c.in_ok-own-in-Fun.ensures.left _ _ ty c.in-Fun.is refl h) c.function_of.ensures
