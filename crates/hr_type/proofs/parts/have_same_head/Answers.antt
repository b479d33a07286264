use Rattle.hr_type.proofs.Reading.{never, variables_tell, con_var_differ, con_fun_differ, constructors_tell, constructors_fail, functions_tell}
use Rattle.hr_type.proofs.parts.have_same_head.Goals as goal

pub returns-in-Var : goal.returns-in-Var
returns-in-Var c = variables_tell _ _ _ _ c.in-Var.is c.is_variable.ensures

pub returns-in-Var-right : goal.returns-in-Var-right
returns-in-Var-right c = never _ (con_var_differ _ _ _ _ _ c.in-Con.is c.in-Var-right.is)

pub returns-then-is_same_entity : goal.returns-then-is_same_entity
returns-then-is_same_entity c =
    constructors_tell _ _ _ _ _ _ _ _ c.in-Con.is c.in-Con-right.is (c.is_same_entity.ensures.exact.0 c.if-is_same_entity.true) c.len.ensures c.len-then-is_same_entity.ensures

pub returns-else-is_same_entity : goal.returns-else-is_same_entity
returns-else-is_same_entity c = constructors_fail _ _ _ _ _ _ _ c.in-Con.is c.in-Con-right.is c.if-is_same_entity.false c.is_same_entity.ensures.exact

pub returns-in-Fun-right : goal.returns-in-Fun-right
returns-in-Fun-right c = never _ (con_fun_differ _ _ _ _ _ _ c.in-Con.is c.in-Fun-right.is)

pub returns-in-Fun : goal.returns-in-Fun
returns-in-Fun c = functions_tell _ _ _ _ _ c.in-Fun.is c.is_function.ensures
