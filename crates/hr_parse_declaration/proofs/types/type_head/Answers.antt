use Rattle.hr_parse_declaration.proofs.Declared.{head_read, no_variables, one_variable, variables_stay}
use Rattle.hr_parse_declaration.proofs.NoLonger.{shrinks}
use Rattle.hr_parse_declaration.proofs.types.type_head.Goals as goal

pub loop-variable-init : goal.loop-variable-init
loop-variable-init c = (c.expect_sort.new.cursor, c.in_ok-name.ensures, no_variables _ c.new-list.ensures.items)

pub loop-variable-preserved : goal.loop-variable-preserved
loop-variable-preserved c = (c.loop-variable.invariant.0, c.loop-variable.invariant.1, one_variable c.loop-variable.invariant.2 c.in-Some.ensures c.in_ok-push.ensures.items)

pub loop-variable-smaller : goal.loop-variable-smaller
loop-variable-smaller c = shrinks c.in-Some.ensures

pub returns-in_default : goal.returns-in_default
returns-in_default c = head_read c.loop-variable.invariant.1 (variables_stay c.in_default.ensures c.loop-variable.invariant.2)
