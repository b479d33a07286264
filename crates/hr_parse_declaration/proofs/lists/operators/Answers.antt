use Rattle.hr_tree.specs.Names.{operator_items}
use Rattle.hr_grammar.specs.Spelled.{IsOwnOperator}
use Rattle.hr_grammar_cases.specs.Readings.{spelled}
use Rattle.hr_parse_lexeme.proofs.Phrases.{spelled_read}
use Rattle.hr_parse_declaration.proofs.Listing.{first_part, next_part, names_end}
use Rattle.hr_parse_declaration.proofs.NoLonger.{shrinks_name}
use Rattle.hr_parse_declaration.proofs.lists.operators.Goals as goal

pub loop-comma-init : goal.loop-comma-init
loop-comma-init c = first_part (λ n. spelled n IsOwnOperator operator_items) c.in_ok-first.first c.new-list.ensures.items c.new-last.ensures (spelled_read c.in_ok-first.ensures)

pub loop-comma-preserved : goal.loop-comma-preserved
loop-comma-preserved c =
    next_part (λ n. spelled n IsOwnOperator operator_items) c.in_ok-operator.operator c.loop-comma.invariant c.in-Some.ensures (spelled_read c.in_ok-operator.ensures) c.take-in-loop-comma.ensures c.new-next.ensures c.in_ok-push-2.ensures.items

pub loop-comma-smaller : goal.loop-comma-smaller
loop-comma-smaller c = shrinks_name c.in-Some.ensures c.in_ok-operator.ensures

pub returns-in_default : goal.returns-in_default
returns-in_default c = names_end c.loop-comma.invariant c.in_default.ensures c.take.ensures c.in_ok-push.ensures.items
