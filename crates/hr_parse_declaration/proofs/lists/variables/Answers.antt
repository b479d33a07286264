use Rattle.hr_tree.specs.Names.{variable_items}
use Rattle.hr_grammar.specs.Spelled.{IsVariable}
use Rattle.hr_grammar_cases.specs.Readings.{spelled}
use Rattle.hr_parse_lexeme.proofs.Phrases.{spelled_read}
use Rattle.hr_parse_declaration.proofs.Listing.{first_part, next_part, names_end}
use Rattle.hr_parse_declaration.proofs.NoLonger.{shrinks_name}
use Rattle.hr_parse_declaration.proofs.lists.variables.Goals as goal

pub loop-comma-init : goal.loop-comma-init
loop-comma-init c = λ before h. first_part (λ n. spelled n IsVariable variable_items) c.args.first c.new-list.ensures.items c.new-last.ensures (spelled_read h)

pub loop-comma-preserved : goal.loop-comma-preserved
loop-comma-preserved c = λ before h.
    next_part (λ n. spelled n IsVariable variable_items) c.in_ok-variable.variable (c.loop-comma.invariant before h) c.in-Some.ensures (spelled_read c.in_ok-variable.ensures) c.take-in-loop-comma.ensures c.new-next.ensures c.in_ok-push-2.ensures.items

pub loop-comma-smaller : goal.loop-comma-smaller
loop-comma-smaller c = shrinks_name c.in-Some.ensures c.in_ok-variable.ensures

pub returns-in_default : goal.returns-in_default
returns-in_default c = λ before h. names_end (c.loop-comma.invariant before h) c.in_default.ensures c.take.ensures c.in_ok-push.ensures.items
