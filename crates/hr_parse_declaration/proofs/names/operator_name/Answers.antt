use Rattle.hr_tree.specs.Names.{operator_items}
use Rattle.hr_grammar.specs.Spelled.{IsOwnOperator}
use Rattle.hr_parse_lexeme.specs.Reads.{Spells}
use Rattle.hr_parse_declaration.proofs.Listing.{single, moved}
use Rattle.hr_parse_declaration.proofs.names.operator_name.Goals as goal

pub returns-in-Some : goal.returns-in-Some
returns-in-Some c = record { is = c.in-Some.ensures.is; taken = single c.in-Some.ensures }

pub returns-in-None : goal.returns-in-None
returns-in-None c =
    moved c.quoted_name.result (λ operator a b. Spells IsOwnOperator operator_items operator a b) c.args.cursor.now c.own_symbol.new.cursor c.quoted_name.new.cursor c.in-None.ensures c.quoted_name.ensures
