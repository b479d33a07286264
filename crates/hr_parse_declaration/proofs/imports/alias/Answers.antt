use Rattle.hr_grammar_cases.specs.Imports.{alias_reading}
use Rattle.hr_parse_lexeme.proofs.Phrases.{item, last_item}
use Rattle.hr_parse_declaration.proofs.Listing.{unread}
use Rattle.hr_parse_declaration.proofs.imports.alias.Goals as goal

pub returns-in-None : goal.returns-in-None
returns-in-None c = unread alias_reading c.in-None.ensures

pub returns-in_ok-name-in-Some : goal.returns-in_ok-name-in-Some
returns-in_ok-name-in-Some c = item c.in-Some.ensures (last_item c.in_ok-name-in-Some.ensures)
