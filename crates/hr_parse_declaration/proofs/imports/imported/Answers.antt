use Rattle.hr_parse_lexeme.proofs.Phrases.{item, spelled_read}
use Rattle.hr_parse_declaration.proofs.Listing.{kept_behind}
use Rattle.hr_parse_declaration.proofs.imports.imported.Goals as goal

pub returns-in_ok-variable-in-None : goal.returns-in_ok-variable-in-None
returns-in_ok-variable-in-None c = kept_behind c.in-None.ensures (spelled_read c.in_ok-variable-in-None.ensures)

pub returns-in_ok-members-in-Some : goal.returns-in_ok-members-in-Some
returns-in_ok-members-in-Some c = item c.in-Some.ensures c.in_ok-members-in-Some.ensures
