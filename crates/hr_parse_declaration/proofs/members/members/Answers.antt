use Rattle.hr_grammar_cases.specs.Imports.{members_reading}
use Rattle.hr_parse_declaration.proofs.Listing.{unread}
use Rattle.hr_parse_declaration.proofs.members.members.Goals as goal

pub returns-in-None : goal.returns-in-None
returns-in-None c = unread members_reading c.in-None.ensures

pub returns-in_ok-members-in-Some : goal.returns-in_ok-members-in-Some
returns-in_ok-members-in-Some c = c.in_ok-members-in-Some.ensures c.args.cursor.now c.in-Some.ensures
