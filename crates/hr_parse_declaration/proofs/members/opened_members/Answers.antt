use Rattle.hr_parse_lexeme.proofs.Phrases.{item, last_item, then}
use Rattle.hr_parse_declaration.proofs.Listing.{none, kept_behind}
use Rattle.hr_parse_declaration.proofs.members.opened_members.Goals as goal

pub returns-in-Some : goal.returns-in-Some
returns-in-Some c = λ before h. item h (item c.in-Some.ensures (last_item c.in_ok-right.ensures))

pub returns : goal.returns
returns c = λ before h. item h (kept_behind c.in_default.ensures (then c.in_ok-list.ensures (none 0) (last_item c.in_ok-right-2.ensures)))
