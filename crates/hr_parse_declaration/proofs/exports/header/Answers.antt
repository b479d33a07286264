use Rattle.hr_parse_lexeme.proofs.Phrases.{item, then, last_item}
use Rattle.hr_parse_declaration.proofs.Listing.{none}
use Rattle.hr_parse_declaration.proofs.exports.header.Goals as goal

pub returns : goal.returns
returns c = item c.in_ok-word.ensures (item c.in_ok-name.ensures (then c.in_ok-exports.ensures (none 0) (last_item c.in_ok-opening.ensures)))
