use Rattle.hr_parse_declaration.proofs.Listing.{narrowed}
use Rattle.hr_parse_declaration.proofs.next.fixity_word.Goals as goal

pub returns-in-Some : goal.returns-in-Some
returns-in-Some c = narrowed (c.is_fixity_next.ensures c.if-is_fixity_next.true) c.in-Some.ensures
