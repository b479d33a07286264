use Rattle.hr_parse_lexeme.proofs.Phrases.{nothing_taken, taken, taken_more, all_unmoved}
use Rattle.hr_parse_lexeme.proofs.names.parenthesis.Goals as goal

pub returns-in-Some : goal.returns-in-Some
returns-in-Some c = record {
  is = (c.in_ok-left.ensures.is, c.in-Some.ensures.is);
  taken = taken c.in_ok-left.ensures (taken c.in-Some.ensures (nothing_taken _));
}

pub returns : goal.returns
returns c = record {
  is = (c.in_ok-left.ensures.is, (c.in_ok-commas.ensures.commas, c.in_ok-right.ensures.is));
  taken = taken c.in_ok-left.ensures (all_unmoved c.in_default.ensures (taken_more c.in_ok-commas.ensures.taken c.in_ok-right.ensures));
}
