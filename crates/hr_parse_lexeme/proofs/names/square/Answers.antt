use Rattle.hr_parse_lexeme.proofs.Phrases.{nothing_taken, taken}
use Rattle.hr_parse_lexeme.proofs.names.square.Goals as goal

pub returns-in-Some : goal.returns-in-Some
returns-in-Some c = record {
  is = (c.in_ok-left.ensures.is, c.in-Some.ensures.is);
  taken = taken c.in_ok-left.ensures (taken c.in-Some.ensures (nothing_taken _));
}
