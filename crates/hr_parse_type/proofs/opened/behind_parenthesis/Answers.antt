use Rattle.hr_parse_lexeme.proofs.Phrases.{nothing_taken, taken, taken_more, all_unmoved, takes_stay}
use Rattle.hr_parse_type.proofs.opened.behind_parenthesis.Goals as goal

pub returns-in-Some : goal.returns-in-Some
returns-in-Some c = λ before h. record { is = (h.is, c.in-Some.ensures.is); taken = taken h (taken c.in-Some.ensures (nothing_taken _)) }

pub returns : goal.returns
returns c = λ before h. record {
  is = (h.is, (c.in_ok-commas.ensures.commas, c.in_ok-right-2.ensures.is));
  taken = taken h (all_unmoved c.in_default.ensures (all_unmoved c.in_default-accept.ensures (taken_more c.in_ok-commas.ensures.taken c.in_ok-right-2.ensures)));
}
