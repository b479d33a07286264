use Rattle.hr_parse_declaration.proofs.Listing.{alone, between}
use Rattle.hr_parse_declaration.proofs.names.own_variable.Goals as goal

pub returns-in_ok-name-in-None : goal.returns-in_ok-name-in-None
returns-in_ok-name-in-None c = record { is = c.in_ok-name-in-None.ensures.is; taken = alone c.in-None.ensures c.in_ok-name-in-None.ensures }

pub returns-in_ok-right-in-Some : goal.returns-in_ok-right-in-Some
returns-in_ok-right-in-Some c = record {
  is = (c.in-Some.ensures.is, (c.in_ok-symbol-in-Some.ensures.is, c.in_ok-right-in-Some.ensures.is));
  taken = between c.in-Some.ensures c.in_ok-symbol-in-Some.ensures c.in_ok-right-in-Some.ensures;
}
