use Rattle.std.proofs.Common.{inl, inr}
use Rattle.hr_parse_declaration.proofs.Listing.{between, behind_left}
use Rattle.hr_parse_declaration.proofs.names.quoted_name.Goals as goal

pub returns-in_ok-right-in-Some : goal.returns-in_ok-right-in-Some
returns-in_ok-right-in-Some c = record {
  is = inr (c.in_ok-left.ensures.is, (c.in-Some.ensures.is, c.in_ok-right-in-Some.ensures.is));
  taken = between c.in_ok-left.ensures c.in-Some.ensures c.in_ok-right-in-Some.ensures;
}

pub returns-in_ok-right-in-None : goal.returns-in_ok-right-in-None
returns-in_ok-right-in-None c = record {
  is = inl (c.in_ok-left.ensures.is, (c.in_ok-name-in-None.ensures.is, c.in_ok-right-in-None.ensures.is));
  taken = behind_left c.in_ok-left.ensures c.in-None.ensures c.in_ok-name-in-None.ensures c.in_ok-right-in-None.ensures;
}
