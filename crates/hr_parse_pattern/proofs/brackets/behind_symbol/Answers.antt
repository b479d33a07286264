use Rattle.hr_parse_pattern.proofs.brackets.behind_symbol.Goals as goal

pub returns-clause-reads : goal.returns-clause-reads
returns-clause-reads c = c.in_ok-named.ensures
