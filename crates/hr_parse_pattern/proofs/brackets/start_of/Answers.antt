use Rattle.hr_parse_pattern.proofs.Behind.{behind}
use Rattle.hr_parse_pattern.proofs.brackets.start_of.Goals as goal

pub returns-in_ok-bound-in-Variable-clause-reads : goal.returns-in_ok-bound-in-Variable-clause-reads
returns-in_ok-bound-in-Variable-clause-reads c = behind _ _ _ _ c.variable.ensures.reads c.in_ok-bound-in-Variable.ensures
