use Rattle.hr_grammar.specs.Nodes.{PatPlace}
use Rattle.hr_parse_pattern.proofs.Names.{name_stays, same_name}
use Rattle.hr_parse_pattern.proofs.Patterns.{made, variable_read}
use Rattle.hr_parse_pattern.proofs.brackets.variable.Goals as goal

pub returns-in_ok-variable_pattern-in-None-clause-reads : goal.returns-in_ok-variable_pattern-in-None-clause-reads
returns-in_ok-variable_pattern-in-None-clause-reads c =
    λ before h. made c.in_ok-variable_pattern-in-None.ensures (variable_read PatPlace.Atomic (same_name c.take.ensures (name_stays c.in-None.ensures h)))

pub returns-in-Some-clause-reads : goal.returns-in-Some-clause-reads
returns-in-Some-clause-reads c = λ before h. (_, h, c.in-Some.ensures)
