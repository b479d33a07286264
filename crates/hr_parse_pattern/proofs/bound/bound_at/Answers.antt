use Rattle.std.proofs.Common.{◌∙◌, arith}
use Rattle.hr_grammar.specs.Nodes.{PatPlace}
use Rattle.hr_parse_pattern.proofs.Names.{name_stays, same_name}
use Rattle.hr_parse_pattern.proofs.Patterns.{made, as_read, variable_read}
use Rattle.hr_parse_pattern.proofs.bound.bound_at.Goals as goal

pub returns-in_ok-variable_pattern-in-None-clause-reads : goal.returns-in_ok-variable_pattern-in-None-clause-reads
returns-in_ok-variable_pattern-in-None-clause-reads c =
    λ before h. made c.in_ok-variable_pattern-in-None.ensures (variable_read PatPlace.Atomic (same_name (c.take.ensures ∙ c.new-bound.ensures) (name_stays c.in-None.ensures h)))

pub returns-in_ok-bound_as-in-Some-clause-reads : goal.returns-in_ok-bound_as-in-Some-clause-reads
returns-in_ok-bound_as-in-Some-clause-reads c =
    λ before h. made c.in_ok-bound_as-in-Some.ensures
    (as_read (omega (arith, c.in_ok-part-in-Some.ensures.fits)) (same_name c.new-bound.ensures h) c.in-Some.ensures c.in_ok-part-in-Some.ensures.reads)
