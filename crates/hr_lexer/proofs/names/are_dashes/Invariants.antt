use Rattle.std.proofs.Common.{◌≡◌, drop}
use Rattle.std.specs.List.{list_all}
use Rattle.hr_rules.specs.Operators.{is_dash}
use Rattle.hr_lexer.proofs.names.are_dashes.Given as goal

abbrev pub invariant-loop-c : goal.invariant-loop-c
invariant-loop-c l = list_all is_dash (drop l.c-index l.run) ≡ list_all is_dash l.run
