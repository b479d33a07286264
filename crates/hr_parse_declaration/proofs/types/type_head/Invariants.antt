use Rattle.std.proofs.Common.{length}
use Rattle.hr_layout.specs.Standing.{Standing}
use Rattle.hr_base.specs.declared.lexeme.Class.{Class}
use Rattle.hr_grammar.specs.Words.{IsOf}
use Rattle.hr_grammar_cases.specs.Readings.{one}
use Rattle.hr_parse_lexeme.specs.Reads.{Takes, ReadsEach}
use Rattle.hr_parse_declaration.proofs.types.type_head.Given as goal

abbrev pub invariant-loop-variable : goal.invariant-loop-variable
invariant-loop-variable l =
    (named : Standing) × Takes (IsOf Class.ConId) l.name l.fn.cursor named × ReadsEach 0 (λ below n. one n (IsOf Class.VarId)) l.list.items named l.cursor

abbrev pub decreases-loop-variable : goal.decreases-loop-variable
decreases-loop-variable l = length l.cursor.rest
