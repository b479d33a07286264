use Rattle.hr_parse_pattern.proofs.Behind.{behind}
use Rattle.hr_parse_pattern.proofs.operators.operator.Goals as goal

pub returns-in_ok-left-in-Backquote : goal.returns-in_ok-left-in-Backquote
returns-in_ok-left-in-Backquote c = behind _ _ _ _ c.quoted.ensures c.in_ok-left-in-Backquote.ensures
