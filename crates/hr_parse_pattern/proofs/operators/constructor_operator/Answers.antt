use Rattle.std.proofs.Common.{refl}
use Rattle.hr_parse_pattern.proofs.Behind.{behind}
use Rattle.hr_parse_pattern.proofs.Names.{one_lexeme}
use Rattle.hr_parse_pattern.proofs.operators.constructor_operator.Goals as goal

pub returns-in_ok-left-in-Backquote : goal.returns-in_ok-left-in-Backquote
returns-in_ok-left-in-Backquote c = behind _ _ _ _ c.quoted_constructor.ensures c.in_ok-left-in-Backquote.ensures

pub returns-in_ok-symbol-in_default : goal.returns-in_ok-symbol-in_default
returns-in_ok-symbol-in_default c = one_lexeme refl c.in_ok-symbol-in_default.ensures.is c.in_ok-symbol-in_default.ensures
