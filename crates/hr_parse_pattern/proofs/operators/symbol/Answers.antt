use Rattle.std.proofs.Common.{refl, inl, inr}
use Rattle.hr_parse_pattern.proofs.Names.{one_lexeme}
use Rattle.hr_parse_pattern.proofs.operators.symbol.Goals as goal

pub returns-in_ok-symbol-in-Minus : goal.returns-in_ok-symbol-in-Minus
returns-in_ok-symbol-in-Minus c = one_lexeme refl (inl c.in_ok-symbol-in-Minus.ensures.is) c.in_ok-symbol-in-Minus.ensures

pub returns-in_ok-symbol-in_default : goal.returns-in_ok-symbol-in_default
returns-in_ok-symbol-in_default c = one_lexeme refl (inr c.in_ok-symbol-in_default.ensures.is) c.in_ok-symbol-in_default.ensures
