use Rattle.std.proofs.Common.{refl, inl, inr}
use Rattle.hr_parse_pattern.proofs.Names.{three_lexemes}
use Rattle.hr_parse_pattern.proofs.operators.quoted.Goals as goal

pub returns-in_ok-right-in-Variable : goal.returns-in_ok-right-in-Variable
returns-in_ok-right-in-Variable c =
    λ before h. three_lexemes refl (inl (h.is, (c.in_ok-name-in-Variable.ensures.is, c.in_ok-right-in-Variable.ensures.is))) h c.in_ok-name-in-Variable.ensures c.in_ok-right-in-Variable.ensures

pub returns-in_ok-right-in_default : goal.returns-in_ok-right-in_default
returns-in_ok-right-in_default c =
    λ before h. three_lexemes refl (inr (h.is, (c.in_ok-name-in_default.ensures.is, c.in_ok-right-in_default.ensures.is))) h c.in_ok-name-in_default.ensures c.in_ok-right-in_default.ensures
