-- A pattern has no mark that parts it from what is behind it.
use Rattle.std.proofs.Common.{◌≡◌, ℕ, false, List, refl}
use Rattle.hr_base.specs.declared.lexeme.Class.{Class}
use Rattle.hr_grammar.proofs.walk.Rules.{is_parting}
use Rattle.hr_grammar.proofs.walk.TypesAndPatterns.{patterns_keep}
use Rattle.hr_grammar.proofs.walk.Without.{without_in_brackets}
use Rattle.hr_grammar_edge_laws.specs.Patterns.{is_parting_mark, PatternsHaveNoBar}

no_mark : (class : Class) (text : List ℕ) → is_parting class text ≡ false → is_parting_mark class text ≡ false
no_mark Class.ReservedOp text e = e
no_mark _ text e = refl

pub patterns_have_no_bar_lem : PatternsHaveNoBar
patterns_have_no_bar_lem = patterns_keep (without_in_brackets is_parting is_parting_mark (λ class text e kept. no_mark class text e) (λ text. refl))
