-- No opening word stands in a name, a type, a pattern, or the beginning of a declaration.
use Rattle.std.proofs.Common.{◌≡◌, ℕ, false, List, refl, ap₂, ◌∙◌}
use Rattle.hr_base.specs.declared.lexeme.Class.{Class}
use Rattle.hr_base.specs.declared.lexeme.Item.{Item}
use Rattle.hr_grammar.specs.Words.{IsText}
use Rattle.hr_grammar.proofs.walk.Rules.{block_words, is_by_block, InPatterns, InTypes}
use Rattle.hr_grammar.proofs.Tables.{none_among}
use Rattle.hr_grammar.proofs.walk.Names.{patterns_in}
use Rattle.hr_grammar.proofs.walk.Without.{without_in_brackets}
use Rattle.hr_grammar_edge_laws.specs.Openings.{opening_words, opens_block, IsNoOpening, AreNoOpenings}

pub of_text : (class : Class) (text : List ℕ) (item : Item) → IsText class text item → opens_block class text ≡ false → IsNoOpening item
of_text class text item is t = ap₂ opens_block is.0 is.1 ∙ t

pub special : (text : List ℕ) (item : Item) → IsText Class.Special text item → IsNoOpening item
special text item is = of_text Class.Special text item is refl

no_opening : (class : Class) (text : List ℕ) → is_by_block class text ≡ false → opens_block class text ≡ false
no_opening Class.ReservedId text e = none_among opening_words block_words text (refl, (refl, (refl, tt))) e
no_opening _ text e = refl

pub plain_types : InTypes AreNoOpenings
plain_types = without_in_brackets is_by_block opens_block (λ class text e kept. no_opening class text e) (λ text. refl)

pub plain_patterns : InPatterns AreNoOpenings
plain_patterns = patterns_in plain_types
