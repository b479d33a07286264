-- Which lexemes types, patterns, expressions, declarations and alternatives begin with.
use Rattle.std.specs.Prelude.{ℕ, ◌≡◌, ◌⊎◌, Bool, true, false, List, [], ◌∷◌}
use lib.Chars.{codes}
use Rattle.hr_base.specs.declared.lexeme.Class.{Class}
use Rattle.hr_base.specs.declared.lexeme.Item.{Item}
use Rattle.hr_rules.specs.declared.role.Role.{Role}
use Rattle.hr_rules.specs.Names.{is_one_of, is_spelled}
use Rattle.hr_rules.specs.declared.block.BlockKind.{BlockKind}
use Rattle.hr_rules.specs.CanFollow.{begins_part}
use Rattle.hr_rules.specs.Roles.{role_of}
use Rattle.hr_tree.specs.declared.types.Ty.{Ty}
use Rattle.hr_tree.specs.declared.patterns.Pat.{Pat}
use Rattle.hr_tree.specs.declared.expressions.Exp.{Exp}
use Rattle.hr_tree.specs.declared.expressions.Decl.{Decl}
use Rattle.hr_tree.specs.declared.expressions.Alt.{Alt}
use Rattle.hr_tree.specs.Yields.{ty_items, pat_items, exp_items, decl_items, alt_items}
use Rattle.hr_grammar.specs.Nodes.{Colons, TyPlace, PatPlace, ExpPlace, DeclPlace}
use Rattle.hr_grammar.specs.Yields.{nodes}

-- there is a first item, of such a role
abbrev pub FirstHas : (Role → Bool) → List Item → Type 0
FirstHas test [] = ⊥
FirstHas test (item ∷ items) = test (role_of item.lexeme) ≡ true

-- a type begins with a name, `(` or `[`
abbrev pub begins_type : Role → Bool
begins_type Role.Name = true
begins_type Role.OpenBracket = true
begins_type _ = false

abbrev pub TypesBegin : Type 0
TypesBegin = (levels : ℕ) (place : TyPlace) (ty : Ty) → (nodes levels).ty place ty → FirstHas begins_type (ty_items ty)

-- a pattern begins so too, or with a literal, `_`, `~` or a minus
abbrev pub begins_pattern : Role → Bool
begins_pattern Role.Name = true
begins_pattern Role.OpenBracket = true
begins_pattern Role.Literal = true
begins_pattern Role.Wildcard = true
begins_pattern Role.Tilde = true
begins_pattern Role.Minus = true
begins_pattern _ = false

abbrev pub PatternsBegin : Type 0
PatternsBegin = (levels : ℕ) (place : PatPlace) (pat : Pat) → (nodes levels).pat place pat → FirstHas begins_pattern (pat_items pat)

-- `\`, and the words that begin an expression
abbrev pub opens_expression : Class → List ℕ → Bool
opens_expression Class.ReservedId text = is_one_of (codes "let" ∷ (codes "if" ∷ (codes "case" ∷ []))) text
opens_expression Class.ReservedOp text = is_spelled (codes "\\") text
opens_expression _ text = false

-- what an operand without such a word begins with: an atom, or a minus before it
abbrev pub begins_operand : Role → Bool
begins_operand Role.Name = true
begins_operand Role.OpenBracket = true
begins_operand Role.Literal = true
begins_operand Role.Minus = true
begins_operand _ = false

abbrev pub BeginsExpression : List Item → Type 0
BeginsExpression [] = ⊥
BeginsExpression (item ∷ items) = (begins_operand (role_of item.lexeme) ≡ true) ⊎ (opens_expression item.lexeme.class item.lexeme.text ≡ true)

abbrev pub ExpressionsBegin : Type 0
ExpressionsBegin = (levels : ℕ) (free : Colons) (place : ExpPlace) (exp : Exp) → (nodes levels).exp free place exp → BeginsExpression (exp_items exp)

-- the kind of the blocks that have declarations at the place
abbrev pub kind_at : DeclPlace → BlockKind
kind_at DeclPlace.Local = BlockKind.Declarations
kind_at _ = BlockKind.Body

-- a declaration or an alternative begins with what the layout rule takes for the beginning of a part, and
-- not with a `;`
abbrev pub opens_part : BlockKind → Role → Bool
opens_part kind Role.Semicolon = false
opens_part kind role = begins_part kind role

abbrev pub DeclarationsBegin : Type 0
DeclarationsBegin = (levels : ℕ) (place : DeclPlace) (decl : Decl) → (nodes levels).decl place decl → FirstHas (opens_part (kind_at place)) (decl_items decl)

abbrev pub AlternativesBegin : Type 0
AlternativesBegin = (levels : ℕ) (alt : Alt) → (nodes levels).alt alt → FirstHas (opens_part BlockKind.Alternatives) (alt_items alt)
