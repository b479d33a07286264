-- Which lexemes types, patterns, expressions, declarations and alternatives end with.
use Rattle.std.specs.Prelude.{ℕ, ◌≡◌, Bool, true, false, List, [], ◌∷◌}
use lib.Chars.{codes}
use Rattle.hr_base.specs.declared.lexeme.Class.{Class}
use Rattle.hr_base.specs.declared.lexeme.Item.{Item}
use Rattle.hr_rules.specs.Names.{is_one_of, is_spelled}
use Rattle.hr_tree.specs.declared.types.Ty.{Ty}
use Rattle.hr_tree.specs.declared.patterns.Pat.{Pat}
use Rattle.hr_tree.specs.declared.expressions.Exp.{Exp}
use Rattle.hr_tree.specs.declared.expressions.Decl.{Decl}
use Rattle.hr_tree.specs.declared.expressions.Alt.{Alt}
use Rattle.hr_tree.specs.Yields.{ty_items, pat_items, exp_items, decl_items, alt_items}
use Rattle.hr_grammar.specs.Nodes.{Colons, TyPlace, PatPlace, ExpPlace, DeclPlace}
use Rattle.hr_grammar.specs.Yields.{nodes}

-- there is a last item, and it is such
abbrev pub LastIs : (Item → Type 0) → List Item → Type 0
LastIs Is [] = ⊥
LastIs Is (item ∷ []) = Is item
LastIs Is (item ∷ (next ∷ items)) = LastIs Is (next ∷ items)

-- the lexeme passes a test of its class and text
abbrev pub Passes : (Class → List ℕ → Bool) → Item → Type 0
Passes test item = test item.lexeme.class item.lexeme.text ≡ true

abbrev pub LastPasses : (Class → List ℕ → Bool) → List Item → Type 0
LastPasses test = LastIs (Passes test)

abbrev pub closing_brackets : List (List ℕ)
closing_brackets = codes ")" ∷ codes "]" ∷ []

-- a type: as `a`, `T`, `M.T`, `()` and `[a]` do
abbrev pub ends_type : Class → List ℕ → Bool
ends_type Class.VarId text = true
ends_type Class.ConId text = true
ends_type Class.QConId text = true
ends_type Class.Special text = is_one_of closing_brackets text
ends_type _ text = false

abbrev pub TypesEnd : Type 0
TypesEnd = (levels : ℕ) (place : TyPlace) (ty : Ty) → (nodes levels).ty place ty → LastPasses ends_type (ty_items ty)

-- a pattern: as `x`, `C`, `M.C`, `1`, `'c'`, `"s"`, `(x)`, `[x]` and `_` do
abbrev pub ends_pattern : Class → List ℕ → Bool
ends_pattern Class.VarId text = true
ends_pattern Class.ConId text = true
ends_pattern Class.QConId text = true
ends_pattern Class.Integer text = true
ends_pattern Class.Char text = true
ends_pattern Class.Str text = true
ends_pattern Class.Special text = is_one_of closing_brackets text
ends_pattern Class.ReservedId text = is_spelled (codes "_") text
ends_pattern _ text = false

abbrev pub PatternsEnd : Type 0
PatternsEnd = (levels : ℕ) (place : PatPlace) (pat : Pat) → (nodes levels).pat place pat → LastPasses ends_pattern (pat_items pat)

-- an atom: as `x`, `M.x`, `C`, `M.C`, `1`, `'c'`, `"s"`, `(x)` and `[x]` do
abbrev pub ends_atom : Class → List ℕ → Bool
ends_atom Class.VarId text = true
ends_atom Class.QVarId text = true
ends_atom Class.ConId text = true
ends_atom Class.QConId text = true
ends_atom Class.Integer text = true
ends_atom Class.Char text = true
ends_atom Class.Str text = true
ends_atom Class.Special text = is_one_of closing_brackets text
ends_atom _ text = false

-- the words that end a block without lexemes: as in `case x of`, and in `case x of y -> z where`
abbrev pub words_before_nothing : List (List ℕ)
words_before_nothing = codes "of" ∷ codes "where" ∷ []

-- the specials that end a part: `case x of {}`, `case x of y -> z;` without braces, and
-- "case x of y -> z where infixl `f`"
abbrev pub specials_last : List (List ℕ)
specials_last = codes ")" ∷ codes "]" ∷ codes "}" ∷ codes ";" ∷ codes "`" ∷ []

-- any other expression, a declaration that is no import, and an alternative: with the same lexemes, since an
-- expression may end in a block of alternatives, an alternative in a block of declarations, and a declaration in
-- an expression. Those of atoms; an operator, as in `case x of y -> z where infixl +` or with `:+`; and what ends
-- blocks
abbrev pub ends_part : Class → List ℕ → Bool
ends_part Class.VarSym text = true
ends_part Class.ConSym text = true
ends_part Class.ReservedId text = is_one_of words_before_nothing text
ends_part Class.Special text = is_one_of specials_last text
ends_part class text = ends_atom class text

abbrev pub ends_expression : ExpPlace → Class → List ℕ → Bool
ends_expression ExpPlace.Atom = ends_atom
ends_expression _ = ends_part

abbrev pub ExpressionsEnd : Type 0
ExpressionsEnd = (levels : ℕ) (free : Colons) (place : ExpPlace) (exp : Exp) → (nodes levels).exp free place exp → LastPasses (ends_expression place) (exp_items exp)

-- an import: as `import M` and `import M (x)` do
abbrev pub ends_import : Class → List ℕ → Bool
ends_import Class.ConId text = true
ends_import Class.Special text = is_spelled (codes ")") text
ends_import _ text = false

abbrev pub ends_declaration : DeclPlace → Class → List ℕ → Bool
ends_declaration DeclPlace.First = ends_import
ends_declaration _ = ends_part

abbrev pub DeclarationsEnd : Type 0
DeclarationsEnd = (levels : ℕ) (place : DeclPlace) (decl : Decl) → (nodes levels).decl place decl → LastPasses (ends_declaration place) (decl_items decl)

abbrev pub AlternativesEnd : Type 0
AlternativesEnd = (levels : ℕ) (alt : Alt) → (nodes levels).alt alt → LastPasses ends_part (alt_items alt)
