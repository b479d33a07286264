-- How declarations and alternatives are read: the Haskell 98 Report, chapter 4 and section 3.13.
use Rattle.std.specs.Prelude.{ℕ, ◌≡◌, ◌≢◌, true, false, List, [], ◌∷◌, length, Option, Some, None}
use lib.Chars.{codes}
use Rattle.hr_base.specs.declared.lexeme.Class.{Class}
use Rattle.hr_base.specs.declared.lexeme.Ending.{Ending}
use Rattle.hr_base.specs.declared.lexeme.Item.{Item}
use Rattle.hr_rules.specs.Names.{is_one_of}
use Rattle.hr_tree.specs.declared.patterns.Pat.{Pat}
use Rattle.hr_tree.specs.declared.declarations.TypeHead.{TypeHead}
use Rattle.hr_tree.specs.declared.declarations.Construction.{Construction}
use Rattle.hr_tree.specs.declared.declarations.LeftSide.{LeftSide}
use Rattle.hr_tree.specs.declared.declarations.LeftHead.{LeftHead}
use Rattle.hr_tree.specs.declared.declarations.Closed.{Closed}
use Rattle.hr_tree.specs.declared.declarations.Body.{Body}
use Rattle.hr_tree.specs.declared.declarations.Guarded.{Guarded}
use Rattle.hr_tree.specs.declared.declarations.Where.{Where}
use Rattle.hr_tree.specs.declared.expressions.Exp.{Exp}
use Rattle.hr_tree.specs.declared.expressions.Decl.{Decl, out-Decl}
use Rattle.hr_tree.specs.declared.expressions.Decl.TheOpen.{Decl-F}
use Rattle.hr_tree.specs.declared.expressions.Qualifier.{Qualifier}
use Rattle.hr_tree.specs.declared.expressions.Alt.{Alt, out-Alt}
use Rattle.hr_tree.specs.Names.{variable_items, constructor_items, operator_items}
use Rattle.hr_grammar.specs.Words.{IsOf, IsWord, IsEquals, IsArrow, IsBar, IsComma, IsDoubleColon, IsLeftParen, IsRightParen}
use Rattle.hr_grammar.specs.Spelled.{IsVariable, IsOwnConstructor, IsOwnConstructorOperator, IsOwnVariableOperator, IsOwnOperator}
use Rattle.hr_grammar.specs.Nodes.{Colons, TyPlace, PatPlace, ExpPlace, DeclPlace}
use Rattle.hr_grammar.specs.Declarations.{fixity_words, IsDigit, takes_import, takes_top, takes_local}
use Rattle.hr_grammar.specs.Spans.{part_ending, top_ending}
use Rattle.hr_grammar_cases.specs.Readings.{Reading, never, ◌▷◌, given, one, spelled, maybe, in_turn, separated, inside, ends_as}
use Rattle.hr_grammar_cases.specs.Derivations.{Derivations}
use Rattle.hr_grammar_cases.specs.Imports.{import_reading}

abbrev pub type_head_reading : ℕ → TypeHead → Reading
type_head_reading n head = one n (IsOf Class.ConId) head.name ▷ in_turn (one n (IsOf Class.VarId)) head.variables

abbrev pub construction_reading : Derivations → ℕ → Construction → Reading
construction_reading below n (Construction.Prefix constructor types) =
    spelled n IsOwnConstructor constructor_items constructor ▷ in_turn (below.ty n TyPlace.Atomic) types
construction_reading below n (Construction.Infix first operator second) =
    below.ty n TyPlace.Applied first ▷ spelled n IsOwnConstructorOperator operator_items operator ▷ below.ty n TyPlace.Applied second
construction_reading below n (Construction.Fields constructor left fields right) = never

-- of a `newtype`: a constructor with one type
abbrev pub new_construction_reading : Derivations → ℕ → Construction → Reading
new_construction_reading below n (Construction.Prefix constructor (ty ∷ [])) = construction_reading below n (Construction.Prefix constructor (ty ∷ []))
new_construction_reading below n _ = never

-- one pattern or more
abbrev pub arguments_reading : Derivations → ℕ → List Pat → Reading
arguments_reading below n patterns = given (patterns ≢ []) (in_turn (below.pat n PatPlace.Atomic) patterns)

abbrev pub left_head_reading : Derivations → ℕ → LeftHead → Reading
left_head_reading below n (LeftHead.Prefix variable patterns) = spelled n IsVariable variable_items variable ▷ arguments_reading below n patterns
left_head_reading below n (LeftHead.Infix first operator second) =
    below.pat n PatPlace.Whole first ▷ spelled n IsOwnVariableOperator operator_items operator ▷ below.pat n PatPlace.Whole second

abbrev pub closed_reading : Derivations → ℕ → Closed → Reading
closed_reading below n closed = one n IsRightParen closed.right ▷ arguments_reading below n closed.patterns

-- as many parentheses close as open
abbrev pub left_side_reading : Derivations → ℕ → LeftSide → Reading
left_side_reading below n left =
    given (length left.opens ≡ length left.closes)
    (in_turn (one n IsLeftParen) left.opens ▷ left_head_reading below n left.head ▷ in_turn (closed_reading below n) left.closes)

-- a guard is a sequence without `::` outside of brackets and blocks
abbrev pub guarded_reading : Derivations → ℕ → (Item → Type 0) → Guarded Exp → Ending → Reading
guarded_reading below n IsMark guarded ending =
    one n IsBar guarded.bar ▷ inside (below.exp n Colons.Barred ExpPlace.Sequence guarded.guard) ▷ one n IsMark guarded.mark ▷ below.exp n Colons.Allowed ExpPlace.Whole guarded.body ending

-- one or more, which end as the last one does
abbrev pub guards_reading : Derivations → ℕ → (Item → Type 0) → List (Guarded Exp) → Ending → Reading
guards_reading below n IsMark [] ending = never
guards_reading below n IsMark (guarded ∷ []) ending = guarded_reading below n IsMark guarded ending
guards_reading below n IsMark (guarded ∷ (next ∷ rest)) ending =
    inside (guarded_reading below n IsMark guarded) ▷ guards_reading below n IsMark (next ∷ rest) ending

-- what stands behind `=` or `->`
abbrev pub plain_reading : Derivations → ℕ → (Item → Type 0) → Item → Exp → Ending → Reading
plain_reading below n IsMark mark body ending = one n IsMark mark ▷ below.exp n Colons.Allowed ExpPlace.Whole body ending

abbrev pub body_reading : Derivations → ℕ → (Item → Type 0) → Body Exp → Ending → Reading
body_reading below n IsMark (Body.Plain mark body) = ends_as (part_ending false) (plain_reading below n IsMark mark body)
body_reading below n IsMark (Body.Guarded list) = ends_as (part_ending true) (guards_reading below n IsMark list)

-- and then `where` with its block, or nothing
abbrev pub right_side_reading : Derivations → ℕ → (Item → Type 0) → Body Exp → Option (Where Decl) → Ending → Reading
right_side_reading below n IsMark body None ending = body_reading below n IsMark body ending
right_side_reading below n IsMark body (Some locals) ending =
    given (ending ≡ Ending.WhereBlock)
    (inside (body_reading below n IsMark body) ▷ one n (IsWord (codes "where")) locals.word ▷ below.declarations n DeclPlace.Local locals.block)

-- the productions, by the declaration
abbrev pub decl_reading : Derivations → ℕ → DeclPlace → Decl-F Decl Exp Qualifier Alt → Ending → Reading
decl_reading below n place (Decl-F.Import import) ending = given ((ending ≡ top_ending) × (takes_import place ≡ true)) (import_reading n import)
decl_reading below n place (Decl-F.Synonym word head equals ty) ending =
    given ((ending ≡ top_ending) × (takes_top place ≡ true))
    (one n (IsWord (codes "type")) word ▷ type_head_reading n head ▷ one n IsEquals equals ▷ below.ty n TyPlace.Whole ty)
decl_reading below n place (Decl-F.Data word head equals constructions) ending =
    given ((ending ≡ top_ending) × ((takes_top place ≡ true) × (constructions ≢ [])))
    (one n (IsWord (codes "data")) word ▷ type_head_reading n head ▷ one n IsEquals equals ▷ separated (one n IsBar) (construction_reading below n) constructions)
decl_reading below n place (Decl-F.Newtype word head equals construction) ending =
    given ((ending ≡ top_ending) × (takes_top place ≡ true))
    (one n (IsWord (codes "newtype")) word ▷ type_head_reading n head ▷ one n IsEquals equals ▷ new_construction_reading below n construction)
decl_reading below n place (Decl-F.Signature names colons ty) ending =
    given ((ending ≡ Ending.Signature) × ((takes_local place ≡ true) × (names ≢ [])))
    (separated (one n IsComma) (spelled n IsVariable variable_items) names ▷ one n IsDoubleColon colons ▷ below.ty n TyPlace.Whole ty)
decl_reading below n place (Decl-F.Fixity word level operators) ending =
    given ((ending ≡ Ending.Fixity) × ((takes_local place ≡ true) × ((is_one_of fixity_words word.lexeme.text ≡ true) × (operators ≢ []))))
    (one n (IsOf Class.ReservedId) word ▷ maybe (one n IsDigit) level ▷ separated (one n IsComma) (spelled n IsOwnOperator operator_items) operators)
decl_reading below n place (Decl-F.Equation left body locals) ending =
    given (takes_local place ≡ true) (left_side_reading below n left ▷ right_side_reading below n IsEquals body locals ending)
decl_reading below n place (Decl-F.Binding pattern body locals) ending =
    given (takes_local place ≡ true) (below.pat n PatPlace.Whole pattern ▷ right_side_reading below n IsEquals body locals ending)

abbrev pub decl_over : Derivations → ℕ → DeclPlace → Decl → Ending → Reading
decl_over below n place decl ending = decl_reading below n place (out-Decl decl) ending

-- an alternative has `->` in place of `=`
abbrev pub alt_over : Derivations → ℕ → Alt → Ending → Reading
alt_over below n alt ending = below.pat n PatPlace.Whole (out-Alt alt).pattern ▷ right_side_reading below n IsArrow (out-Alt alt).body (out-Alt alt).locals ending
