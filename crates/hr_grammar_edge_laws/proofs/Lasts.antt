-- Which lexemes types and patterns end with, and what lists and blocks end with.
use Rattle.std.proofs.Common.{◌≡◌, ◌≢◌, ◌⊎◌, ℕ, zero, suc, Bool, true, List, [], ◌∷◌, ◌++◌, Option, None, refl, sym, ap, ap₂, ◌∙◌, subst, inl, inr}
use Rattle.std.specs.List.{AllByRecursion, flat_map}
use Rattle.std.proofs.lemmas.List.{append-nil}
use lib.Chars.{codes}
use Rattle.hr_base.specs.declared.lexeme.Class.{Class}
use Rattle.hr_base.specs.declared.lexeme.Item.{Item}
use Rattle.hr_tree.specs.declared.names.Variable.{Variable as Named}
use Rattle.hr_tree.specs.declared.names.Constructor.{Constructor as Built}
use Rattle.hr_tree.specs.declared.lists.Listed.{Listed}
use Rattle.hr_tree.specs.declared.lists.Operand.{Operand}
use Rattle.hr_tree.specs.declared.lists.Layout.{Layout}
use Rattle.hr_tree.specs.declared.lists.Piece.{Piece}
use Rattle.hr_tree.specs.declared.types.Ty.{Ty, out-Ty}
use Rattle.hr_tree.specs.declared.types.Ty.TheOpen.{Ty-F}
use Rattle.hr_tree.specs.declared.patterns.Pat.{Pat, out-Pat}
use Rattle.hr_tree.specs.declared.patterns.Pat.TheOpen.{Pat-F}
use Rattle.hr_tree.specs.Names.{constructor_items, variable_items, maybe_item, maybe_operator}
use Rattle.hr_tree.specs.Lists.{listed_items, operand_items, piece_items, block_items}
use Rattle.hr_tree.specs.Yields.{ty_items, pat_items}
use Rattle.hr_grammar.specs.Words.{IsOf, IsText, IsLiteral}
use Rattle.hr_grammar.specs.Spelled.{IsTypeConstructor, IsConstructor, IsVariable}
use Rattle.hr_grammar.specs.Separated.{AreSeparated}
use Rattle.hr_grammar.specs.Nodes.{TyPlace, PatPlace}
use Rattle.hr_grammar.specs.Types.{TyProduction}
use Rattle.hr_grammar.specs.Patterns.{PatProduction, ArePatOperands}
use Rattle.hr_grammar.specs.Blocks.{IsPiece, AreBraced}
use Rattle.hr_grammar.specs.Yields.{nodes}
use Rattle.hr_grammar.specs.Joins.{ty_joined, pat_joined}
use Rattle.hr_grammar.proofs.Joins.{yields_join_lem}
use Rattle.hr_grammar_edge_laws.specs.Lasts.{LastIs, Passes, LastPasses, ends_type, ends_pattern, TypesEnd, PatternsEnd}

abbrev pub Test : Type 0
Test = Class → List ℕ → Bool

-- a last item by its class, and by its class and text
pub class_ends : (test : Test) (class : Class) (item : Item) → IsOf class item → test class item.lexeme.text ≡ true → test item.lexeme.class item.lexeme.text ≡ true
class_ends test class item is t = ap (λ c. test c item.lexeme.text) is ∙ t

pub text_ends : (test : Test) (class : Class) (text : List ℕ) (item : Item) → IsText class text item → test class text ≡ true → test item.lexeme.class item.lexeme.text ≡ true
text_ends test class text item is t = ap₂ test is.0 is.1 ∙ t

-- behind other items
pub last_behind : (Is : Item → Type 0) (item : Item) (items : List Item) → LastIs Is items → LastIs Is (item ∷ items)
last_behind Is item [] e = elim e [ ]
last_behind Is item (next ∷ items) e = e

pub last_after : (Is : Item → Type 0) (first items : List Item) → LastIs Is items → LastIs Is (first ++ items)
last_after Is [] items e = e
last_after Is (item ∷ first) items e = last_behind Is item (first ++ items) (last_after Is first items e)

pub last_before_nothing : (Is : Item → Type 0) (items : List Item) → LastIs Is items → LastIs Is (items ++ [])
last_before_nothing Is items e = subst (LastIs Is) (sym (append-nil items)) e

pub ends_behind : (test : Test) (item : Item) (items : List Item) → LastPasses test items → LastPasses test (item ∷ items)
ends_behind test = last_behind (Passes test)

pub ends_after : (test : Test) (first items : List Item) → LastPasses test items → LastPasses test (first ++ items)
ends_after test = last_after (Passes test)

pub ends_before_nothing : (test : Test) (items : List Item) → LastPasses test items → LastPasses test (items ++ [])
ends_before_nothing test = last_before_nothing (Passes test)

pub ends_with : (test : Test) (first : List Item) (item : Item) → Passes test item → LastPasses test (first ++ item ∷ [])
ends_with test first item t = ends_after test first (item ∷ []) t

pub weaker : (test wide : Test) → ((class : Class) (text : List ℕ) → test class text ≡ true → wide class text ≡ true) → (items : List Item) → LastPasses test items → LastPasses wide items
weaker test wide widens [] e = e
weaker test wide widens (item ∷ []) e = widens item.lexeme.class item.lexeme.text e
weaker test wide widens (item ∷ (next ∷ items)) e = weaker test wide widens (next ∷ items) e

-- lists of parts
pub all_end : {T : Type 0} (test : Test) (of : T → List Item) (Is : T → Type 0) → ((part : T) → Is part → LastPasses test (of part)) → (parts : List T) → parts ≢ [] → AllByRecursion Is parts → LastPasses test (flat_map of parts)
all_end test of Is each [] some is = elim (some refl) [ ]
all_end test of Is each (part ∷ []) some is = ends_before_nothing test (of part) (each part is.0)
all_end test of Is each (part ∷ (next ∷ rest)) some is = ends_after test (of part) (flat_map of (next ∷ rest)) (all_end test of Is each (next ∷ rest) (λ e. let no : ⊥ = cc in no) is.1)

absent : (test : Test) (items : List Item) (item : Option Item) → item ≡ None → LastPasses test items → LastPasses test (items ++ maybe_item item)
absent test items item none e = subst (λ i. LastPasses test (items ++ maybe_item i)) (sym none) (ends_before_nothing test items e)

pub separated_end : {T : Type 0} (test : Test) (Separates : Item → Type 0) (of : T → List Item) (Is : T → Type 0) → ((part : T) → Is part → LastPasses test (of part))
    → (parts : List (Listed T)) → parts ≢ [] → AreSeparated Separates Is parts → LastPasses test (flat_map (listed_items of) parts)
separated_end test Separates of Is each [] some is = elim (some refl) [ ]
separated_end test Separates of Is each (listed ∷ []) some is = ends_before_nothing test (listed_items of listed) (absent test (of listed.part) listed.separator is.1 (each listed.part is.0))
separated_end test Separates of Is each (listed ∷ (next ∷ rest)) some is =
    ends_after test (listed_items of listed) (flat_map (listed_items of) (next ∷ rest)) (separated_end test Separates of Is each (next ∷ rest) (λ e. let no : ⊥ = cc in no) is.1.1)

-- an operand without an operator behind it
pub last_operand_ends : {T : Type 0} (test : Test) (of : T → List Item) (operand : Operand T) → operand.operator ≡ None → LastPasses test (of operand.part) → LastPasses test (operand_items of operand)
last_operand_ends test of operand none e =
    ends_after test (maybe_item operand.minus) (of operand.part ++ maybe_operator operand.operator) (subst (λ o. LastPasses test (of operand.part ++ maybe_operator o)) (sym none) (ends_before_nothing test (of operand.part) e))

-- blocks behind a word: it ends them where they have no lexeme
piece_ends : {T : Type 0} (test : Test) (of : T → List Item) (Is : T → Type 0) → test Class.Special (codes ";") ≡ true → ((part : T) → Is part → LastPasses test (of part))
    → (piece : Piece T) → IsPiece Is piece → LastPasses test (piece_items of piece)
piece_ends test of Is semicolon each (Piece.Semicolon item) is = text_ends test Class.Special (codes ";") item is semicolon
piece_ends test of Is semicolon each (Piece.Part part) is = each part is

pub block_ends : {T : Type 0} (test : Test) (of : T → List Item) (Is : T → Type 0) → test Class.Special (codes ";") ≡ true → test Class.Special (codes "}") ≡ true → ((part : T) → Is part → LastPasses test (of part))
    → (word : Item) → test word.lexeme.class word.lexeme.text ≡ true → (layout : Layout) (pieces : List (Piece T)) → AreBraced layout pieces → AllByRecursion (IsPiece Is) pieces
    → LastPasses test (word ∷ block_items of (record { layout = layout; pieces = pieces }))
block_ends test of Is semicolon brace each word t (Layout.Implicit col) [] braced is = t
block_ends test of Is semicolon brace each word t (Layout.Implicit col) (piece ∷ pieces) braced is =
    ends_behind test word (flat_map (piece_items of) (piece ∷ pieces) ++ []) (ends_before_nothing test (flat_map (piece_items of) (piece ∷ pieces))
    (all_end test (piece_items of) (IsPiece Is) (piece_ends test of Is semicolon each) (piece ∷ pieces) (λ e. let no : ⊥ = cc in no) is))
block_ends test of Is semicolon brace each word t (Layout.Explicit left right) pieces braced is =
    ends_behind test word (left ∷ (flat_map (piece_items of) pieces ++ right ∷ [])) (ends_behind test left (flat_map (piece_items of) pieces ++ right ∷ [])
    (ends_with test (flat_map (piece_items of) pieces) right (text_ends test Class.Special (codes "}") right braced.1.0 brace)))

-- the ends that all the tests have
pub record Closes (test : Test) : Type 0 where
  pub paren : test Class.Special (codes ")") ≡ true
  pub square : test Class.Special (codes "]") ≡ true
  pub variables : (text : List ℕ) → test Class.VarId text ≡ true
  pub constructors : (text : List ℕ) → test Class.ConId text ≡ true
  pub qualified : (text : List ℕ) → test Class.QConId text ≡ true

pub right_paren : (test : Test) → Closes test → (first : List Item) (item : Item) → IsText Class.Special (codes ")") item → LastPasses test (first ++ item ∷ [])
right_paren test closes first item is = ends_with test first item (text_ends test Class.Special (codes ")") item is closes.paren)

pub right_square : (test : Test) → Closes test → (first : List Item) (item : Item) → IsText Class.Special (codes "]") item → LastPasses test (first ++ item ∷ [])
right_square test closes first item is = ends_with test first item (text_ends test Class.Special (codes "]") item is closes.square)

name_ends : (test : Test) → Closes test → (item : Item) → IsOf Class.ConId item ⊎ IsOf Class.QConId item → test item.lexeme.class item.lexeme.text ≡ true
name_ends test closes item (inl is) = class_ends test Class.ConId item is (closes.constructors item.lexeme.text)
name_ends test closes item (inr is) = class_ends test Class.QConId item is (closes.qualified item.lexeme.text)

type_constructor_ends : (test : Test) → Closes test → (named : Built) → IsTypeConstructor named → LastPasses test (constructor_items named)
type_constructor_ends test closes (Built.Name name) is = name_ends test closes name is
type_constructor_ends test closes (Built.Symbol left symbol right) is = right_paren test closes (left ∷ symbol ∷ []) right is.1.1
type_constructor_ends test closes (Built.Unit left right) is = right_paren test closes (left ∷ []) right is.1
type_constructor_ends test closes (Built.EmptyList left right) is = right_square test closes (left ∷ []) right is.1
type_constructor_ends test closes (Built.Tuple left commas right) is = right_paren test closes (left ∷ commas) right is.1.1

pub constructor_ends : (test : Test) → Closes test → (named : Built) → IsConstructor named → LastPasses test (constructor_items named)
constructor_ends test closes (Built.Name name) is = name_ends test closes name is
constructor_ends test closes (Built.Symbol left symbol right) is = right_paren test closes (left ∷ symbol ∷ []) right is.1.1
constructor_ends test closes (Built.Unit left right) is = right_paren test closes (left ∷ []) right is.1
constructor_ends test closes (Built.EmptyList left right) is = right_square test closes (left ∷ []) right is.1
constructor_ends test closes (Built.Tuple left commas right) is = right_paren test closes (left ∷ commas) right is.1.1

variable_ends : (test : Test) → Closes test → (named : Named) → IsVariable named → LastPasses test (variable_items named)
variable_ends test closes (Named.Name name) is = class_ends test Class.VarId name is (closes.variables name.lexeme.text)
variable_ends test closes (Named.Symbol left symbol right) is = right_paren test closes (left ∷ symbol ∷ []) right is.1.1

types_close : Closes ends_type
types_close = record { paren = refl; square = refl; variables = λ text. refl; constructors = λ text. refl; qualified = λ text. refl }

patterns_close : Closes ends_pattern
patterns_close = record { paren = refl; square = refl; variables = λ text. refl; constructors = λ text. refl; qualified = λ text. refl }

ty_level : (levels : ℕ) → ((place : TyPlace) (ty : Ty) → (nodes levels).ty place ty → LastPasses ends_type (ty_items ty))
    → (place : TyPlace) (layer : Ty-F Ty) → TyProduction (nodes levels) place layer → LastPasses ends_type (ty_joined layer)
ty_level levels below place (Ty-F.Variable name) is = class_ends ends_type Class.VarId name is refl
ty_level levels below place (Ty-F.Constructor named) is = type_constructor_ends ends_type types_close named is
ty_level levels below place (Ty-F.Apply named arguments) is =
    ends_after ends_type (constructor_items named) (flat_map ty_items arguments) (all_end ends_type ty_items ((nodes levels).ty TyPlace.Atomic) (below TyPlace.Atomic) arguments is.2 is.3)
ty_level levels below place (Ty-F.Function from arrow to) is =
    ends_after ends_type (ty_items from) (arrow ∷ ty_items to) (ends_behind ends_type arrow (ty_items to) (below TyPlace.Whole to is.3))
ty_level levels below place (Ty-F.Tuple left parts right) is = right_paren ends_type types_close (left ∷ flat_map (listed_items ty_items) parts) right is.3
ty_level levels below place (Ty-F.List left part right) is = right_square ends_type types_close (left ∷ ty_items part) right is.2
ty_level levels below place (Ty-F.Group left part right) is = right_paren ends_type types_close (left ∷ ty_items part) right is.2

pub types_end_lem : TypesEnd
types_end_lem zero place ty is = elim is [ ]
types_end_lem (suc levels) place ty is = subst (LastPasses ends_type) (sym (yields_join_lem.ty ty)) (ty_level levels (types_end_lem levels) place (out-Ty ty) is)

pub literal_ends : (test : Test) → ((text : List ℕ) → (test Class.Integer text ≡ true) × (test Class.Char text ≡ true) × (test Class.Str text ≡ true)) → (item : Item) → IsLiteral item → test item.lexeme.class item.lexeme.text ≡ true
literal_ends test literals item (inl is) = class_ends test Class.Integer item is (literals item.lexeme.text).0
literal_ends test literals item (inr (inl is)) = class_ends test Class.Char item is (literals item.lexeme.text).1
literal_ends test literals item (inr (inr is)) = class_ends test Class.Str item is (literals item.lexeme.text).2

pat_operands : (levels : ℕ) → ((place : PatPlace) (pat : Pat) → (nodes levels).pat place pat → LastPasses ends_pattern (pat_items pat))
    → (list : List (Operand Pat)) → ArePatOperands (nodes levels) list → LastPasses ends_pattern (flat_map (operand_items pat_items) list)
pat_operands levels below [] is = elim is [ ]
pat_operands levels below (operand ∷ []) is =
    ends_before_nothing ends_pattern (operand_items pat_items operand) (last_operand_ends ends_pattern pat_items operand is.2 (below PatPlace.Operand operand.part is.1))
pat_operands levels below (operand ∷ (next ∷ rest)) is =
    ends_after ends_pattern (operand_items pat_items operand) (flat_map (operand_items pat_items) (next ∷ rest)) (pat_operands levels below (next ∷ rest) is.3)

pat_level : (levels : ℕ) → ((place : PatPlace) (pat : Pat) → (nodes levels).pat place pat → LastPasses ends_pattern (pat_items pat))
    → (place : PatPlace) (layer : Pat-F Pat) → PatProduction (nodes levels) place layer → LastPasses ends_pattern (pat_joined layer)
pat_level levels below place (Pat-F.Variable bound) is = variable_ends ends_pattern patterns_close bound is
pat_level levels below place (Pat-F.Wildcard word) is = text_ends ends_pattern Class.ReservedId (codes "_") word is refl
pat_level levels below place (Pat-F.Literal item) is = literal_ends ends_pattern (λ text. (refl, refl, refl)) item is
pat_level levels below place (Pat-F.Negative minus number) is = class_ends ends_pattern Class.Integer number is.2 refl
pat_level levels below place (Pat-F.Constructor named) is = constructor_ends ends_pattern patterns_close named is
pat_level levels below place (Pat-F.As bound mark part) is =
    ends_after ends_pattern (variable_items bound) (mark ∷ pat_items part) (ends_behind ends_pattern mark (pat_items part) (below PatPlace.Atomic part is.2))
pat_level levels below place (Pat-F.Lazy mark part) is = ends_behind ends_pattern mark (pat_items part) (below PatPlace.Atomic part is.1)
pat_level levels below place (Pat-F.Apply named arguments) is =
    ends_after ends_pattern (constructor_items named) (flat_map pat_items arguments) (all_end ends_pattern pat_items ((nodes levels).pat PatPlace.Atomic) (below PatPlace.Atomic) arguments is.2 is.3)
pat_level levels below place (Pat-F.Infix list) is = pat_operands levels below list is.2
pat_level levels below place (Pat-F.Tuple left parts right) is = right_paren ends_pattern patterns_close (left ∷ flat_map (listed_items pat_items) parts) right is.3
pat_level levels below place (Pat-F.List left parts right) is = right_square ends_pattern patterns_close (left ∷ flat_map (listed_items pat_items) parts) right is.3
pat_level levels below place (Pat-F.Group left part right) is = right_paren ends_pattern patterns_close (left ∷ pat_items part) right is.2
pat_level levels below place (Pat-F.Fields named left fields right) is = elim is [ ]

pub patterns_end_lem : PatternsEnd
patterns_end_lem zero place pat is = elim is [ ]
patterns_end_lem (suc levels) place pat is = subst (LastPasses ends_pattern) (sym (yields_join_lem.pat pat)) (pat_level levels (patterns_end_lem levels) place (out-Pat pat) is)
