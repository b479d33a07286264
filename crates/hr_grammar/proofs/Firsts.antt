-- Which lexemes types, patterns and expressions begin with.
use Rattle.std.proofs.Common.{◌≡◌, ◌⊎◌, ℕ, zero, suc, Bool, true, List, [], ◌∷◌, ◌++◌, Option, Some, None, refl, sym, ap, ap₂, ◌∙◌, subst, inl, inr}
use lib.Chars.{codes}
use Rattle.hr_base.specs.declared.lexeme.Class.{Class}
use Rattle.hr_base.specs.declared.lexeme.Item.{Item}
use Rattle.hr_rules.specs.declared.role.Role.{Role}
use Rattle.hr_rules.specs.Roles.{role_by, role_of}
use Rattle.hr_tree.specs.declared.names.Variable.{Variable}
use Rattle.hr_tree.specs.declared.names.Constructor.{Constructor}
use Rattle.hr_tree.specs.declared.types.Ty.{Ty, out-Ty}
use Rattle.hr_tree.specs.declared.types.Ty.TheOpen.{Ty-F}
use Rattle.hr_tree.specs.declared.patterns.Pat.{Pat, out-Pat}
use Rattle.hr_tree.specs.declared.patterns.Pat.TheOpen.{Pat-F}
use Rattle.hr_tree.specs.declared.expressions.Exp.{Exp, out-Exp}
use Rattle.hr_tree.specs.declared.expressions.Decl.{Decl}
use Rattle.hr_tree.specs.declared.expressions.Alt.{Alt}
use Rattle.hr_tree.specs.declared.expressions.Qualifier.{Qualifier}
use Rattle.hr_tree.specs.declared.expressions.Decl.TheOpen.{Exp-F}
use Rattle.hr_tree.specs.Names.{constructor_items, variable_items, maybe_item, maybe_operator}
use Rattle.hr_tree.specs.Yields.{ty_items, pat_items, exp_items}
use Rattle.hr_grammar.specs.Words.{IsOf, IsText, IsLiteral, IsMinus}
use Rattle.hr_grammar.specs.Spelled.{Maybe, IsTypeConstructor, IsConstructor, IsVariable, IsNamedVariable}
use Rattle.hr_grammar.specs.Nodes.{Colons, TyPlace, PatPlace, ExpPlace}
use Rattle.hr_grammar.specs.Types.{TyProduction}
use Rattle.hr_grammar.specs.Patterns.{PatProduction}
use Rattle.hr_grammar.specs.Expressions.{ExpProduction, last_operand}
use Rattle.hr_grammar.specs.Yields.{nodes}
use Rattle.hr_grammar.specs.Firsts.{FirstHas, begins_type, begins_pattern, begins_operand, opens_expression, BeginsExpression, TypesBegin, PatternsBegin, ExpressionsBegin}
use Rattle.hr_grammar.specs.Joins.{ty_joined, pat_joined, exp_joined}
use Rattle.hr_grammar.proofs.Joins.{yields_join_lem}

-- a first item by its class, and by its class and text
pub of_class : (test : Role → Bool) (class : Class) (item : Item) → IsOf class item → test (role_by class item.lexeme.text) ≡ true → test (role_of item.lexeme) ≡ true
unfolding role_of
of_class test class item is t = ap (λ c. test (role_by c item.lexeme.text)) is ∙ t

pub of_text : (test : Role → Bool) (class : Class) (text : List ℕ) (item : Item) → IsText class text item → test (role_by class text) ≡ true → test (role_of item.lexeme) ≡ true
unfolding role_of
of_text test class text item is t = ap₂ (λ c w. test (role_by c w)) is.0 is.1 ∙ t

pub begins_more : (test : Role → Bool) (items more : List Item) → FirstHas test items → FirstHas test (items ++ more)
begins_more test [] more b = elim b [ ]
begins_more test (item ∷ items) more b = b

pub left_paren : (test : Role → Bool) → test Role.OpenBracket ≡ true → (item : Item) → IsText Class.Special (codes "(") item → test (role_of item.lexeme) ≡ true
left_paren test t item is = of_text test Class.Special (codes "(") item is t

left_square : (test : Role → Bool) → test Role.OpenBracket ≡ true → (item : Item) → IsText Class.Special (codes "[") item → test (role_of item.lexeme) ≡ true
left_square test t item is = of_text test Class.Special (codes "[") item is t

name_begins : (test : Role → Bool) → test Role.Name ≡ true → (item : Item) → IsOf Class.ConId item ⊎ IsOf Class.QConId item → test (role_of item.lexeme) ≡ true
name_begins test t item (inl is) = of_class test Class.ConId item is t
name_begins test t item (inr is) = of_class test Class.QConId item is t

type_constructor_begins : (named : Constructor) → IsTypeConstructor named → FirstHas begins_type (constructor_items named)
type_constructor_begins (Constructor.Name name) is = name_begins begins_type refl name is
type_constructor_begins (Constructor.Symbol left symbol right) is = left_paren begins_type refl left is.0
type_constructor_begins (Constructor.Unit left right) is = left_paren begins_type refl left is.0
type_constructor_begins (Constructor.EmptyList left right) is = left_square begins_type refl left is.0
type_constructor_begins (Constructor.Tuple left commas right) is = left_paren begins_type refl left is.0

constructor_begins : (named : Constructor) → IsConstructor named → FirstHas begins_pattern (constructor_items named)
constructor_begins (Constructor.Name name) is = name_begins begins_pattern refl name is
constructor_begins (Constructor.Symbol left symbol right) is = left_paren begins_pattern refl left is.0
constructor_begins (Constructor.Unit left right) is = left_paren begins_pattern refl left is.0
constructor_begins (Constructor.EmptyList left right) is = left_square begins_pattern refl left is.0
constructor_begins (Constructor.Tuple left commas right) is = left_paren begins_pattern refl left is.0

pub variable_begins : (variable : Variable) → IsVariable variable → FirstHas begins_pattern (variable_items variable)
variable_begins (Variable.Name name) is = of_class begins_pattern Class.VarId name is refl
variable_begins (Variable.Symbol left symbol right) is = left_paren begins_pattern refl left is.0

literal_begins : (item : Item) → IsLiteral item → begins_pattern (role_of item.lexeme) ≡ true
literal_begins item (inl is) = of_class begins_pattern Class.Integer item is refl
literal_begins item (inr (inl is)) = of_class begins_pattern Class.Char item is refl
literal_begins item (inr (inr is)) = of_class begins_pattern Class.Str item is refl

-- one level, where types on the level below begin so
ty_level : (levels : ℕ) → ((place : TyPlace) (ty : Ty) → (nodes levels).ty place ty → FirstHas begins_type (ty_items ty))
    → (place : TyPlace) (layer : Ty-F Ty) → TyProduction (nodes levels) place layer → FirstHas begins_type (ty_joined layer)
ty_level levels below place (Ty-F.Variable name) is = of_class begins_type Class.VarId name is refl
ty_level levels below place (Ty-F.Constructor named) is = type_constructor_begins named is
ty_level levels below place (Ty-F.Apply named arguments) is = begins_more begins_type (constructor_items named) _ (type_constructor_begins named is.1)
ty_level levels below place (Ty-F.Function from arrow to) is = begins_more begins_type (ty_items from) _ (below TyPlace.Applied from is.1)
ty_level levels below place (Ty-F.Tuple left parts right) is = left_paren begins_type refl left is.0
ty_level levels below place (Ty-F.List left part right) is = left_square begins_type refl left is.0
ty_level levels below place (Ty-F.Group left part right) is = left_paren begins_type refl left is.0

pub types_begin_lem : TypesBegin
types_begin_lem zero place ty is = elim is [ ]
types_begin_lem (suc levels) place ty is =
    subst (FirstHas begins_type) (sym (yields_join_lem.ty ty)) (ty_level levels (types_begin_lem levels) place (out-Ty ty) is)

pat_level : (levels : ℕ) → ((place : PatPlace) (pat : Pat) → (nodes levels).pat place pat → FirstHas begins_pattern (pat_items pat))
    → (place : PatPlace) (layer : Pat-F Pat) → PatProduction (nodes levels) place layer → FirstHas begins_pattern (pat_joined layer)
pat_level levels below place (Pat-F.Variable bound) is = variable_begins bound is
pat_level levels below place (Pat-F.Wildcard word) is = of_text begins_pattern Class.ReservedId (codes "_") word is refl
pat_level levels below place (Pat-F.Literal literal) is = literal_begins literal is
pat_level levels below place (Pat-F.Negative minus number) is = of_text begins_pattern Class.VarSym (codes "-") minus is.1 refl
pat_level levels below place (Pat-F.Constructor named) is = constructor_begins named is
pat_level levels below place (Pat-F.As bound mark part) is = begins_more begins_pattern (variable_items bound) _ (variable_begins bound is.0)
pat_level levels below place (Pat-F.Lazy mark part) is = of_text begins_pattern Class.ReservedOp (codes "~") mark is.0 refl
pat_level levels below place (Pat-F.Apply named arguments) is = begins_more begins_pattern (constructor_items named) _ (constructor_begins named is.1)
pat_level levels below place (Pat-F.Infix []) is = elim is.1 [ ]
pat_level levels below place (Pat-F.Infix (operand ∷ [])) is = elim is.1 [ ]
pat_level levels below place (Pat-F.Infix (operand ∷ (next ∷ rest))) is =
    begins_more begins_pattern (maybe_item operand.minus ++ (pat_items operand.part ++ maybe_operator operand.operator)) _
    (subst (λ m. FirstHas begins_pattern (maybe_item m ++ (pat_items operand.part ++ maybe_operator operand.operator))) (sym is.2.0)
    (begins_more begins_pattern (pat_items operand.part) (maybe_operator operand.operator) (below PatPlace.Operand operand.part is.2.1)))
pat_level levels below place (Pat-F.Tuple left parts right) is = left_paren begins_pattern refl left is.0
pat_level levels below place (Pat-F.List left parts right) is = left_square begins_pattern refl left is.0
pat_level levels below place (Pat-F.Group left part right) is = left_paren begins_pattern refl left is.0
pat_level levels below place (Pat-F.Fields named left fields right) is = elim is [ ]

pub patterns_begin_lem : PatternsBegin
patterns_begin_lem zero place pat is = elim is [ ]
patterns_begin_lem (suc levels) place pat is =
    subst (FirstHas begins_pattern) (sym (yields_join_lem.pat pat)) (pat_level levels (patterns_begin_lem levels) place (out-Pat pat) is)

-- an expression, by its class and text
opens_by : (class : Class) (text : List ℕ) (item : Item) → IsText class text item → opens_expression class text ≡ true → opens_expression item.lexeme.class item.lexeme.text ≡ true
opens_by class text item is t = ap₂ opens_expression is.0 is.1 ∙ t

pub expression_more : (items more : List Item) → BeginsExpression items → BeginsExpression (items ++ more)
expression_more [] more b = elim b [ ]
expression_more (item ∷ items) more b = b

named_variable_begins : (used : Variable) → IsNamedVariable used → BeginsExpression (variable_items used)
named_variable_begins (Variable.Name name) (inl is) = inl (of_class begins_operand Class.VarId name is refl)
named_variable_begins (Variable.Name name) (inr is) = inl (of_class begins_operand Class.QVarId name is refl)
named_variable_begins (Variable.Symbol left symbol right) is = inl (left_paren begins_operand refl left is.0)

used_constructor_begins : (named : Constructor) → IsConstructor named → BeginsExpression (constructor_items named)
used_constructor_begins (Constructor.Name name) is = inl (name_begins begins_operand refl name is)
used_constructor_begins (Constructor.Symbol left symbol right) is = inl (left_paren begins_operand refl left is.0)
used_constructor_begins (Constructor.Unit left right) is = inl (left_paren begins_operand refl left is.0)
used_constructor_begins (Constructor.EmptyList left right) is = inl (left_square begins_operand refl left is.0)
used_constructor_begins (Constructor.Tuple left commas right) is = inl (left_paren begins_operand refl left is.0)

operand_literal : (item : Item) → IsLiteral item → begins_operand (role_of item.lexeme) ≡ true
operand_literal item (inl is) = of_class begins_operand Class.Integer item is refl
operand_literal item (inr (inl is)) = of_class begins_operand Class.Char item is refl
operand_literal item (inr (inr is)) = of_class begins_operand Class.Str item is refl

-- the first operand of a sequence, with a minus or without
first_operand : (minus : Option Item) (items more : List Item) → Maybe IsMinus minus → BeginsExpression items → BeginsExpression (maybe_item minus ++ (items ++ more))
first_operand None items more m b = expression_more items more b
first_operand (Some minus) items more m b = inl (of_text begins_operand Class.VarSym (codes "-") minus m refl)

exp_level : (levels : ℕ) → ((free : Colons) (place : ExpPlace) (exp : Exp) → (nodes levels).exp free place exp → BeginsExpression (exp_items exp))
    → (free : Colons) (place : ExpPlace) (layer : Exp-F Decl Exp Qualifier Alt) → ExpProduction (nodes levels) free place layer → BeginsExpression (exp_joined layer)
exp_level levels below free place (Exp-F.Variable used) is = named_variable_begins used is
exp_level levels below free place (Exp-F.Constructor named) is = used_constructor_begins named is
exp_level levels below free place (Exp-F.Literal literal) is = inl (operand_literal literal is)
exp_level levels below free place (Exp-F.Group left part right) is = inl (left_paren begins_operand refl left is.0)
exp_level levels below free place (Exp-F.Tuple left parts right) is = inl (left_paren begins_operand refl left is.0)
exp_level levels below free place (Exp-F.List left parts right) is = inl (left_square begins_operand refl left is.0)
exp_level levels below free place (Exp-F.From left first dots right) is = inl (left_square begins_operand refl left is.0)
exp_level levels below free place (Exp-F.FromThen left first comma second dots right) is = inl (left_square begins_operand refl left is.0)
exp_level levels below free place (Exp-F.FromTo left first dots last right) is = inl (left_square begins_operand refl left is.0)
exp_level levels below free place (Exp-F.FromThenTo left first comma second dots last right) is = inl (left_square begins_operand refl left is.0)
exp_level levels below free place (Exp-F.Comprehension left part bar qualifiers right) is = inl (left_square begins_operand refl left is.0)
exp_level levels below free place (Exp-F.LeftSection left part operator right) is = inl (left_paren begins_operand refl left is.0)
exp_level levels below free place (Exp-F.RightSection left operator part right) is = inl (left_paren begins_operand refl left is.0)
exp_level levels below free place (Exp-F.Lambda mark patterns arrow body) is = inr (opens_by Class.ReservedOp (codes "\\") mark is.1 refl)
exp_level levels below free place (Exp-F.Let word block in_word body) is = inr (opens_by Class.ReservedId (codes "let") word is.1 refl)
exp_level levels below free place (Exp-F.If word test then_word first else_word second) is = inr (opens_by Class.ReservedId (codes "if") word is.1 refl)
exp_level levels below free place (Exp-F.Case word part of_word block) is = inr (opens_by Class.ReservedId (codes "case") word is.1 refl)
exp_level levels below free place (Exp-F.Annotated part colons ty) is = expression_more (exp_items part) _ (below Colons.Allowed ExpPlace.Annotated part is.2)
exp_level levels below free place (Exp-F.Apply []) is = elim is.1 [ ]
exp_level levels below free place (Exp-F.Apply (atom ∷ atoms)) is = expression_more (exp_items atom) _ (below free ExpPlace.Atom atom is.2.0)
exp_level levels below free place (Exp-F.Infix []) is = elim is.1 [ ]
exp_level levels below free place (Exp-F.Infix (operand ∷ [])) is =
    expression_more (maybe_item operand.minus ++ (exp_items operand.part ++ maybe_operator operand.operator)) _
    (first_operand operand.minus (exp_items operand.part) (maybe_operator operand.operator) is.2.0 (below free (last_operand place) operand.part is.2.1))
exp_level levels below free place (Exp-F.Infix (operand ∷ (next ∷ rest))) is =
    expression_more (maybe_item operand.minus ++ (exp_items operand.part ++ maybe_operator operand.operator)) _
    (first_operand operand.minus (exp_items operand.part) (maybe_operator operand.operator) is.2.0 (below free ExpPlace.Operand operand.part is.2.1))
exp_level levels below free place (Exp-F.Fields part left fields right) is = elim is [ ]

pub expressions_begin_lem : ExpressionsBegin
expressions_begin_lem zero free place exp is = elim is [ ]
expressions_begin_lem (suc levels) free place exp is =
    subst BeginsExpression (sym (yields_join_lem.exp exp)) (exp_level levels (expressions_begin_lem levels) free place (out-Exp exp) is)
