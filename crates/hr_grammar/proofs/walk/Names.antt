-- Names, operators and literals: each is plain, or stands in brackets with what is plain.
use Rattle.std.proofs.Common.{◌≡◌, ◌⊎◌, ℕ, ◌||◌, Bool, false, List, [], ◌∷◌, refl, ap, ap₂, ◌∙◌, inl, inr}
use lib.Chars.{codes}
use Rattle.hr_base.specs.declared.lexeme.Class.{Class}
use Rattle.hr_base.specs.declared.lexeme.Item.{Item}
use Rattle.hr_tree.specs.declared.names.Variable.{Variable as Named}
use Rattle.hr_tree.specs.declared.names.Constructor.{Constructor as Built}
use Rattle.hr_tree.specs.declared.names.Operator.{Operator}
use Rattle.hr_tree.specs.Names.{constructor_items, variable_items, operator_items}
use Rattle.hr_grammar.specs.Words.{IsOf, IsText, IsComma, IsMinus, IsLiteral}
use Rattle.hr_grammar.specs.Spelled.{IsColon, IsVariable, IsNamedVariable, IsConstructor, IsTypeConstructor, IsOwnConstructor, IsOwnOperator, IsConstructorOperator, IsVariableOperator, IsOperator}
use Rattle.hr_grammar.specs.LeftOut.{left_out}
use Rattle.hr_grammar.proofs.walk.Rules.{paired_words, block_words, marks_between, is_paired, is_by_block, is_parting, InBrackets, InPatterns, InTypes, InTrees}
use Rattle.hr_grammar.proofs.Tables.{left_false, right_false, none_of, none_among}
use Rattle.hr_grammar.proofs.walk.Lists.{put, all_items}

-- of one test with a weaker one
weaker : {P : List Item → Type 0} (first second : Class → List ℕ → Bool) → ((class : Class) (text : List ℕ) → second class text ≡ false → first class text ≡ false) → InBrackets first P → InBrackets second P
weaker first second less h = record {
  joins = h.joins;
  plain = λ item e kept. h.plain item (less item.lexeme.class item.lexeme.text e) kept;
  parens = h.parens;
  squares = h.squares;
}

pairs_by_block : (class : Class) (text : List ℕ) → is_by_block class text ≡ false → is_paired class text ≡ false
pairs_by_block Class.ReservedId text e = none_among paired_words block_words text (refl, (refl, tt)) e
pairs_by_block Class.ReservedOp text e = e
pairs_by_block Class.Special text e = e
pairs_by_block _ text e = refl

blocks_part : (class : Class) (text : List ℕ) → is_parting class text ≡ false → is_by_block class text ≡ false
blocks_part Class.ReservedId text e = e
blocks_part Class.ReservedOp text e = (none_of marks_between text e).0
blocks_part Class.Special text e = e
blocks_part _ text e = refl

-- what goes over in trees goes over in brackets, in types, and in patterns
brackets_of : {P Q : List Item → Type 0} → InTrees P Q → InBrackets is_paired P
brackets_of h = record {
  joins = h.joins;
  plain = h.plain;
  parens = h.parens;
  squares = λ left right xs l r p. h.squares left right xs l r (h.inside xs p);
}

pub types_of : {P Q : List Item → Type 0} → InTrees P Q → InTypes P
types_of h = weaker is_paired is_by_block pairs_by_block (brackets_of h)

pub patterns_in : {P : List Item → Type 0} → InTypes P → InPatterns P
patterns_in h = weaker is_by_block is_parting blocks_part h

pub patterns_of : {P Q : List Item → Type 0} → InTrees P Q → InPatterns P
patterns_of h = patterns_in (types_of h)

-- one item, by its class or its text
pub of_class : {apart : Class → List ℕ → Bool} {P : List Item → Type 0} → InBrackets apart P → (class : Class) (item : Item) → IsOf class item → (apart class item.lexeme.text || left_out class item.lexeme.text) ≡ false → P (item ∷ [])
of_class {apart} h class item is t =
    h.plain item (ap (λ c. apart c item.lexeme.text) is ∙ left_false (apart class item.lexeme.text) (left_out class item.lexeme.text) t)
    (ap (λ c. left_out c item.lexeme.text) is ∙ right_false (apart class item.lexeme.text) (left_out class item.lexeme.text) t)

pub of_text : {apart : Class → List ℕ → Bool} {P : List Item → Type 0} → InBrackets apart P → (class : Class) (text : List ℕ) (item : Item) → IsText class text item → (apart class text || left_out class text) ≡ false → P (item ∷ [])
of_text {apart} h class text item is t =
    h.plain item (ap₂ apart is.0 is.1 ∙ left_false (apart class text) (left_out class text) t) (ap₂ left_out is.0 is.1 ∙ right_false (apart class text) (left_out class text) t)

-- in a tree
pub of_word : {P Q : List Item → Type 0} → InTrees P Q → (class : Class) (text : List ℕ) (item : Item) → IsText class text item → (is_paired class text || left_out class text) ≡ false → P (item ∷ [])
of_word h class text item is t = of_text (brackets_of h) class text item is t

pub comma : {P : List Item → Type 0} → InPatterns P → (item : Item) → IsComma item → P (item ∷ [])
comma h item is = of_text h Class.Special (codes ",") item is refl

pub minus : {P : List Item → Type 0} → InPatterns P → (item : Item) → IsMinus item → P (item ∷ [])
minus h item is = of_text h Class.VarSym (codes "-") item is refl

pub literal : {P : List Item → Type 0} → InPatterns P → (item : Item) → IsLiteral item → P (item ∷ [])
literal h item (inl is) = of_class h Class.Integer item is refl
literal h item (inr (inl is)) = of_class h Class.Char item is refl
literal h item (inr (inr is)) = of_class h Class.Str item is refl

-- a name of a constructor, and of a variable
pub large_name : {P : List Item → Type 0} → InPatterns P → (item : Item) → IsOf Class.ConId item ⊎ IsOf Class.QConId item → P (item ∷ [])
large_name h item (inl is) = of_class h Class.ConId item is refl
large_name h item (inr is) = of_class h Class.QConId item is refl

small_name : {P : List Item → Type 0} → InPatterns P → (item : Item) → IsOf Class.VarId item ⊎ IsOf Class.QVarId item → P (item ∷ [])
small_name h item (inl is) = of_class h Class.VarId item is refl
small_name h item (inr is) = of_class h Class.QVarId item is refl

variable_symbol : {P : List Item → Type 0} → InPatterns P → (item : Item) → IsOf Class.VarSym item ⊎ IsOf Class.QVarSym item → P (item ∷ [])
variable_symbol h item (inl is) = of_class h Class.VarSym item is refl
variable_symbol h item (inr is) = of_class h Class.QVarSym item is refl

constructor_symbol : {P : List Item → Type 0} → InPatterns P → (item : Item) → IsOf Class.ConSym item ⊎ (IsOf Class.QConSym item ⊎ IsColon item) → P (item ∷ [])
constructor_symbol h item (inl is) = of_class h Class.ConSym item is refl
constructor_symbol h item (inr (inl is)) = of_class h Class.QConSym item is refl
constructor_symbol h item (inr (inr is)) = of_text h Class.ReservedOp (codes ":") item is refl

pub constructor : {P : List Item → Type 0} → InPatterns P → (named : Built) → IsConstructor named → P (constructor_items named)
constructor h (Built.Name item) is = large_name h item is
constructor h (Built.Symbol left sign right) is = h.parens left right (sign ∷ []) is.0 is.1.1 (constructor_symbol h sign is.1.0)
constructor h (Built.Unit left right) is = h.parens left right [] is.0 is.1 h.joins.nothing
constructor h (Built.EmptyList left right) is = h.squares left right [] is.0 is.1 h.joins.nothing
constructor h (Built.Tuple left commas right) is = h.parens left right commas is.0 is.1.1 (all_items h.joins IsComma (comma h) commas is.1.0.0)

pub type_constructor : {P : List Item → Type 0} → InTypes P → (named : Built) → IsTypeConstructor named → P (constructor_items named)
type_constructor h (Built.Name item) is = large_name (patterns_in h) item is
type_constructor h (Built.Symbol left sign right) is = h.parens left right (sign ∷ []) is.0 is.1.1 (of_text h Class.ReservedOp (codes "->") sign is.1.0 refl)
type_constructor h (Built.Unit left right) is = h.parens left right [] is.0 is.1 h.joins.nothing
type_constructor h (Built.EmptyList left right) is = h.squares left right [] is.0 is.1 h.joins.nothing
type_constructor h (Built.Tuple left commas right) is = h.parens left right commas is.0 is.1.1 (all_items h.joins IsComma (comma (patterns_in h)) commas is.1.0.0)

pub own_constructor : {P : List Item → Type 0} → InPatterns P → (named : Built) → IsOwnConstructor named → P (constructor_items named)
own_constructor h (Built.Name item) is = of_class h Class.ConId item is refl
own_constructor h (Built.Symbol left sign right) is = h.parens left right (sign ∷ []) is.0 is.1.1 (of_class h Class.ConSym sign is.1.0 refl)
own_constructor h (Built.Unit left right) is = elim is [ ]
own_constructor h (Built.EmptyList left right) is = elim is [ ]
own_constructor h (Built.Tuple left commas right) is = elim is [ ]

pub variable : {P : List Item → Type 0} → InPatterns P → (named : Named) → IsVariable named → P (variable_items named)
variable h (Named.Name item) is = of_class h Class.VarId item is refl
variable h (Named.Symbol left sign right) is = h.parens left right (sign ∷ []) is.0 is.1.1 (of_class h Class.VarSym sign is.1.0 refl)

pub named_variable : {P : List Item → Type 0} → InPatterns P → (named : Named) → IsNamedVariable named → P (variable_items named)
named_variable h (Named.Name item) is = small_name h item is
named_variable h (Named.Symbol left sign right) is = h.parens left right (sign ∷ []) is.0 is.1.1 (variable_symbol h sign is.1.0)

-- a name in backquotes
quoted : {P : List Item → Type 0} → InPatterns P → (left name right : Item) → IsText Class.Special (codes "`") left → P (name ∷ []) → IsText Class.Special (codes "`") right → P (left ∷ name ∷ right ∷ [])
quoted h left name right l n r =
    put h.joins left (name ∷ right ∷ []) (of_text h Class.Special (codes "`") left l refl) (put h.joins name (right ∷ []) n (of_text h Class.Special (codes "`") right r refl))

pub constructor_operator : {P : List Item → Type 0} → InPatterns P → (operator : Operator) → IsConstructorOperator operator → P (operator_items operator)
constructor_operator h (Operator.Symbol sign) is = constructor_symbol h sign is
constructor_operator h (Operator.Quoted left name right) is = quoted h left name right is.0 (large_name h name is.1.0) is.1.1

variable_operator : {P : List Item → Type 0} → InPatterns P → (operator : Operator) → IsVariableOperator operator → P (operator_items operator)
variable_operator h (Operator.Symbol sign) is = variable_symbol h sign is
variable_operator h (Operator.Quoted left name right) is = quoted h left name right is.0 (small_name h name is.1.0) is.1.1

pub any_operator : {P : List Item → Type 0} → InPatterns P → (operator : Operator) → IsOperator operator → P (operator_items operator)
any_operator h operator (inl is) = variable_operator h operator is
any_operator h operator (inr is) = constructor_operator h operator is

pub own_operator : {P : List Item → Type 0} → InPatterns P → (operator : Operator) → IsOwnOperator operator → P (operator_items operator)
own_operator h (Operator.Symbol sign) (inl is) = of_class h Class.VarSym sign is refl
own_operator h (Operator.Symbol sign) (inr is) = of_class h Class.ConSym sign is refl
own_operator h (Operator.Quoted left name right) (inl is) = quoted h left name right is.0 (of_class h Class.VarId name is.1.0 refl) is.1.1
own_operator h (Operator.Quoted left name right) (inr is) = quoted h left name right is.0 (of_class h Class.ConId name is.1.0 refl) is.1.1
