-- Worked texts: those that the reader finds one tree of, and those that have none.
use Rattle.std.specs.Prelude.{ℕ, ◌≡◌, List, [], ◌∷◌, length}
use lib.Chars.{codes}
use Rattle.hr_base.specs.declared.lexeme.Class.{Class}
use Rattle.hr_base.specs.declared.lexeme.Item.{Item}
use Rattle.hr_rules.specs.Lexing.{joined}
use Rattle.hr_tree.specs.declared.modules.Module.{Module}
use Rattle.hr_grammar.specs.Yields.{nesting_limit}
use Rattle.hr_grammar.specs.Worked.{item, word, reserved, bracket, joint, annotated_in_let, section_of_lambda, case_in_if, sum_behind_case, case_in_tuple, case_in_comprehension, case_in_sequence, case_in_case, where_in_let}
use Rattle.hr_grammar_cases.specs.Modules.{Derives}
use Rattle.hr_grammar_cases.specs.Worked.{annotated_in_let_items, section_of_lambda_items, case_in_if_items, sum_behind_case_items, defines_a}
use Rattle.hr_grammar_finder_laws.specs.Modules.{trees_of}

-- lexemes with a blank before them, and at the beginning of a line
abbrev name : List ℕ → Item
name = item Class.VarId (codes " ")

abbrev type : List ℕ → Item
type = item Class.ConId (codes " ")

abbrev number : List ℕ → Item
number = item Class.Integer (codes " ")

abbrev symbol : List ℕ → Item
symbol = item Class.VarSym (codes " ")

abbrev line : Class → List ℕ → Item
line class text = item class (codes "\n") text

-- the reader finds this tree, and no other one
abbrev pub IsAlone : Module → List Item → Type 0
IsAlone tree items = trees_of nesting_limit (record { list = items; tail = tree.tail }) ≡ tree ∷ []

-- of the items of this text it finds this tree alone, which is one by the relation
pub record FindsOneTree (text : List ℕ) (tree : Module) (items : List Item) : Type 0 where
  pub spelled : joined items [] ≡ text
  pub alone : IsAlone tree items
  pub derived : Derives nesting_limit tree items

-- of the items of this text it finds one tree, whatever that is
pub record FindsSomeTree (text : List ℕ) (items : List Item) : Type 0 where
  pub spelled : joined items [] ≡ text
  pub found : length (trees_of nesting_limit (record { list = items; tail = [] })) ≡ 1

-- it finds none, so there is none by the relation
pub record FindsNoTree (text : List ℕ) (items : List Item) : Type 0 where
  pub spelled : joined items [] ≡ text
  pub found : (tail : List ℕ) → trees_of nesting_limit (record { list = items; tail = tail }) ≡ []
  pub derived : (tree : Module) → Derives nesting_limit tree items → ⊥

-- a module with a header, an import, a declaration of a type, a signature, and an equation with guards and `where`
abbrev pub whole_module_items : List Item
whole_module_items =
    item Class.ReservedId [] (codes "module") ∷ type (codes "M") ∷ bracket (codes "(") ∷ item Class.VarId [] (codes "f") ∷ joint (codes ",") ∷ joint (codes ")") ∷ word (codes "where")
    ∷ line Class.ReservedId (codes "import") ∷ type (codes "N") ∷ bracket (codes "(") ∷ joint (codes ")")
    ∷ line Class.ReservedId (codes "data") ∷ type (codes "T") ∷ reserved (codes "=") ∷ type (codes "C") ∷ type (codes "T") ∷ reserved (codes "|") ∷ type (codes "D")
    ∷ line Class.VarId (codes "f") ∷ reserved (codes "::") ∷ type (codes "T") ∷ reserved (codes "->") ∷ type (codes "T")
    ∷ line Class.VarId (codes "f") ∷ name (codes "x") ∷ reserved (codes "|") ∷ name (codes "y") ∷ reserved (codes "=") ∷ name (codes "z")
    ∷ item Class.ReservedId (codes "\n ") (codes "where") ∷ name (codes "y") ∷ reserved (codes "=") ∷ name (codes "x")
    ∷ []

-- two declarations between braces, with a `;` before, between and behind them
abbrev pub braced_items : List Item
braced_items =
    item Class.Special [] (codes "{") ∷ joint (codes ";") ∷ name (codes "a") ∷ reserved (codes "=") ∷ name (codes "b") ∷ joint (codes ";") ∷ joint (codes ";") ∷ name (codes "c") ∷ symbol (codes "+")
    ∷ name (codes "d") ∷ reserved (codes "=") ∷ symbol (codes "-") ∷ number (codes "1") ∷ joint (codes ";") ∷ bracket (codes "}") ∷ []

-- `a = (case x of y -> 1, 2)`
abbrev pub case_in_tuple_items : List Item
case_in_tuple_items =
    item Class.VarId [] (codes "a") ∷ reserved (codes "=") ∷ bracket (codes "(") ∷ item Class.ReservedId [] (codes "case") ∷ name (codes "x") ∷ word (codes "of") ∷ name (codes "y") ∷ reserved (codes "->")
    ∷ number (codes "1") ∷ joint (codes ",") ∷ number (codes "2") ∷ joint (codes ")") ∷ []

-- `a = [case x of y -> 1 : [] | y <- z]`
abbrev pub case_in_comprehension_items : List Item
case_in_comprehension_items =
    item Class.VarId [] (codes "a") ∷ reserved (codes "=") ∷ bracket (codes "[") ∷ item Class.ReservedId [] (codes "case") ∷ name (codes "x") ∷ word (codes "of") ∷ name (codes "y") ∷ reserved (codes "->")
    ∷ number (codes "1") ∷ reserved (codes ":") ∷ bracket (codes "[") ∷ joint (codes "]") ∷ reserved (codes "|") ∷ name (codes "y") ∷ reserved (codes "<-") ∷ name (codes "z") ∷ joint (codes "]") ∷ []

-- `a = [case x of y -> 1 ..]`
abbrev pub case_in_sequence_items : List Item
case_in_sequence_items =
    item Class.VarId [] (codes "a") ∷ reserved (codes "=") ∷ bracket (codes "[") ∷ item Class.ReservedId [] (codes "case") ∷ name (codes "x") ∷ word (codes "of") ∷ name (codes "y") ∷ reserved (codes "->")
    ∷ number (codes "1") ∷ reserved (codes "..") ∷ joint (codes "]") ∷ []

-- `a = case case x of y -> y of z -> z`
abbrev pub case_in_case_items : List Item
case_in_case_items =
    item Class.VarId [] (codes "a") ∷ reserved (codes "=") ∷ word (codes "case") ∷ word (codes "case") ∷ name (codes "x") ∷ word (codes "of") ∷ name (codes "y") ∷ reserved (codes "->") ∷ name (codes "y")
    ∷ word (codes "of") ∷ name (codes "z") ∷ reserved (codes "->") ∷ name (codes "z") ∷ []

-- `a = let b = c where c = 1 in b`
abbrev pub where_in_let_items : List Item
where_in_let_items =
    item Class.VarId [] (codes "a") ∷ reserved (codes "=") ∷ word (codes "let") ∷ name (codes "b") ∷ reserved (codes "=") ∷ name (codes "c") ∷ word (codes "where") ∷ name (codes "c") ∷ reserved (codes "=")
    ∷ number (codes "1") ∷ word (codes "in") ∷ name (codes "b") ∷ []

-- `f = )`
abbrev pub unopened_items : List Item
unopened_items = item Class.VarId [] (codes "f") ∷ reserved (codes "=") ∷ bracket (codes ")") ∷ []

-- `main s = (s`, and `x = 1` on the line below
abbrev pub unclosed_items : List Item
unclosed_items =
    item Class.VarId [] (codes "main") ∷ name (codes "s") ∷ reserved (codes "=") ∷ bracket (codes "(") ∷ item Class.VarId [] (codes "s") ∷ line Class.VarId (codes "x") ∷ reserved (codes "=") ∷ number (codes "1") ∷ []

-- `f = class`
abbrev pub class_items : List Item
class_items = item Class.VarId [] (codes "f") ∷ reserved (codes "=") ∷ word (codes "class") ∷ []

-- `main s = let x = 1`
abbrev pub let_without_in_items : List Item
let_without_in_items =
    item Class.VarId [] (codes "main") ∷ name (codes "s") ∷ reserved (codes "=") ∷ word (codes "let") ∷ name (codes "x") ∷ reserved (codes "=") ∷ number (codes "1") ∷ []

-- `a = if b`, and `then c else d` at the margin of the line below
abbrev pub then_at_margin_items : List Item
then_at_margin_items =
    item Class.VarId [] (codes "a") ∷ reserved (codes "=") ∷ word (codes "if") ∷ name (codes "b") ∷ line Class.ReservedId (codes "then") ∷ name (codes "c") ∷ word (codes "else") ∷ name (codes "d") ∷ []

-- `a :: b :: c`
abbrev pub twice_annotated_items : List Item
twice_annotated_items = item Class.VarId [] (codes "a") ∷ reserved (codes "::") ∷ name (codes "b") ∷ reserved (codes "::") ∷ name (codes "c") ∷ []

-- `a = [case x of y | a -> 1 | b <- c]`
abbrev pub case_or_comprehension_items : List Item
case_or_comprehension_items =
    item Class.VarId [] (codes "a") ∷ reserved (codes "=") ∷ bracket (codes "[") ∷ item Class.ReservedId [] (codes "case") ∷ name (codes "x") ∷ word (codes "of") ∷ name (codes "y") ∷ reserved (codes "|")
    ∷ name (codes "a") ∷ reserved (codes "->") ∷ number (codes "1") ∷ reserved (codes "|") ∷ name (codes "b") ∷ reserved (codes "<-") ∷ name (codes "c") ∷ joint (codes "]") ∷ []

pub record WorkedTextsAreFound : Type 0 where
  pub annotated_in_let : FindsOneTree (codes "a = let b = 1 :: Int in b") (defines_a annotated_in_let) annotated_in_let_items
  pub section_of_lambda : FindsOneTree (codes "a = (\\x -> x +)") (defines_a section_of_lambda) section_of_lambda_items
  pub case_in_if : FindsOneTree (codes "a = if case x of y -> y then 1 else 2") (defines_a case_in_if) case_in_if_items
  pub sum_behind_case : FindsOneTree (codes "a = (case a of A -> 1 :: T + 2)") (defines_a sum_behind_case) sum_behind_case_items
  pub case_in_tuple : FindsOneTree (codes "a = (case x of y -> 1, 2)") (defines_a case_in_tuple) case_in_tuple_items
  pub case_in_comprehension : FindsOneTree (codes "a = [case x of y -> 1 : [] | y <- z]") (defines_a case_in_comprehension) case_in_comprehension_items
  pub case_in_sequence : FindsOneTree (codes "a = [case x of y -> 1 ..]") (defines_a case_in_sequence) case_in_sequence_items
  pub case_in_case : FindsOneTree (codes "a = case case x of y -> y of z -> z") (defines_a case_in_case) case_in_case_items
  pub where_in_let : FindsOneTree (codes "a = let b = c where c = 1 in b") (defines_a where_in_let) where_in_let_items
  pub whole_module : FindsSomeTree (codes "module M (f,) where\nimport N ()\ndata T = C T | D\nf :: T -> T\nf x | y = z\n where y = x") whole_module_items
  pub braced : FindsSomeTree (codes "{; a = b;; c + d = - 1; }") braced_items
  pub unopened : FindsNoTree (codes "f = )") unopened_items
  pub unclosed : FindsNoTree (codes "main s = (s\nx = 1") unclosed_items
  pub class_word : FindsNoTree (codes "f = class") class_items
  pub let_without_in : FindsNoTree (codes "main s = let x = 1") let_without_in_items
  pub then_at_margin : FindsNoTree (codes "a = if b\nthen c else d") then_at_margin_items
  pub twice_annotated : FindsNoTree (codes "a :: b :: c") twice_annotated_items
  pub case_or_comprehension : FindsNoTree (codes "a = [case x of y | a -> 1 | b <- c]") case_or_comprehension_items
