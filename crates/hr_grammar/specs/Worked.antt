-- Trees of worked texts: that they are trees of the grammar, stand as the layout rule says, and where their
-- blocks end.
use Rattle.std.specs.Prelude.{ℕ, ◌≡◌, ◌+◌, List, [], ◌∷◌, Option, Some, None, drop, map}
use lib.Chars.{codes}
use Rattle.hr_base.specs.declared.lexeme.Class.{Class}
use Rattle.hr_base.specs.declared.lexeme.Item.{Item}
use Rattle.hr_rules.specs.Lexing.{joined}
use Rattle.hr_tree.specs.declared.names.Variable.{Variable as Named}
use Rattle.hr_tree.specs.declared.names.Constructor.{Constructor as Built}
use Rattle.hr_tree.specs.declared.names.Operator.{Operator}
use Rattle.hr_tree.specs.declared.lists.Layout.{Layout}
use Rattle.hr_tree.specs.declared.lists.Piece.{Piece}
use Rattle.hr_tree.specs.declared.lists.Block.{Block}
use Rattle.hr_tree.specs.declared.declarations.Body.{Body}
use Rattle.hr_tree.specs.declared.types.Ty.{Ty}
use Rattle.hr_tree.specs.declared.types.Ty.TheVariants.{Constructor as TypeOf}
use Rattle.hr_tree.specs.declared.patterns.Pat.{Pat}
use Rattle.hr_tree.specs.declared.patterns.Pat.TheVariants.{Variable as Bound, Constructor as Built_by}
use Rattle.hr_tree.specs.declared.expressions.Exp.{Exp}
use Rattle.hr_tree.specs.declared.expressions.Exp.TheVariants.{Variable, Constructor, Literal, Group, Tuple, From, Comprehension, Infix, Annotated, Lambda, Let, If, Case, LeftSection}
use Rattle.hr_tree.specs.declared.expressions.Alt.{Alt, roll-Alt}
use Rattle.hr_tree.specs.declared.expressions.Decl.TheVariants.{Binding}
use Rattle.hr_tree.specs.declared.expressions.Qualifier.TheVariants.{Generator}
use Rattle.hr_tree.specs.declared.modules.Module.{Module}
use Rattle.hr_tree.specs.Yields.{items_of, module_items}
use Rattle.hr_grammar.specs.Yields.{IsModule, nesting_limit}
use Rattle.hr_grammar.specs.Spans.{BlockSpan, spans_of}
use Rattle.hr_grammar.specs.Offside.{Offside}

-- an item, by what stands before it
abbrev pub item : Class → List ℕ → List ℕ → Item
item class trivia text = record { trivia = trivia; lexeme = record { class = class; text = text } }

-- lexemes with a blank before them, and with nothing before them
abbrev pub word : List ℕ → Item
word = item Class.ReservedId (codes " ")

abbrev pub reserved : List ℕ → Item
reserved = item Class.ReservedOp (codes " ")

abbrev pub bracket : List ℕ → Item
bracket = item Class.Special (codes " ")

abbrev pub joint : List ℕ → Item
joint = item Class.Special []

abbrev pub name : List ℕ → List ℕ → Named
name trivia text = Named.Name (item Class.VarId trivia text)

abbrev pub variable : List ℕ → Exp
variable text = Variable (name (codes " ") text)

abbrev pub number : List ℕ → Exp
number text = Literal (item Class.Integer (codes " ") text)

abbrev pub bound : List ℕ → Pat
bound text = Bound (name (codes " ") text)

abbrev pub type : List ℕ → Ty
type text = TypeOf (Built.Name (item Class.ConId (codes " ") text))

-- a block of one part, without braces
abbrev pub only : {T : Type 0} → ℕ → T → Block T
only col part = record { layout = Layout.Implicit col; pieces = Piece.Part part ∷ [] }

abbrev pub alternative : Pat → Exp → Alt
alternative pattern body = roll-Alt (record { pattern = pattern; body = Body.Plain (reserved (codes "->")) body; locals = None })

-- `case`, with what stands before it
abbrev pub case_of : Item → List ℕ → ℕ → Pat → Exp → Exp
case_of first text col pattern body = Case first (variable text) (word (codes "of")) (only col (alternative pattern body))

-- a module that binds a name, on its first line
abbrev pub defines : List ℕ → Exp → Module
defines text body = record { header = None; body = only 1 (Binding (Bound (name [] text)) (Body.Plain (reserved (codes "=")) body) None); tail = [] }

-- `a = (case x of y -> 1, 2)`
abbrev pub case_in_tuple : Exp
case_in_tuple = Tuple (bracket (codes "("))
    (record { part = case_of (item Class.ReservedId [] (codes "case")) (codes "x") 16 (bound (codes "y")) (number (codes "1")); separator = Some (joint (codes ",")) }
    ∷ record { part = number (codes "2"); separator = None } ∷ [])
    (joint (codes ")"))

-- `a = [case x of y -> 1 : [] | y <- z]`
abbrev pub case_in_comprehension : Exp
case_in_comprehension = Comprehension (bracket (codes "["))
    (case_of (item Class.ReservedId [] (codes "case")) (codes "x") 16 (bound (codes "y"))
    (Infix (record { minus = None; part = number (codes "1"); operator = Some (Operator.Symbol (reserved (codes ":"))) }
    ∷ record { minus = None; part = Constructor (Built.EmptyList (bracket (codes "[")) (joint (codes "]"))); operator = None } ∷ [])))
    (reserved (codes "|")) (record { part = Generator (bound (codes "y")) (reserved (codes "<-")) (variable (codes "z")); separator = None } ∷ []) (joint (codes "]"))

-- `a = [case x of y -> 1 ..]`
abbrev pub case_in_sequence : Exp
case_in_sequence = From (bracket (codes "[")) (case_of (item Class.ReservedId [] (codes "case")) (codes "x") 16 (bound (codes "y")) (number (codes "1"))) (reserved (codes "..")) (joint (codes "]"))

-- `a = if case x of y -> y then 1 else 2`
abbrev pub case_in_if : Exp
case_in_if =
    If (word (codes "if")) (case_of (word (codes "case")) (codes "x") 18 (bound (codes "y")) (variable (codes "y"))) (word (codes "then")) (number (codes "1")) (word (codes "else")) (number (codes "2"))

-- `a = case case x of y -> y of z -> z`
abbrev pub case_in_case : Exp
case_in_case = Case (word (codes "case")) (case_of (word (codes "case")) (codes "x") 20 (bound (codes "y")) (variable (codes "y"))) (word (codes "of"))
    (only 30 (alternative (bound (codes "z")) (variable (codes "z"))))

-- `a = let b = 1 :: Int in b`
abbrev pub annotated_in_let : Exp
annotated_in_let = Let (word (codes "let")) (only 9 (Binding (bound (codes "b")) (Body.Plain (reserved (codes "=")) (Annotated (number (codes "1")) (reserved (codes "::")) (type (codes "Int")))) None))
    (word (codes "in")) (variable (codes "b"))

-- `a = let b = c where c = 1 in b`
abbrev pub where_in_let : Exp
where_in_let = Let (word (codes "let"))
    (only 9 (Binding (bound (codes "b")) (Body.Plain (reserved (codes "=")) (variable (codes "c")))
    (Some (record { word = word (codes "where"); block = only 21 (Binding (bound (codes "c")) (Body.Plain (reserved (codes "=")) (number (codes "1"))) None) }))))
    (word (codes "in")) (variable (codes "b"))

-- `x = (case a of A -> 1 :: T + 2)`
abbrev pub sum_behind_case : Exp
sum_behind_case = Group (bracket (codes "("))
    (Infix (record {
      minus = None;
      part = case_of (item Class.ReservedId [] (codes "case")) (codes "a") 16 (Built_by (Built.Name (item Class.ConId (codes " ") (codes "A")))) (Annotated (number (codes "1")) (reserved (codes "::")) (type (codes "T")));
      operator = Some (Operator.Symbol (item Class.VarSym (codes " ") (codes "+")));
    } ∷ record { minus = None; part = number (codes "2"); operator = None } ∷ []))
    (joint (codes ")"))

-- `a = (\x -> x +)`
abbrev pub section_of_lambda : Exp
section_of_lambda = LeftSection (bracket (codes "("))
    (Lambda (item Class.ReservedOp [] (codes "\\")) (Bound (name [] (codes "x")) ∷ []) (reserved (codes "->")) (variable (codes "x")))
    (Operator.Symbol (item Class.VarSym (codes " ") (codes "+"))) (joint (codes ")"))

-- the text of the next lexeme
abbrev pub next_text : List Item → Option (List ℕ)
next_text [] = None
next_text (next ∷ rest) = Some next.lexeme.text

-- of each block, in the order of their beginnings, the text of the lexeme behind it
abbrev pub behind_blocks : List BlockSpan → List Item → List (Option (List ℕ))
behind_blocks spans items = map (λ (span : BlockSpan). next_text (drop (span.start + span.extent) items)) spans

-- a tree with the text that it is the tree of, and with the lexemes that end its blocks: it is a tree of the
-- grammar, and stands as the layout rule says
pub record IsWorked (tree : Module) (text : List ℕ) (ends : List (Option (List ℕ))) : Type 0 where
  pub grammar : IsModule nesting_limit tree
  pub offside : Offside tree
  pub spelled : joined (items_of tree).list (items_of tree).tail ≡ text
  pub ended : behind_blocks (spans_of tree) (module_items tree) ≡ ends

-- the body of each of these modules ends with the text; the blocks in it end before the lexeme that is named
abbrev pub WorkedTrees : Type 0
WorkedTrees =
    IsWorked (defines (codes "a") case_in_tuple) (codes "a = (case x of y -> 1, 2)") (None ∷ Some (codes ",") ∷ [])
    × (IsWorked (defines (codes "a") case_in_comprehension) (codes "a = [case x of y -> 1 : [] | y <- z]") (None ∷ Some (codes "|") ∷ [])
    × (IsWorked (defines (codes "a") case_in_sequence) (codes "a = [case x of y -> 1 ..]") (None ∷ Some (codes "..") ∷ [])
    × (IsWorked (defines (codes "a") case_in_if) (codes "a = if case x of y -> y then 1 else 2") (None ∷ Some (codes "then") ∷ [])
    × (IsWorked (defines (codes "a") case_in_case) (codes "a = case case x of y -> y of z -> z") (None ∷ Some (codes "of") ∷ None ∷ [])
    × (IsWorked (defines (codes "a") annotated_in_let) (codes "a = let b = 1 :: Int in b") (None ∷ Some (codes "in") ∷ [])
    × (IsWorked (defines (codes "a") where_in_let) (codes "a = let b = c where c = 1 in b") (None ∷ Some (codes "in") ∷ Some (codes "in") ∷ [])
    × (IsWorked (defines (codes "x") sum_behind_case) (codes "x = (case a of A -> 1 :: T + 2)") (None ∷ Some (codes "+") ∷ [])
    × IsWorked (defines (codes "a") section_of_lambda) (codes "a = (\\x -> x +)") (None ∷ []))))))))
