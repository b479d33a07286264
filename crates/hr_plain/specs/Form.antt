-- The plain form of a module: equations over variables, integers, applications and parentheses (of the
-- Haskell 98 Report's sections 3.2, 3.3 and 4.4.3), one part after another at the margin.
use Rattle.std.specs.Prelude.{◌≡◌, ℕ, Bool, true, false, not, ◌&&◌, ◌||◌, ◌==◌, nat_eq, nat_le, nat_lt, List, [], ◌∷◌, ◌++◌, length, map, All, if◌then◌else◌, Option, Some, None}
use Rattle.std.specs.List.{IsDistinct, filter, flat_map, last_or, list_all, list_any}
use Rattle.std.specs.Cmp.Lexicographic.{pointwise}
use Rattle.hr_base.specs.declared.lexeme.Class.{Class}
use Rattle.hr_base.specs.declared.lexeme.Item.{Item}
use Rattle.hr_rules.specs.Letters.{is_newline}
use Rattle.hr_rules.specs.Lexemes.{LexesText}
use Rattle.hr_plain_tree.specs.declared.tree.Exp.{Exp}
use Rattle.hr_plain_tree.specs.declared.tree.Exp.TheOpen.{Exp-F}
use Rattle.hr_plain_tree.specs.declared.tree.Exp.TheFolds.{fold-Exp}
use Rattle.hr_plain_tree.specs.declared.tree.Equation.{Equation}
use Rattle.hr_plain_tree.specs.declared.tree.Module.{Module}
use Rattle.hr_plain_tree.specs.Yields.{height_of, items_of, module_items, yield_of}
use Rattle.hr_plain.specs.Scoping.{binds, is_variable}

-- the lexemes

abbrev pub is_ascii_text : List ℕ → Bool
is_ascii_text text = list_all (λ c. nat_lt c 128) text

-- an ASCII varid
abbrev pub is_plain_variable : Item → Bool
is_plain_variable item = is_variable item && is_ascii_text item.lexeme.text

abbrev pub is_integer_class : Class → Bool
is_integer_class Class.Integer = true
is_integer_class _ = false

abbrev pub is_integer : Item → Bool
is_integer item = is_integer_class item.lexeme.class

-- special characters, and operators that are reserved
abbrev pub is_reserved_class : Class → Bool
is_reserved_class Class.Special = true
is_reserved_class Class.ReservedOp = true
is_reserved_class _ = false

-- the one of them that is this character
abbrev pub is_mark : ℕ → Item → Bool
is_mark c item = is_reserved_class item.lexeme.class && pointwise nat_eq item.lexeme.text (c ∷ [])

-- what stands between them

-- of blanks and comments, that they are spaces (32), linefeeds (10) and line comments alone; `inside` says
-- that a line comment is open, which a dash (45) begins and a newline ends
unfoldable pub is_plain_trivia_where : Bool → List ℕ → Bool
is_plain_trivia_where inside [] = true
is_plain_trivia_where true (c ∷ rest) =
    if c == 10 then is_plain_trivia_where false rest else not (is_newline c) && is_plain_trivia_where true rest
is_plain_trivia_where false (c ∷ rest) =
    if c == 45 then is_plain_trivia_where true rest else (c == 32 || c == 10) && is_plain_trivia_where false rest

abbrev pub is_plain_trivia : List ℕ → Bool
is_plain_trivia trivia = is_plain_trivia_where false trivia

-- the equations

-- of an expression, whether it is of the form, and whether it is an atom
pub record Shape : Type 0 where
  pub is_form : Bool
  pub is_atom : Bool

-- a varid, an integer and an expression in parentheses (40, 41) are atoms; an application is two atoms or
-- more, one after another
abbrev pub shape_layer : Exp-F Shape → Shape
shape_layer (Exp-F.Variable item) = record { is_form = is_plain_variable item; is_atom = true }
shape_layer (Exp-F.Integer item) = record { is_form = is_integer item; is_atom = true }
shape_layer (Exp-F.Group left inner right) =
    record { is_form = (is_mark 40 left && inner.is_form) && is_mark 41 right; is_atom = true }
shape_layer (Exp-F.Apply atoms) =
    record { is_form = nat_lt 1 (length atoms) && list_all (λ atom. atom.is_form && atom.is_atom) atoms; is_atom = false }

abbrev pub shape_of : Exp → Shape
shape_of = fold-Exp Shape shape_layer

abbrev pub is_pattern : Item → Bool
is_pattern item = is_plain_variable item || is_integer item

-- the body stands at nesting 3, and no node at more than 256
abbrev pub greatest_height : ℕ
greatest_height = 254

-- a varid, then varids and integers, then `=` (61), then an expression
abbrev pub is_equation : Equation → Bool
is_equation equation =
    ((is_plain_variable equation.name && list_all is_pattern equation.patterns) && is_mark 61 equation.equals)
    && ((shape_of equation.body).is_form && nat_le (height_of equation.body) greatest_height)

-- where the equations stand

abbrev pub ends_line : Bool → Option ℕ → Bool
ends_line is_first None = is_first
ends_line is_first (Some c) = c == 10

-- the lexeme stands at the margin: a linefeed is just before it, or nothing as it begins the text
abbrev pub is_at_margin : Bool → Item → Bool
is_at_margin is_first item = ends_line is_first (last_or None item.trivia)

abbrev pub margins_where : Bool → List Item → List Bool
margins_where is_first [] = []
margins_where is_first (item ∷ items) = is_at_margin is_first item ∷ margins_where false items

-- of each lexeme, whether it stands at the margin
abbrev pub margins_of : List Item → List Bool
margins_of items = margins_where true items

-- of each lexeme of an equation, whether it begins it
abbrev pub equation_starts : Equation → List Bool
equation_starts equation = true ∷ map (λ item. false) (equation.patterns ++ (equation.equals ∷ yield_of equation.body))

abbrev pub starts_of : List Equation → List Bool
starts_of equations = flat_map equation_starts equations

-- what its names are bound to

abbrev pub is_same_text : List ℕ → List ℕ → Bool
is_same_text text other = pointwise nat_eq text other

-- the names that equations define, one for each equation
abbrev pub defined_by : List Equation → List (List ℕ)
defined_by equations = map (λ equation. equation.name.lexeme.text) equations

-- equal ones stand next to one another: between two that are equal all are
abbrev pub AreTogether : List (List ℕ) → Type 0
AreTogether names =
    (before between after : List (List ℕ)) (name : List ℕ) → names ≡ before ++ (name ∷ (between ++ (name ∷ after)))
    → All (λ other. other ≡ name) between

-- the variables among patterns
abbrev pub variables_in : List Item → List (List ℕ)
variables_in patterns = map (λ item. item.lexeme.text) (filter is_variable patterns)

-- a name in the body of an equation is a variable of its patterns or one that an equation defines
abbrev pub is_bound : List (List ℕ) → Equation → Item → Bool
is_bound defined equation item =
    not (is_variable item) || (binds equation item.lexeme.text || list_any (is_same_text item.lexeme.text) defined)

pub record IsScoped (equations : List Equation) : Type 0 where
  pub together : AreTogether (defined_by equations)
  pub distinct : All (λ equation. IsDistinct is_same_text (variables_in equation.patterns)) equations
  pub bound : All (λ equation. list_all (is_bound (defined_by equations) equation) (yield_of equation.body) ≡ true) equations

-- the form

pub record IsForm (tree : Module) : Type 0 where
  pub trivia : All (λ item. is_plain_trivia item.trivia ≡ true) (module_items tree)
  pub tail : is_plain_trivia tree.tail ≡ true
  pub equations : All (λ equation. is_equation equation ≡ true) tree.equations
  pub margins : margins_of (module_items tree) ≡ starts_of tree.equations
  pub scoped : IsScoped tree.equations

-- bytes are a text of the plain form, and this is its tree
pub record IsPlain (bytes : List ℕ) (tree : Module) : Type 0 where
  pub lexes : LexesText bytes (items_of tree)
  pub form : IsForm tree
