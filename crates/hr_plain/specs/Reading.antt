-- The items of a module, read one after another as its equations: what has been read before each item, and
-- what with it. What is read so is what is of the form; the code is held against this, and callers see the
-- form alone.
use Rattle.std.specs.Prelude.{ℕ, Bool, true, false, ◌||◌, ◌==◌, nat_lt, nat_le, List, [], ◌∷◌, ◌++◌, length, if◌then◌else◌, Option, Some, None}
use Rattle.std.specs.Option.{option_and_then, option_map, option_to_list}
use Rattle.hr_base.specs.declared.lexeme.Item.{Item}
use Rattle.hr_rules.specs.Letters.{is_newline}
use Rattle.hr_lexer.specs.declared.error.LexError.{LexError}
use Rattle.hr_plain_tree.specs.declared.tree.Exp.{Exp}
use Rattle.hr_plain_tree.specs.declared.tree.Exp.TheVariants.{Variable, Integer, Group, Apply}
use Rattle.hr_plain_tree.specs.declared.tree.Equation.{Equation}
use Rattle.hr_plain_tree.specs.Yields.{height_of}
use Rattle.hr_plain.specs.declared.expressions.Body.{Body}
use Rattle.hr_plain.specs.declared.expressions.Outer.{Outer}
use Rattle.hr_plain.specs.declared.equations.Part.{Part}
use Rattle.hr_plain.specs.declared.loading.LoadError.{LoadError}
use Rattle.hr_plain.specs.Form.{greatest_height, is_at_margin, is_integer, is_mark, is_pattern, is_plain_variable}

-- blanks and comments

-- whether a line comment is open behind the byte, where it may stand there
abbrev pub plain_behind : Bool → ℕ → Option Bool
plain_behind true c = if c == 10 then Some false else (if is_newline c then None else Some true)
plain_behind false c = if c == 45 then Some true else (if c == 32 || c == 10 then Some false else None)

-- expressions

-- the expression of these atoms
abbrev pub joined : List Exp → Option Exp
joined [] = None
joined (atom ∷ []) = Some atom
joined (atom ∷ (other ∷ atoms)) = Some (Apply (atom ∷ (other ∷ atoms)))

abbrev pub put_before : {X : Type 0} → X → Option (List X × X) → List X × X
put_before x None = ([], x)
put_before x (Some (xs, last)) = (x ∷ xs, last)

-- all but the last one, and the last one
abbrev pub split_last : {X : Type 0} → List X → Option (List X × X)
split_last [] = None
split_last (x ∷ xs) = Some (put_before x (split_last xs))

abbrev pub nothing_read : Body
nothing_read = record { atoms = []; outer = [] }

abbrev pub with_atom : Body → Exp → Body
with_atom body atom = record { atoms = body.atoms ++ (atom ∷ []); outer = body.outer }

-- with a `(`; it may not be too deep
abbrev pub opened : Body → Item → Option Body
opened body left =
    if nat_lt (length body.outer) greatest_height
    then Some (record { atoms = []; outer = body.outer ++ (record { atoms = body.atoms; left = left } ∷ []) }) else None

abbrev pub grouped : List Outer → Outer → Item → Exp → Body
grouped outer last right inner = record { atoms = last.atoms ++ (Group last.left inner right ∷ []); outer = outer }

abbrev pub closed_in : List Exp → Item → List Outer × Outer → Option Body
closed_in atoms right outer = option_map (grouped outer.0 outer.1 right) (joined atoms)

-- with a `)`
abbrev pub group_closed : Body → Item → Option Body
group_closed body right = option_and_then (closed_in body.atoms right) (split_last body.outer)

-- with an item
abbrev pub body_with : Body → Item → Option Body
body_with body item =
    if is_plain_variable item then Some (with_atom body (Variable item))
    else (if is_integer item then Some (with_atom body (Integer item))
    else (if is_mark 40 item then opened body item
    else (if is_mark 41 item then group_closed body item else None)))

abbrev pub joined_outside : List Outer → List Exp → Option Exp
joined_outside [] atoms = joined atoms
joined_outside (outer ∷ more) atoms = None

-- the expression, where no parenthesis is open
abbrev pub body_end : Body → Option Exp
body_end body = joined_outside body.outer body.atoms

-- equations

-- behind the name that an equation begins with
abbrev pub begun : Item → Option Part
begun name = if is_plain_variable name then Some (Part.Left name []) else None

abbrev pub left_with : Item → List Item → Item → Option Part
left_with name patterns item =
    if is_pattern item then Some (Part.Left name (patterns ++ (item ∷ [])))
    else (if is_mark 61 item then Some (Part.Right name patterns item nothing_read) else None)

-- with an item
abbrev pub part_with : Part → Item → Option Part
part_with (Part.Left name patterns) item = left_with name patterns item
part_with (Part.Right name patterns equals body) item = option_map (Part.Right name patterns equals) (body_with body item)

abbrev pub limited : Exp → Option Exp
limited exp = if nat_le (height_of exp) greatest_height then Some exp else None

abbrev pub equation_of : Item → List Item → Item → Exp → Equation
equation_of name patterns equals body = record { name = name; patterns = patterns; equals = equals; body = body }

-- the expression, where no more nodes stand in one another than may
abbrev pub limited_end : Body → Option Exp
limited_end body = option_and_then limited (body_end body)

-- the equation
abbrev pub part_end : Part → Option Equation
part_end (Part.Left name patterns) = None
part_end (Part.Right name patterns equals body) = option_map (equation_of name patterns equals) (limited_end body)

-- modules

-- the part that the item begins, behind an equation that ended, if one did
abbrev pub begun_behind : Option Equation → Item → Option (Option Equation × Part)
begun_behind ended item = option_map (λ part. (ended, part)) (begun item)

-- behind a part, or at the start: the equation that ended there, and the part with the item; it begins one at
-- the margin
abbrev pub step : Option Part → Item → Option (Option Equation × Part)
step None item = if is_at_margin true item then begun_behind None item else None
step (Some part) item =
    if is_at_margin false item then option_and_then (λ equation. begun_behind (Some equation) item) (part_end part)
    else option_map (λ longer. (None, longer)) (part_with part item)

-- the equation that ends with the items, if there is one
abbrev pub last_of : Option Part → Option (Option Equation)
last_of None = Some None
last_of (Some part) = option_map Some (part_end part)

abbrev pub in_front : Option Equation → List Equation → List Equation
in_front equation equations = option_to_list equation ++ equations

-- the equations that a part and the items behind it are
abbrev pub equations_from : Option Part → List Item → Option (List Equation)
equations_from part [] = option_map option_to_list (last_of part)
equations_from part (item ∷ items) =
    option_and_then (λ next. option_map (in_front next.0) (equations_from (Some next.1) items)) (step part item)

-- the equations that the items are
abbrev pub equations_of : List Item → Option (List Equation)
equations_of items = equations_from None items

-- texts

-- why the one text is not read that the lexer refuses
abbrev pub unread : LexError → LoadError
unread (LexError.Memory error) = LoadError.Memory error
unread error = LoadError.Lex 0 error
