-- The lexeme that each name of a module is bound to (Haskell 98 Report, sections 3.2, 4.4.3 and 4.5.1): a
-- variable among an equation's patterns is bound there, as are the names in its body that are spelled like
-- it; every other name is bound where it is first defined. This is the promise: a renaming keeps these
-- numbers (`IsTarget`, `binds`). `Scoping` says which names are one, by which the code finds what to respell.
use Rattle.std.specs.Prelude.{ℕ, ◌+◌, List, [], ◌∷◌, ◌++◌, length, map, if◌then◌else◌, Option, Some, None}
use Rattle.std.specs.Option.{option_or}
use Rattle.hr_base.specs.declared.lexeme.Item.{Item}
use Rattle.hr_plain_tree.specs.declared.tree.Equation.{Equation}
use Rattle.hr_plain_tree.specs.declared.tree.Module.{Module}
use Rattle.hr_plain_tree.specs.Yields.{equation_items, yield_of}
use Rattle.hr_plain.specs.Scoping.{is_named, is_variable}

-- the number of the first of these items that is a variable with the text, where the first one has this number
abbrev pub named_from : List ℕ → ℕ → List Item → Option ℕ
named_from text number [] = None
named_from text number (item ∷ items) = if is_named text item then Some number else named_from text (number + 1) items

-- the lexeme at which one of these equations first defines the text, where the first one begins at this lexeme
abbrev pub defined_from : List ℕ → ℕ → List Equation → Option ℕ
defined_from text lexeme [] = None
defined_from text lexeme (equation ∷ equations) =
    if is_named text equation.name then Some lexeme else defined_from text (lexeme + length (equation_items equation)) equations

abbrev pub defined_in : Module → List ℕ → Option ℕ
defined_in tree text = defined_from text 0 tree.equations

-- what an item that may be a name is bound to, by what binds a text
abbrev pub binder_of : (List ℕ → Option ℕ) → Item → Option ℕ
binder_of bind item = if is_variable item then bind item.lexeme.text else None

-- of each lexeme of an equation that begins at this lexeme, what it is bound to; `defined` says it of top-level
-- names
abbrev pub equation_binders : (List ℕ → Option ℕ) → ℕ → Equation → List (Option ℕ)
equation_binders defined lexeme equation =
    let own : List ℕ → Option ℕ = λ text. named_from text (lexeme + 1) equation.patterns in
    binder_of defined equation.name
    ∷ (map (binder_of own) equation.patterns
    ++ (None ∷ map (binder_of (λ text. option_or (own text) (defined text))) (yield_of equation.body)))

abbrev pub binders_from : (List ℕ → Option ℕ) → ℕ → List Equation → List (Option ℕ)
binders_from defined lexeme [] = []
binders_from defined lexeme (equation ∷ equations) =
    equation_binders defined lexeme equation ++ binders_from defined (lexeme + length (equation_items equation)) equations

-- of each lexeme of a module, from 0, the lexeme that it is bound to; none of those that are no names
abbrev pub binders_of : Module → List (Option ℕ)
binders_of tree = binders_from (defined_in tree) 0 tree.equations
