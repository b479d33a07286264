-- Which variable or top-level name a name of the plain form is (Haskell 98 Report, sections 3.2 and
-- 4.4.3): an equation's patterns bind their variables in the equation's body, and every other name in a
-- body is one that an equation defines. By these the code finds the occurrences of a name; what is promised
-- of a renaming, that each name keeps its binder, is said by `binders_of` of `Binders`.
use Rattle.std.specs.Prelude.{ℕ, suc, Bool, true, false, ◌&&◌, ◌==◌, nat_eq, List, [], ◌∷◌, ◌++◌, map, if◌then◌else◌}
use Rattle.std.specs.List.{list_any}
use Rattle.std.specs.Cmp.Lexicographic.{pointwise}
use Rattle.hr_base.specs.declared.lexeme.Class.{Class}
use Rattle.hr_base.specs.declared.lexeme.Item.{Item}
use Rattle.hr_plain_tree.specs.declared.tree.Equation.{Equation}
use Rattle.hr_plain_tree.specs.declared.tree.Module.{Module}
use Rattle.hr_plain_tree.specs.Yields.{yield_of}
use Rattle.hr_plain.specs.declared.binding.Owner.{Owner}

abbrev pub is_variable_class : Class → Bool
is_variable_class Class.VarId = true
is_variable_class _ = false

abbrev pub is_variable : Item → Bool
is_variable item = is_variable_class item.lexeme.class

-- a variable with this text
unfoldable pub is_named : List ℕ → Item → Bool
is_named text item = is_variable item && pointwise nat_eq item.lexeme.text text

-- the equation has the variable among its patterns
unfoldable pub binds : Equation → List ℕ → Bool
binds equation text = list_any (is_named text) equation.patterns

-- what a name in the body of the equation of this number is
abbrev pub owner_in : ℕ → Equation → List ℕ → Owner
owner_in number equation text = if binds equation text then Owner.Equation number else Owner.TopLevel

abbrev pub is_same_owner : Owner → Owner → Bool
is_same_owner Owner.TopLevel Owner.TopLevel = true
is_same_owner Owner.TopLevel (Owner.Equation b) = false
is_same_owner (Owner.Equation a) Owner.TopLevel = false
is_same_owner (Owner.Equation a) (Owner.Equation b) = a == b

-- of each lexeme of the equation of this number, whether it is a name with that text which is the
-- owner's: its own name is a top-level one, its patterns are its own, its body's names are as above
abbrev pub equation_marks : Owner → List ℕ → ℕ → Equation → List Bool
equation_marks owner text number equation =
    (is_same_owner Owner.TopLevel owner && is_named text equation.name)
    ∷ (map (λ pattern. is_same_owner (Owner.Equation number) owner && is_named text pattern) equation.patterns
    ++ (false ∷ map (λ item. is_same_owner (owner_in number equation text) owner && is_named text item) (yield_of equation.body)))

abbrev pub marks_from : Owner → List ℕ → ℕ → List Equation → List Bool
marks_from owner text number [] = []
marks_from owner text number (equation ∷ equations) = equation_marks owner text number equation ++ marks_from owner text (suc number) equations

-- of each lexeme of a module, whether it is an occurrence of the owner's name
abbrev pub occurrences_of : Owner → List ℕ → Module → List Bool
occurrences_of owner text tree = marks_from owner text 0 tree.equations
