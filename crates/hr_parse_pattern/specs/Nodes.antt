-- The nodes of patterns that the parser makes (Haskell 98 Report, section 3.17), with their heights.
use Rattle.std.specs.Prelude.{ℕ, ◌+◌, min, max, List, [], ◌∷◌, ◌++◌, None}
use Rattle.hr_base.specs.declared.lexeme.Item.{Item}
use Rattle.hr_tree.specs.declared.names.Constructor.{Constructor}
use Rattle.hr_tree.specs.declared.lists.Listed.{Listed}
use Rattle.hr_tree.specs.declared.lists.Operand.{Operand}
use Rattle.hr_tree.specs.declared.patterns.Pat.{Pat}
use Rattle.hr_tree.specs.declared.patterns.Pat.TheVariants.{Constructor as Nullary, Apply, Infix, Tuple, List as ListOf, Group}
use Rattle.hr_parse_pattern.specs.declared.brackets.Head.{Head}
use Rattle.hr_parse_pattern.specs.declared.many.Many.{Many}
use Rattle.hr_parse_pattern.specs.declared.part.Operands.{Operands}
use Rattle.hr_parse_pattern.specs.declared.part.Part.{Part}
use Rattle.hr_parse_pattern.specs.declared.separated.Separated.{Separated}

-- one level more, which stays at the greatest number
abbrev pub deeper : ℕ → ℕ
deeper depth = min (depth + 1) 4294967295

-- a constructor alone is one node
abbrev pub atom_of : Head → Part Pat
atom_of (Head.Atom part) = part
atom_of (Head.Named named) = record { tree = Nullary named; height = 1 }

abbrev pub applied_by : Constructor → List Pat → ℕ → Part Pat
applied_by named [] height = record { tree = Nullary named; height = 1 }
applied_by named (first ∷ rest) height = record { tree = Apply named (first ∷ rest); height = deeper height }

-- a constructor with its arguments, if it has some
abbrev pub applied_of : Constructor → Many Pat → Part Pat
applied_of named arguments = applied_by named arguments.list arguments.height

abbrev pub infix_by : List (Operand Pat) → ℕ → Part Pat → Part Pat
infix_by [] height last = last
infix_by (first ∷ rest) height last =
    record { tree = Infix ((first ∷ rest) ++ record { minus = None; part = last.tree; operator = None } ∷ []); height = deeper (max height last.height) }

-- operands with the last one behind them, which stands alone where there is no other
abbrev pub infix_of : Operands Pat → Part Pat → Part Pat
infix_of operands last = infix_by operands.list operands.height last

abbrev pub closed_by : Item → List (Listed Pat) → ℕ → Part Pat → Item → Part Pat
closed_by left [] height last right = record { tree = Group left last.tree right; height = deeper last.height }
closed_by left (first ∷ rest) height last right =
    record { tree = Tuple left ((first ∷ rest) ++ record { part = last.tree; separator = None } ∷ []) right; height = deeper (max height last.height) }

-- one pattern in parentheses is no tuple
abbrev pub closed_of : Item → Separated → Item → Part Pat
closed_of left separated right = closed_by left separated.others.list separated.others.height separated.last right

abbrev pub square_of : Item → Separated → Item → Part Pat
square_of left separated right = record {
  tree = ListOf left (separated.others.list ++ record { part = separated.last.tree; separator = None } ∷ []) right;
  height = deeper (max separated.others.height separated.last.height);
}
