-- The nodes of types that the parser makes (Haskell 98 Report, section 4.1.2), with their heights.
use Rattle.std.specs.Prelude.{ℕ, ◌+◌, List, [], ◌∷◌, ◌++◌, None}
use Rattle.hr_base.specs.declared.lexeme.Item.{Item}
use Rattle.hr_tree.specs.declared.lists.Listed.{Listed}
use Rattle.hr_tree.specs.declared.names.Constructor.{Constructor}
use Rattle.hr_tree.specs.declared.types.Ty.{Ty}
use Rattle.hr_tree.specs.declared.types.Ty.TheVariants.{Constructor as Nullary, Apply, Tuple, Group}
use Rattle.hr_parse_lexeme.specs.declared.nesting.Measured.{Measured}
use Rattle.hr_parse_type.specs.declared.nodes.Head.{Head}
use Rattle.hr_parse_type.specs.declared.nodes.Parts.{Parts}

-- a constructor alone is one node
abbrev pub atom_of : Head → Measured Ty
atom_of (Head.Atom ty) = ty
atom_of (Head.Named named) = record { tree = Nullary named; height = 1 }

abbrev pub applied_of : Constructor → List Ty → ℕ → Measured Ty
applied_of named [] height = record { tree = Nullary named; height = 1 }
applied_of named (first ∷ rest) height = record { tree = Apply named (first ∷ rest); height = height + 1 }

-- one part in parentheses is no tuple
abbrev pub closed_by : Item → List (Listed Ty) → Ty → ℕ → Item → Measured Ty
closed_by left [] last height right = record { tree = Group left last right; height = height + 1 }
closed_by left (first ∷ rest) last height right =
    record { tree = Tuple left ((first ∷ rest) ++ record { part = last; separator = None } ∷ []) right; height = height + 1 }

abbrev pub closed_of : Item → Parts → Item → Measured Ty
closed_of left parts right = closed_by left parts.others parts.last parts.height right
