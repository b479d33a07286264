-- Trees in lists, with the greatest number of their levels.
use Rattle.std.specs.Prelude.{max, [], ◌∷◌, ◌++◌, Option}
use Rattle.hr_base.specs.declared.lexeme.Item.{Item}
use Rattle.hr_tree.specs.declared.names.Operator.{Operator}
use Rattle.hr_parse_pattern.specs.declared.many.Many.{Many}
use Rattle.hr_parse_pattern.specs.declared.many.Parts.{Parts}
use Rattle.hr_parse_pattern.specs.declared.part.Operands.{Operands}
use Rattle.hr_parse_pattern.specs.declared.part.Part.{Part}

-- one more
abbrev pub more_trees : {T : Type 0} → Many T → Part T → Many T
more_trees many part = record { list = many.list ++ part.tree ∷ []; height = max many.height part.height }

abbrev pub more_parts : {T : Type 0} → Parts T → Part T → Option Item → Parts T
more_parts parts part separator = record { list = parts.list ++ record { part = part.tree; separator = separator } ∷ []; height = max parts.height part.height }

abbrev pub more_operands : {T : Type 0} → Operands T → Option Item → Part T → Option Operator → Operands T
more_operands operands minus part operator =
    record { list = operands.list ++ record { minus = minus; part = part.tree; operator = operator } ∷ []; height = max operands.height part.height }
