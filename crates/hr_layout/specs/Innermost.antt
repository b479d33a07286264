-- The innermost of the blocks that are open.
use Rattle.std.specs.Prelude.{List, [], ◌∷◌, Option, Some, None}
use Rattle.hr_rules.specs.declared.block.OpenBlock.{OpenBlock}

abbrev pub innermost : List OpenBlock → Option OpenBlock
innermost [] = None
innermost (block ∷ outer) = Some block
