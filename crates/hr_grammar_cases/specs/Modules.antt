-- The relation by cases, grammar and layout together, for the whole grammar: the levels, and modules.
use Rattle.std.specs.Prelude.{ℕ, zero, suc, ◌≡◌, Bool, true, false, List, []}
use Rattle.hr_base.specs.declared.lexeme.Item.{Item}
use Rattle.hr_rules.specs.declared.block.BlockKind.{BlockKind}
use Rattle.hr_rules.specs.Blocks.{placed_of}
use Rattle.hr_tree.specs.declared.lists.Block.{Block}
use Rattle.hr_tree.specs.declared.expressions.Decl.{Decl}
use Rattle.hr_tree.specs.declared.expressions.Alt.{Alt}
use Rattle.hr_tree.specs.declared.modules.Module.{Module}
use Rattle.hr_grammar.specs.Nodes.{DeclPlace}
use Rattle.hr_grammar_cases.specs.Readings.{Reading, never, ◌▷◌, given, maybe}
use Rattle.hr_grammar_cases.specs.Derivations.{Derivations, no_derivations}
use Rattle.hr_grammar_cases.specs.Types.{ty_over}
use Rattle.hr_grammar_cases.specs.Patterns.{pat_over}
use Rattle.hr_grammar_cases.specs.Blocks.{Parts, block_reading}
use Rattle.hr_grammar_cases.specs.Expressions.{exp_over}
use Rattle.hr_grammar_cases.specs.Declarations.{decl_over, alt_over}
use Rattle.hr_grammar_cases.specs.Imports.{header_reading}

-- in a module's body imports come before the other parts; a part of another block has the block's place
abbrev pub comes_behind : DeclPlace → DeclPlace → Bool
comes_behind DeclPlace.First DeclPlace.First = true
comes_behind DeclPlace.First DeclPlace.Top = true
comes_behind DeclPlace.Top DeclPlace.Top = true
comes_behind DeclPlace.Local DeclPlace.Local = true
comes_behind _ _ = false

abbrev pub decl_parts : Derivations → Parts Decl
decl_parts below n place next decl ending = given (comes_behind place next ≡ true) (below.decl n next decl ending)

-- the place of an alternative says nothing
abbrev pub alt_parts : Derivations → Parts Alt
alt_parts below n place next alt ending = given (next ≡ place) (below.alt n alt ending)

-- a block of declarations: no block has the place of imports alone
abbrev pub declarations_over : Derivations → ℕ → DeclPlace → Block Decl → Reading
declarations_over below m DeclPlace.First block = never
declarations_over below m DeclPlace.Top block = block_reading (decl_parts below) BlockKind.Body m DeclPlace.First block
declarations_over below m DeclPlace.Local block = block_reading (decl_parts below) BlockKind.Declarations m DeclPlace.Local block

abbrev pub alternatives_over : Derivations → ℕ → Block Alt → Reading
alternatives_over below m block = block_reading (alt_parts below) BlockKind.Alternatives m DeclPlace.Local block

-- the trees that are read on some level, with fewer than so many levels below them. The levels are those of the
-- grammar: a declaration, an expression, a pattern, a type, an alternative and a block are one level each
abbrev pub derivations : ℕ → Derivations
derivations zero = no_derivations
derivations (suc levels) = record {
  ty = ty_over (derivations levels);
  pat = pat_over (derivations levels);
  exp = exp_over (derivations levels);
  decl = decl_over (derivations levels);
  alt = alt_over (derivations levels);
  declarations = declarations_over (derivations levels);
  alternatives = alternatives_over (derivations levels);
}

abbrev pub module_reading : ℕ → Module → Reading
module_reading levels tree = maybe header_reading tree.header ▷ (derivations levels).declarations 0 DeclPlace.Top tree.body

-- the items are read as the tree, and none is left
abbrev pub Derives : ℕ → Module → List Item → Type 0
Derives levels tree items = module_reading levels tree (placed_of items) []
