-- Parts of blocks that the parser has read.
use Rattle.std.specs.Prelude.{ℕ, ◌≡◌, true, List, []}
use Rattle.hr_layout.specs.Standing.{Standing}
use Rattle.hr_tree.specs.declared.lists.Listed.{Listed}
use Rattle.hr_tree.specs.declared.declarations.Construction.{Construction}
use Rattle.hr_tree.specs.declared.expressions.Decl.{Decl}
use Rattle.hr_grammar.specs.Words.{IsBar}
use Rattle.hr_grammar.specs.Nodes.{DeclPlace}
use Rattle.hr_grammar.specs.Declarations.{takes_local}
use Rattle.hr_grammar_cases.specs.Declarations.{construction_reading, new_construction_reading}
use Rattle.hr_grammar_cases.specs.Readings.{one, separated}
use Rattle.hr_parse_lexeme.specs.declared.nesting.Measured.{Measured}
use Rattle.hr_parse_lexeme.specs.Reads.{Consumes}
use Rattle.hr_parse_declaration.specs.declared.stated.Stated.{Stated}

-- a declaration at its place, on each level from its height on
abbrev pub ReadsDecl : DeclPlace → Stated Decl → Standing → Standing → Type 0
ReadsDecl place stated = Consumes stated.height (λ below n. below.decl n place stated.tree stated.ending)

-- a declaration of values, wherever one may stand
abbrev pub ReadsLocal : Stated Decl → Standing → Standing → Type 0
ReadsLocal stated before after = (place : DeclPlace) → takes_local place ≡ true → ReadsDecl place stated before after

abbrev pub ReadsConstruction : Measured Construction → Standing → Standing → Type 0
ReadsConstruction construction = Consumes construction.height (λ below n. construction_reading below n construction.tree)

-- of a `newtype`
abbrev pub ReadsNew : Measured Construction → Standing → Standing → Type 0
ReadsNew construction = Consumes construction.height (λ below n. new_construction_reading below n construction.tree)

-- one or more, with bars between them
pub record ReadsConstructions (list : Measured (List (Listed Construction))) (before after : Standing) : Type 0 where
  pub reads : Consumes list.height (λ below n. separated (one n IsBar) (construction_reading below n) list.tree) before after
  pub some : list.tree ≡ [] → ⊥
