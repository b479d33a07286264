-- The whole grammar (Haskell 98 Report, chapter 9): which trees are trees of it, how deep they nest, and what
-- it is for a tree to yield items.
use Rattle.std.specs.Prelude.{ℕ, zero, suc, ◌≡◌, ◌++◌, List, Option, Some, None}
use Rattle.std.specs.List.{AllByRecursion}
use lib.Chars.{codes}
use Rattle.hr_base.specs.declared.lexeme.Class.{Class}
use Rattle.hr_base.specs.declared.lexeme.Items.{Items}
use Rattle.hr_tree.specs.declared.lists.Block.{Block}
use Rattle.hr_tree.specs.declared.lists.Piece.{Piece}
use Rattle.hr_tree.specs.declared.expressions.Decl.{Decl}
use Rattle.hr_tree.specs.declared.expressions.Alt.{Alt}
use Rattle.hr_tree.specs.declared.modules.Header.{Header}
use Rattle.hr_tree.specs.declared.modules.Module.{Module}
use Rattle.hr_tree.specs.Yields.{items_of}
use Rattle.hr_grammar.specs.Words.{IsOf, IsWord}
use Rattle.hr_grammar.specs.Nodes.{Nodes, no_nodes, DeclPlace}
use Rattle.hr_grammar.specs.Types.{IsTyOver}
use Rattle.hr_grammar.specs.Patterns.{IsPatOver}
use Rattle.hr_grammar.specs.Expressions.{IsExpOver}
use Rattle.hr_grammar.specs.Declarations.{IsDeclOver, IsAltOver}
use Rattle.hr_grammar.specs.Imports.{AreExports}
use Rattle.hr_grammar.specs.Blocks.{IsPiece, AreBraced}

-- a block of declarations; in a module's body imports come before the other parts
abbrev pub AreDeclarationsOver : Nodes → DeclPlace → Block Decl → Type 0
AreDeclarationsOver below DeclPlace.Top block =
    AreBraced block.layout block.pieces × ((imports others : List (Piece Decl)) × (block.pieces ≡ imports ++ others)
    × AllByRecursion (IsPiece (below.decl DeclPlace.First)) imports × AllByRecursion (IsPiece (below.decl DeclPlace.Top)) others)
AreDeclarationsOver below place block = AreBraced block.layout block.pieces × AllByRecursion (IsPiece (below.decl place)) block.pieces

abbrev pub AreAlternativesOver : Nodes → Block Alt → Type 0
AreAlternativesOver below block = AreBraced block.layout block.pieces × AllByRecursion (IsPiece below.alt) block.pieces

-- the nodes that stand on some level and have fewer than so many levels below them: a declaration, an
-- expression, a pattern, a type, an alternative and a block are one level each
abbrev pub nodes : ℕ → Nodes
nodes zero = no_nodes
nodes (suc levels) = record {
  ty = IsTyOver (nodes levels);
  pat = IsPatOver (nodes levels);
  exp = IsExpOver (nodes levels);
  decl = IsDeclOver (nodes levels);
  alt = IsAltOver (nodes levels);
  declarations = AreDeclarationsOver (nodes levels);
  alternatives = AreAlternativesOver (nodes levels);
}

abbrev pub IsHeader : Option Header → Type 0
IsHeader None = Unit {0}
IsHeader (Some header) =
    IsWord (codes "module") header.word × (IsOf Class.ConId header.name × (AreExports header.exports × IsWord (codes "where") header.opening))

-- a module of the grammar with at most so many levels of nodes below it
abbrev pub IsModule : ℕ → Module → Type 0
IsModule levels tree = IsHeader tree.header × (nodes levels).declarations DeclPlace.Top tree.body

-- the greatest nesting of a node
abbrev pub nesting_limit : ℕ
nesting_limit = 256

-- the tree is one of the grammar, and its lexemes from left to right, with their trivia, are the items
pub record Yields (tree : Module) (items : Items) : Type 0 where
  pub grammar : IsModule nesting_limit tree
  pub items_are : items_of tree ≡ items
