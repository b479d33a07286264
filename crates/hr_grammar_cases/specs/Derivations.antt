-- The places of the relation. A production is said over the readings one level deeper, so nothing here goes in a
-- circle.
use Rattle.std.specs.Prelude.{ℕ}
use Rattle.hr_base.specs.declared.lexeme.Ending.{Ending}
use Rattle.hr_tree.specs.declared.types.Ty.{Ty}
use Rattle.hr_tree.specs.declared.patterns.Pat.{Pat}
use Rattle.hr_tree.specs.declared.expressions.Exp.{Exp}
use Rattle.hr_tree.specs.declared.expressions.Decl.{Decl}
use Rattle.hr_tree.specs.declared.expressions.Alt.{Alt}
use Rattle.hr_tree.specs.declared.lists.Block.{Block}
use Rattle.hr_grammar.specs.Nodes.{Colons, TyPlace, PatPlace, ExpPlace, DeclPlace}
use Rattle.hr_grammar_cases.specs.Readings.{Reading, never}

-- how a tree may be read at its place: in the block at a column, an expression and a part of a block with their
-- ending. Of a block the column is that of the block round it
pub record Derivations : Type 1 where
  pub ty : ℕ → TyPlace → Ty → Reading
  pub pat : ℕ → PatPlace → Pat → Reading
  pub exp : ℕ → Colons → ExpPlace → Exp → Ending → Reading
  pub decl : ℕ → DeclPlace → Decl → Ending → Reading
  pub alt : ℕ → Alt → Ending → Reading
  pub declarations : ℕ → DeclPlace → Block Decl → Reading
  pub alternatives : ℕ → Block Alt → Reading

-- where no level is left, nothing is read
abbrev pub no_derivations : Derivations
no_derivations = record {
  ty = λ n place ty. never;
  pat = λ n place pat. never;
  exp = λ n free place exp ending. never;
  decl = λ n place decl ending. never;
  alt = λ n alt ending. never;
  declarations = λ n place block. never;
  alternatives = λ n block. never;
}
