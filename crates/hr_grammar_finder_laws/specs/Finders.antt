-- The categories, each with its finder. A production is said over the finders one level deeper, as in the relation.
use Rattle.std.specs.Prelude.{ℕ}
use Rattle.hr_base.specs.declared.lexeme.Ending.{Ending}
use Rattle.hr_tree.specs.declared.types.Ty.{Ty}
use Rattle.hr_tree.specs.declared.patterns.Pat.{Pat}
use Rattle.hr_tree.specs.declared.expressions.Exp.{Exp}
use Rattle.hr_tree.specs.declared.expressions.Decl.{Decl}
use Rattle.hr_tree.specs.declared.expressions.Alt.{Alt}
use Rattle.hr_tree.specs.declared.lists.Block.{Block}
use Rattle.hr_grammar.specs.Nodes.{Colons, TyPlace, PatPlace, ExpPlace, DeclPlace}
use Rattle.hr_grammar_finder_laws.specs.Ways.{Finder, none}

-- an expression and a part of a block are found with their ending
pub record Finders : Type 0 where
  pub ty : ℕ → TyPlace → Finder Ty
  pub pat : ℕ → PatPlace → Finder Pat
  pub exp : ℕ → Colons → ExpPlace → Finder (Exp × Ending)
  pub decl : ℕ → DeclPlace → Finder (Decl × Ending)
  pub alt : ℕ → Finder (Alt × Ending)
  pub declarations : ℕ → DeclPlace → Finder (Block Decl)
  pub alternatives : ℕ → Finder (Block Alt)

-- where no level is left, nothing is found
abbrev pub no_finders : Finders
no_finders = record {
  ty = λ n place. none;
  pat = λ n place. none;
  exp = λ n free place. none;
  decl = λ n place. none;
  alt = λ n. none;
  declarations = λ n place. none;
  alternatives = λ n. none;
}
