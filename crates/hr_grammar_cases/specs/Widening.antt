-- What is read with so many levels of nodes is read with more.
use Rattle.std.specs.Prelude.{ℕ, ◌≤◌, List}
use Rattle.hr_base.specs.declared.lexeme.Ending.{Ending}
use Rattle.hr_base.specs.declared.lexeme.Item.{Item}
use Rattle.hr_rules.specs.declared.block.Placed.{Placed}
use Rattle.hr_tree.specs.declared.types.Ty.{Ty}
use Rattle.hr_tree.specs.declared.patterns.Pat.{Pat}
use Rattle.hr_tree.specs.declared.expressions.Exp.{Exp}
use Rattle.hr_tree.specs.declared.expressions.Decl.{Decl}
use Rattle.hr_tree.specs.declared.expressions.Alt.{Alt}
use Rattle.hr_tree.specs.declared.lists.Block.{Block}
use Rattle.hr_tree.specs.declared.modules.Module.{Module}
use Rattle.hr_grammar.specs.Nodes.{Colons, TyPlace, PatPlace, ExpPlace, DeclPlace}
use Rattle.hr_grammar_cases.specs.Readings.{Reading}
use Rattle.hr_grammar_cases.specs.Derivations.{Derivations}
use Rattle.hr_grammar_cases.specs.Modules.{derivations, Derives}

-- what one reading reads, another one reads too
pub record Widens (reading wider : Reading) : Type 0 where
  pub widens : (ts us : List Placed) → reading ts us → wider ts us

pub record AllWiden (below more : Derivations) : Type 0 where
  pub ty : (n : ℕ) (place : TyPlace) (ty : Ty) → Widens (below.ty n place ty) (more.ty n place ty)
  pub pat : (n : ℕ) (place : PatPlace) (pat : Pat) → Widens (below.pat n place pat) (more.pat n place pat)
  pub exp : (n : ℕ) (free : Colons) (place : ExpPlace) (exp : Exp) (ending : Ending) → Widens (below.exp n free place exp ending) (more.exp n free place exp ending)
  pub decl : (n : ℕ) (place : DeclPlace) (decl : Decl) (ending : Ending) → Widens (below.decl n place decl ending) (more.decl n place decl ending)
  pub alt : (n : ℕ) (alt : Alt) (ending : Ending) → Widens (below.alt n alt ending) (more.alt n alt ending)
  pub declarations : (m : ℕ) (place : DeclPlace) (block : Block Decl) → Widens (below.declarations m place block) (more.declarations m place block)
  pub alternatives : (m : ℕ) (block : Block Alt) → Widens (below.alternatives m block) (more.alternatives m block)

abbrev pub LevelsWiden : Type 0
LevelsWiden = (levels more : ℕ) → levels ≤ more → AllWiden (derivations levels) (derivations more)

abbrev pub ModulesWiden : Type 0
ModulesWiden = (levels more : ℕ) (tree : Module) (items : List Item) → levels ≤ more → Derives levels tree items → Derives more tree items
