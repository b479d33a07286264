-- What it is for finders to match readings, category by category.
use Rattle.std.proofs.Common.{◌≤◌, ℕ, List, length}
use Rattle.hr_base.specs.declared.lexeme.Ending.{Ending}
use Rattle.hr_rules.specs.declared.block.Placed.{Placed}
use Rattle.hr_tree.specs.declared.lists.Block.{Block}
use Rattle.hr_tree.specs.declared.expressions.Exp.{Exp}
use Rattle.hr_tree.specs.declared.expressions.Decl.{Decl}
use Rattle.hr_tree.specs.declared.expressions.Alt.{Alt}
use Rattle.hr_grammar.specs.Nodes.{Colons, TyPlace, PatPlace, ExpPlace, DeclPlace}
use Rattle.hr_grammar_cases.specs.Derivations.{Derivations}
use Rattle.hr_grammar_finder_laws.specs.Finders.{Finders}
use Rattle.hr_grammar_finder_laws.proofs.Ways.{Matches}
use Rattle.hr_grammar_finder_laws.proofs.Lists.{Shrinks}

pub record AllMatch (read : Derivations) (found : Finders) : Type 0 where
  pub ty : (n : ℕ) (place : TyPlace) → Matches (read.ty n place) (found.ty n place)
  pub pat : (n : ℕ) (place : PatPlace) → Matches (read.pat n place) (found.pat n place)
  pub exp : (n : ℕ) (free : Colons) (place : ExpPlace) → Matches (λ (p : Exp × Ending). read.exp n free place p.0 p.1) (found.exp n free place)
  pub decl : (n : ℕ) (place : DeclPlace) → Matches (λ (p : Decl × Ending). read.decl n place p.0 p.1) (found.decl n place)
  pub alt : (n : ℕ) → Matches (λ (p : Alt × Ending). read.alt n p.0 p.1) (found.alt n)
  pub declarations : (m : ℕ) (place : DeclPlace) → Matches (read.declarations m place) (found.declarations m place)
  pub alternatives : (m : ℕ) → Matches (read.alternatives m) (found.alternatives m)

-- what is read takes a lexeme or more, but for blocks, which may be empty
pub record AllShrink (read : Derivations) : Type 0 where
  pub ty : (n : ℕ) (place : TyPlace) → Shrinks (read.ty n place)
  pub pat : (n : ℕ) (place : PatPlace) → Shrinks (read.pat n place)
  pub exp : (n : ℕ) (free : Colons) (place : ExpPlace) → Shrinks (λ (p : Exp × Ending). read.exp n free place p.0 p.1)
  pub decl : (n : ℕ) (place : DeclPlace) → Shrinks (λ (p : Decl × Ending). read.decl n place p.0 p.1)
  pub alt : (n : ℕ) → Shrinks (λ (p : Alt × Ending). read.alt n p.0 p.1)
  pub declarations : (m : ℕ) (place : DeclPlace) (block : Block Decl) (ts us : List Placed) → read.declarations m place block ts us → length us ≤ length ts
  pub alternatives : (m : ℕ) (block : Block Alt) (ts us : List Placed) → read.alternatives m block ts us → length us ≤ length ts

-- a level: how it is read, and what is found
pub record Level : Type 1 where
  pub read : Derivations
  pub found : Finders
  pub each : AllMatch read found
  pub less : AllShrink read
