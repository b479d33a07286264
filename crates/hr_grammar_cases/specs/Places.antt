-- What is read at a place of the grammar is read at each place where more may stand.
use Rattle.std.specs.Prelude.{ℕ}
use Rattle.hr_base.specs.declared.lexeme.Ending.{Ending}
use Rattle.hr_tree.specs.declared.types.Ty.{Ty}
use Rattle.hr_tree.specs.declared.patterns.Pat.{Pat}
use Rattle.hr_tree.specs.declared.expressions.Exp.{Exp}
use Rattle.hr_tree.specs.declared.expressions.Decl.{Decl}
use Rattle.hr_grammar.specs.Nodes.{Colons, TyPlace, PatPlace, ExpPlace, DeclPlace}
use Rattle.hr_grammar_cases.specs.Derivations.{Derivations}
use Rattle.hr_grammar_cases.specs.Modules.{derivations}
use Rattle.hr_grammar_cases.specs.Widening.{Widens}

-- an expression at one place, and at another
abbrev pub ExpsWiden : Derivations → ExpPlace → ExpPlace → Type 0
ExpsWiden below place wider = (n : ℕ) (free : Colons) (exp : Exp) (ending : Ending) → Widens (below.exp n free place exp ending) (below.exp n free wider exp ending)

pub record PlacesWiden (below : Derivations) : Type 0 where
  pub atomic_types : (n : ℕ) (ty : Ty) → Widens (below.ty n TyPlace.Atomic ty) (below.ty n TyPlace.Applied ty)
  pub applied_types : (n : ℕ) (ty : Ty) → Widens (below.ty n TyPlace.Applied ty) (below.ty n TyPlace.Whole ty)
  pub atomic_patterns : (n : ℕ) (pat : Pat) → Widens (below.pat n PatPlace.Atomic pat) (below.pat n PatPlace.Operand pat)
  pub operand_patterns : (n : ℕ) (pat : Pat) → Widens (below.pat n PatPlace.Operand pat) (below.pat n PatPlace.Whole pat)
  pub atoms : ExpsWiden below ExpPlace.Atom ExpPlace.Operand
  pub operands : ExpsWiden below ExpPlace.Operand ExpPlace.LastOperand
  pub operands_annotated : ExpsWiden below ExpPlace.Operand ExpPlace.Annotated
  pub last_operands : ExpsWiden below ExpPlace.LastOperand ExpPlace.Sequence
  pub annotated : ExpsWiden below ExpPlace.Annotated ExpPlace.Sequence
  pub sequences : ExpsWiden below ExpPlace.Sequence ExpPlace.Whole
  -- where `::` may stand, what has none outside of brackets and blocks may stand too, and of an atom the mark says
  -- nothing
  pub barred : (n : ℕ) (place : ExpPlace) (exp : Exp) (ending : Ending) → Widens (below.exp n Colons.Barred place exp ending) (below.exp n Colons.Allowed place exp ending)
  pub atoms_anywhere : (n : ℕ) (free other : Colons) (exp : Exp) (ending : Ending) → Widens (below.exp n free ExpPlace.Atom exp ending) (below.exp n other ExpPlace.Atom exp ending)
  pub locals : (n : ℕ) (decl : Decl) (ending : Ending) → Widens (below.decl n DeclPlace.Local decl ending) (below.decl n DeclPlace.Top decl ending)

abbrev pub LevelsWidenPlaces : Type 0
LevelsWidenPlaces = (levels : ℕ) → PlacesWiden (derivations levels)
