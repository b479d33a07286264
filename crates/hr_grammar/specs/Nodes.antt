-- The places of the grammar, and what may stand at them. A production is said over the nodes that stand
-- one level deeper, so nothing here goes in a circle.
use Rattle.hr_tree.specs.declared.types.Ty.{Ty}
use Rattle.hr_tree.specs.declared.patterns.Pat.{Pat}
use Rattle.hr_tree.specs.declared.expressions.Exp.{Exp}
use Rattle.hr_tree.specs.declared.expressions.Decl.{Decl}
use Rattle.hr_tree.specs.declared.expressions.Alt.{Alt}
use Rattle.hr_tree.specs.declared.lists.Block.{Block}

-- of types: an atomic type; the left side of an arrow, or either side of a constructor's operator; any type
pub data TyPlace : Type 0 where
  Atomic : TyPlace
  Applied : TyPlace
  Whole : TyPlace

-- of patterns: an atomic pattern, an operand, any pattern
pub data PatPlace : Type 0 where
  Atomic : PatPlace
  Operand : PatPlace
  Whole : PatPlace

-- of expressions: an atom; an operand that others follow; the last operand; a sequence that `::` follows; any
-- other sequence; any expression
pub data ExpPlace : Type 0 where
  Atom : ExpPlace
  Operand : ExpPlace
  LastOperand : ExpPlace
  Annotated : ExpPlace
  Sequence : ExpPlace
  Whole : ExpPlace

-- of declarations: before the other parts of a module's body, in it, or behind `let` and `where`
pub data DeclPlace : Type 0 where
  First : DeclPlace
  Top : DeclPlace
  Local : DeclPlace

-- whether `::` may stand in an expression outside of brackets and blocks: in a guard it may not
pub data Colons : Type 0 where
  Allowed : Colons
  Barred : Colons

-- what may stand where
pub record Nodes : Type 1 where
  pub ty : TyPlace → Ty → Type 0
  pub pat : PatPlace → Pat → Type 0
  pub exp : Colons → ExpPlace → Exp → Type 0
  pub decl : DeclPlace → Decl → Type 0
  pub alt : Alt → Type 0
  pub declarations : DeclPlace → Block Decl → Type 0
  pub alternatives : Block Alt → Type 0

-- where no level is left, nothing may stand
abbrev pub no_nodes : Nodes
no_nodes = record {
  ty = λ place ty. ⊥;
  pat = λ place pat. ⊥;
  exp = λ free place exp. ⊥;
  decl = λ place decl. ⊥;
  alt = λ alt. ⊥;
  declarations = λ place block. ⊥;
  alternatives = λ block. ⊥;
}
