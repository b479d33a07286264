-- Constructors that begin with a bracket, as types name them.
use Rattle.std.proofs.Common.{◌≡◌, Result, Ok, Err, IfOk, subst}
use Rattle.hr_layout.specs.Standing.{Standing}
use Rattle.hr_base.specs.declared.lexeme.Item.{Item}
use Rattle.hr_tree.specs.declared.names.Constructor.{Constructor}
use Rattle.hr_tree.specs.declared.types.Ty.{Ty}
use Rattle.hr_tree.specs.Names.{constructor_items}
use Rattle.hr_grammar.specs.Spelled.{IsTypeConstructor}
use Rattle.hr_grammar.specs.Nodes.{TyPlace}
use Rattle.hr_parse_lexeme.specs.declared.mark.Mark.{Mark}
use Rattle.hr_parse_lexeme.specs.declared.names.Bracket.{Bracket}
use Rattle.hr_parse_lexeme.specs.declared.nesting.Measured.{Measured}
use Rattle.hr_parse_lexeme.specs.declared.stop.Stop.{Stop}
use Rattle.hr_parse_lexeme.specs.Marks.{IsMark}
use Rattle.hr_parse_lexeme.specs.Names.{IsNameless, Opens}
use Rattle.hr_parse_lexeme.specs.Reads.{Takes, Spells}
use Rattle.hr_parse_lexeme.proofs.Phrases.{spells_as}
use Rattle.hr_parse_type.specs.declared.nodes.Head.{Head}
use Rattle.hr_parse_type.specs.Heads.{OpensType, ReadsHead, ReadsTy}

pub names_type : (named : Constructor) → IsNameless named → IsTypeConstructor named
names_type (Constructor.Unit left right) h = h
names_type (Constructor.EmptyList left right) h = h
names_type (Constructor.Tuple left commas right) h = h
names_type (Constructor.Name name) h = elim h [ ]
names_type (Constructor.Symbol left symbol right) h = elim h [ ]

opens_type : (mark : Mark) (bracket : Bracket) (a b : Standing) → Opens mark bracket a b → OpensType mark bracket a b
opens_type mark (Bracket.Constructor named) a b h = spells_as (names_type named) h
opens_type mark (Bracket.Open left) a b h = h

pub opens_types : (mark : Mark) (result : Result Bracket Stop) (a b : Standing) → IfOk result (λ bracket. Opens mark bracket a b) → IfOk result (λ bracket. OpensType mark bracket a b)
opens_types mark (Ok bracket) a b h = opens_type mark bracket a b h
opens_types mark (Err stop) a b h = tt

-- what is read behind a bracket, with the bracket
pub behind : (mark : Mark) (bracket : Bracket) (result : Result Head Stop) (a b c : Standing) → IfOk result (λ head. (before : Standing) → OpensType mark bracket before b → ReadsHead head before c)
    → OpensType mark bracket a b → IfOk result (λ head. ReadsHead head a c)
behind mark bracket (Ok head) a b c h p = h a p
behind mark bracket (Err stop) a b c h p = tt

-- by what a bracket turned out to be
pub named_at : (mark : Mark) {bracket : Bracket} {named : Constructor} {a b : Standing} → bracket ≡ Bracket.Constructor named → OpensType mark bracket a b → Spells IsTypeConstructor constructor_items named a b
named_at mark {a = a} {b} e h = subst (λ t. OpensType mark t a b) e h

pub open_at : (mark : Mark) {bracket : Bracket} {left : Item} {a b : Standing} → bracket ≡ Bracket.Open left → OpensType mark bracket a b → Takes (IsMark mark) left a b
open_at mark {a = a} {b} e h = subst (λ t. OpensType mark t a b) e h

-- by what a head turned out to be
pub named_head : {head : Head} {named : Constructor} {a b : Standing} → head ≡ Head.Named named → ReadsHead head a b → Spells IsTypeConstructor constructor_items named a b
named_head {a = a} {b} e h = subst (λ t. ReadsHead t a b) e h

pub atom_head : {head : Head} {ty : Measured Ty} {a b : Standing} → head ≡ Head.Atom ty → ReadsHead head a b → ReadsTy TyPlace.Atomic ty a b
atom_head {a = a} {b} e h = subst (λ t. ReadsHead t a b) e h
