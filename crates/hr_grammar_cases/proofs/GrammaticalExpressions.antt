-- Expressions that are read are those of the grammar.
use Rattle.std.proofs.Common.{ℕ, List, [], ◌∷◌}
use Rattle.hr_base.specs.declared.lexeme.Ending.{Ending}
use Rattle.hr_rules.specs.declared.block.Placed.{Placed}
use Rattle.hr_tree.specs.declared.lists.Operand.{Operand}
use Rattle.hr_tree.specs.declared.expressions.Exp.{Exp}
use Rattle.hr_tree.specs.declared.expressions.Decl.{Decl}
use Rattle.hr_tree.specs.declared.expressions.Alt.{Alt}
use Rattle.hr_tree.specs.declared.expressions.Qualifier.{Qualifier, out-Qualifier}
use Rattle.hr_tree.specs.declared.expressions.Decl.TheOpen.{Exp-F, Qualifier-F}
use Rattle.hr_grammar.specs.Words.{IsMinus, IsComma}
use Rattle.hr_grammar.specs.Spelled.{IsOperator}
use Rattle.hr_grammar.specs.Nodes.{Nodes, Colons, TyPlace, PatPlace, ExpPlace, DeclPlace}
use Rattle.hr_grammar.specs.Expressions.{last_operand, AreExpOperands, QualifierProduction, IsQualifierOver, ExpProduction}
use Rattle.hr_grammar_cases.specs.Readings.{inside}
use Rattle.hr_grammar_cases.specs.Derivations.{Derivations}
use Rattle.hr_grammar_cases.specs.Expressions.{whole, exp_operands, qualifier_reading, qualifier_over, atom_reading, exp_reading}
use Rattle.hr_grammar_cases.specs.Laws.{AllAre}
use Rattle.hr_grammar_cases.proofs.Grammatical.{Are, maybe_is, operator_is, in_turn_are, separated_are}

whole_is : (read : Derivations) (allowed : Nodes) → AllAre read allowed → (n : ℕ) (free : Colons) → Are (whole read n free) (allowed.exp free ExpPlace.Whole)
whole_is read allowed each n free part ts us r = each.exp n free ExpPlace.Whole part r.0 ts us r.1

exp_operands_are : (read : Derivations) (allowed : Nodes) → AllAre read allowed → (n : ℕ) (free : Colons) (last : ExpPlace) (operands : List (Operand Exp)) (ending : Ending) (ts us : List Placed)
    → exp_operands read n free last operands ending ts us → AreExpOperands allowed free last operands
exp_operands_are read allowed each n free last [] ending ts us r = r
exp_operands_are read allowed each n free last (operand ∷ []) ending ts us r =
    (maybe_is n IsMinus operand.minus ts r.1.0 r.1.1, each.exp n free last operand.part ending r.1.0 us r.1.2, r.0)
exp_operands_are read allowed each n free last (operand ∷ (next ∷ rest)) ending ts us r = (
  maybe_is n IsMinus operand.minus ts r.0 r.1,
  each.exp n free ExpPlace.Operand operand.part r.2.1.0 r.0 r.2.0 r.2.1.1,
  operator_is n IsOperator operand.operator r.2.0 r.2.2.0 r.2.2.1,
  exp_operands_are read allowed each n free last (next ∷ rest) ending r.2.2.0 us r.2.2.2,
)

qualifier_layer_is : (read : Derivations) (allowed : Nodes) → AllAre read allowed → (n : ℕ) (layer : Qualifier-F Decl Exp Qualifier Alt) (ts us : List Placed)
    → qualifier_reading read n layer ts us → QualifierProduction allowed layer
qualifier_layer_is read allowed each n (Qualifier-F.Generator pattern arrow part) ts us r =
    (each.pat n PatPlace.Whole pattern ts r.0 r.1, r.2.1.0, whole_is read allowed each n Colons.Allowed part r.2.0 us r.2.2)
qualifier_layer_is read allowed each n (Qualifier-F.Locals word block) ts us r = (r.1.0, each.declarations n DeclPlace.Local block r.0 us r.2)
qualifier_layer_is read allowed each n (Qualifier-F.Test part) ts us r = whole_is read allowed each n Colons.Allowed part ts us r

qualifier_is : (read : Derivations) (allowed : Nodes) → AllAre read allowed → (n : ℕ) → Are (qualifier_over read n) (IsQualifierOver allowed)
qualifier_is read allowed each n qualifier ts us r = qualifier_layer_is read allowed each n (out-Qualifier qualifier) ts us r

atom_is : (read : Derivations) (allowed : Nodes) → AllAre read allowed → (n : ℕ) (free : Colons) (place : ExpPlace) (layer : Exp-F Decl Exp Qualifier Alt) (ts us : List Placed)
    → atom_reading read n layer ts us → ExpProduction allowed free place layer
atom_is read allowed each n free place (Exp-F.Variable used) ts us r =
    r.0
atom_is read allowed each n free place (Exp-F.Constructor named) ts us r =
    r.0
atom_is read allowed each n free place (Exp-F.Literal literal) ts us r =
    r.0
atom_is read allowed each n free place (Exp-F.Group left part right) ts us r =
    (r.1.0, whole_is read allowed each n Colons.Allowed part r.0 r.2.0 r.2.1, r.2.2.0)
atom_is read allowed each n free place (Exp-F.Tuple left parts right) ts us r =
    (r.1.1.0, separated_are n IsComma (whole read n Colons.Allowed) (allowed.exp Colons.Allowed ExpPlace.Whole) (whole_is read allowed each n Colons.Allowed) parts r.1.0 r.1.2.0 r.1.2.1, r.0, r.1.2.2.0)
atom_is read allowed each n free place (Exp-F.List left parts right) ts us r =
    (r.1.1.0, separated_are n IsComma (whole read n Colons.Allowed) (allowed.exp Colons.Allowed ExpPlace.Whole) (whole_is read allowed each n Colons.Allowed) parts r.1.0 r.1.2.0 r.1.2.1, r.0, r.1.2.2.0)
atom_is read allowed each n free place (Exp-F.From left first dots right) ts us r =
    (r.1.0, whole_is read allowed each n Colons.Allowed first r.0 r.2.0 r.2.1, r.2.2.1.0, r.2.2.2.0)
atom_is read allowed each n free place (Exp-F.FromThen left first comma second dots right) ts us r =
    (r.1.0, whole_is read allowed each n Colons.Allowed first r.0 r.2.0 r.2.1, r.2.2.1.0, whole_is read allowed each n Colons.Allowed second r.2.2.0 r.2.2.2.0 r.2.2.2.1, r.2.2.2.2.1.0, r.2.2.2.2.2.0)
atom_is read allowed each n free place (Exp-F.FromTo left first dots last right) ts us r =
    (r.1.0, whole_is read allowed each n Colons.Allowed first r.0 r.2.0 r.2.1, r.2.2.1.0, whole_is read allowed each n Colons.Allowed last r.2.2.0 r.2.2.2.0 r.2.2.2.1, r.2.2.2.2.0)
atom_is read allowed each n free place (Exp-F.FromThenTo left first comma second dots last right) ts us r =
    (r.1.0, whole_is read allowed each n Colons.Allowed first r.0 r.2.0 r.2.1, r.2.2.1.0, whole_is read allowed each n Colons.Allowed second r.2.2.0 r.2.2.2.0 r.2.2.2.1, r.2.2.2.2.1.0, whole_is read allowed each n Colons.Allowed last r.2.2.2.2.0 r.2.2.2.2.2.0 r.2.2.2.2.2.1, r.2.2.2.2.2.2.0)
atom_is read allowed each n free place (Exp-F.Comprehension left part bar qualifiers right) ts us r = (
  r.1.1.0,
  whole_is read allowed each n Colons.Allowed part r.1.0 r.1.2.0 r.1.2.1,
  r.1.2.2.1.0,
  separated_are n IsComma (qualifier_over read n) (IsQualifierOver allowed) (qualifier_is read allowed each n) qualifiers r.1.2.2.0 r.1.2.2.2.0 r.1.2.2.2.1,
  r.0,
  r.1.2.2.2.2.0,
)
atom_is read allowed each n free place (Exp-F.LeftSection left part operator right) ts us r =
    (r.1.0, each.exp n Colons.Allowed ExpPlace.Sequence part r.2.1.0 r.0 r.2.0 r.2.1.1, r.2.2.1.0, r.2.2.2.0)
atom_is read allowed each n free place (Exp-F.RightSection left operator part right) ts us r =
    (r.1.1.0, r.1.2.1.0, r.0, each.exp n Colons.Allowed ExpPlace.Sequence part r.1.2.2.1.0 r.1.2.0 r.1.2.2.0 r.1.2.2.1.1, r.1.2.2.2.0)
atom_is read allowed each n free place (Exp-F.Apply atoms) ts us r = elim r [ ]
atom_is read allowed each n free place (Exp-F.Infix operands) ts us r = elim r [ ]
atom_is read allowed each n free place (Exp-F.Annotated part colons ty) ts us r = elim r [ ]
atom_is read allowed each n free place (Exp-F.Lambda mark patterns arrow body) ts us r = elim r [ ]
atom_is read allowed each n free place (Exp-F.Let word block in_word body) ts us r = elim r [ ]
atom_is read allowed each n free place (Exp-F.If word test then_word first else_word second) ts us r = elim r [ ]
atom_is read allowed each n free place (Exp-F.Case word part of_word block) ts us r = elim r [ ]
atom_is read allowed each n free place (Exp-F.Fields part left fields right) ts us r = elim r [ ]

pub exp_is : (read : Derivations) (allowed : Nodes) → AllAre read allowed → (n : ℕ) (free : Colons) (place : ExpPlace) (layer : Exp-F Decl Exp Qualifier Alt) (ending : Ending) (ts us : List Placed)
    → exp_reading read n free place layer ending ts us → ExpProduction allowed free place layer
exp_is read allowed each n free place (Exp-F.Apply atoms) ending ts us r =
    (r.0.1.0, r.0.1.1, in_turn_are (λ atom. inside (read.exp n free ExpPlace.Atom atom)) (allowed.exp free ExpPlace.Atom) (λ x vs ws h. each.exp n free ExpPlace.Atom x h.0 vs ws h.1) atoms ts us r.1)
exp_is read allowed each n free place (Exp-F.Case word part of_word block) ending ts us r =
    (r.0.1, r.1.1.0, whole_is read allowed each n free part r.1.0 r.1.2.0 r.1.2.1, r.1.2.2.1.0, each.alternatives n block r.1.2.2.0 us r.1.2.2.2)
exp_is read allowed each n free place (Exp-F.Lambda mark patterns arrow body) ending ts us r =
    (r.0.0, r.1.1.0, r.0.1, in_turn_are _ (allowed.pat PatPlace.Atomic) (each.pat n PatPlace.Atomic) patterns r.1.0 r.1.2.0 r.1.2.1, r.1.2.2.1.0, each.exp n free ExpPlace.Whole body ending r.1.2.2.0 us r.1.2.2.2)
exp_is read allowed each n free place (Exp-F.Let word block in_word body) ending ts us r =
    (r.0, r.1.1.0, each.declarations n DeclPlace.Local block r.1.0 r.1.2.0 r.1.2.1, r.1.2.2.1.0, each.exp n free ExpPlace.Whole body ending r.1.2.2.0 us r.1.2.2.2)
exp_is read allowed each n free place (Exp-F.If word test then_word first else_word second) ending ts us r =
    (r.0, r.1.1.0, whole_is read allowed each n free test r.1.0 r.1.2.0 r.1.2.1, r.1.2.2.1.0, whole_is read allowed each n free first r.1.2.2.0 r.1.2.2.2.0 r.1.2.2.2.1, r.1.2.2.2.2.1.0, each.exp n free ExpPlace.Whole second ending r.1.2.2.2.2.0 us r.1.2.2.2.2.2)
exp_is read allowed each n free place (Exp-F.Infix operands) ending ts us r =
    (r.0.0, r.0.1, exp_operands_are read allowed each n free (last_operand place) operands ending ts us r.1)
exp_is read allowed each n free place (Exp-F.Annotated part colons ty) ending ts us r =
    (r.0.1.0, r.0.1.1, each.exp n Colons.Allowed ExpPlace.Annotated part r.1.1.0 ts r.1.0 r.1.1.1, r.1.2.1.0, each.ty n TyPlace.Whole ty r.1.2.0 us r.1.2.2)
exp_is read allowed each n free place (Exp-F.Fields part left fields right) ending ts us r = r
exp_is read allowed each n free place (Exp-F.Variable used) ending ts us r = atom_is read allowed each n free place (Exp-F.Variable used) ts us r.1
exp_is read allowed each n free place (Exp-F.Constructor named) ending ts us r = atom_is read allowed each n free place (Exp-F.Constructor named) ts us r.1
exp_is read allowed each n free place (Exp-F.Literal literal) ending ts us r = atom_is read allowed each n free place (Exp-F.Literal literal) ts us r.1
exp_is read allowed each n free place (Exp-F.Group left part right) ending ts us r = atom_is read allowed each n free place (Exp-F.Group left part right) ts us r.1
exp_is read allowed each n free place (Exp-F.Tuple left parts right) ending ts us r = atom_is read allowed each n free place (Exp-F.Tuple left parts right) ts us r.1
exp_is read allowed each n free place (Exp-F.List left parts right) ending ts us r = atom_is read allowed each n free place (Exp-F.List left parts right) ts us r.1
exp_is read allowed each n free place (Exp-F.From left first dots right) ending ts us r = atom_is read allowed each n free place (Exp-F.From left first dots right) ts us r.1
exp_is read allowed each n free place (Exp-F.FromThen left first comma second dots right) ending ts us r = atom_is read allowed each n free place (Exp-F.FromThen left first comma second dots right) ts us r.1
exp_is read allowed each n free place (Exp-F.FromTo left first dots last right) ending ts us r = atom_is read allowed each n free place (Exp-F.FromTo left first dots last right) ts us r.1
exp_is read allowed each n free place (Exp-F.FromThenTo left first comma second dots last right) ending ts us r = atom_is read allowed each n free place (Exp-F.FromThenTo left first comma second dots last right) ts us r.1
exp_is read allowed each n free place (Exp-F.Comprehension left part bar qualifiers right) ending ts us r = atom_is read allowed each n free place (Exp-F.Comprehension left part bar qualifiers right) ts us r.1
exp_is read allowed each n free place (Exp-F.LeftSection left part operator right) ending ts us r = atom_is read allowed each n free place (Exp-F.LeftSection left part operator right) ts us r.1
exp_is read allowed each n free place (Exp-F.RightSection left operator part right) ending ts us r = atom_is read allowed each n free place (Exp-F.RightSection left operator part right) ts us r.1
