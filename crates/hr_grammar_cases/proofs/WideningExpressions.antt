-- Types, patterns and expressions that are read with so many levels are read with more.
use Rattle.std.proofs.Common.{ℕ, List, [], ◌∷◌}
use Rattle.hr_base.specs.declared.lexeme.Ending.{Ending}
use Rattle.hr_tree.specs.declared.lists.Operand.{Operand}
use Rattle.hr_tree.specs.declared.types.Ty.{Ty}
use Rattle.hr_tree.specs.declared.types.Ty.TheOpen.{Ty-F}
use Rattle.hr_tree.specs.declared.patterns.Pat.{Pat}
use Rattle.hr_tree.specs.declared.patterns.Pat.TheOpen.{Pat-F}
use Rattle.hr_tree.specs.declared.expressions.Exp.{Exp}
use Rattle.hr_tree.specs.declared.expressions.Decl.{Decl}
use Rattle.hr_tree.specs.declared.expressions.Alt.{Alt}
use Rattle.hr_tree.specs.declared.expressions.Qualifier.{Qualifier, out-Qualifier}
use Rattle.hr_tree.specs.declared.expressions.Decl.TheOpen.{Exp-F, Qualifier-F}
use Rattle.hr_grammar.specs.Words.{IsComma}
use Rattle.hr_grammar.specs.Nodes.{Colons, TyPlace, PatPlace, ExpPlace, DeclPlace}
use Rattle.hr_grammar.specs.Expressions.{last_operand}
use Rattle.hr_grammar_cases.specs.Readings.{one}
use Rattle.hr_grammar_cases.specs.Derivations.{Derivations}
use Rattle.hr_grammar_cases.specs.Types.{ty_reading}
use Rattle.hr_grammar_cases.specs.Patterns.{pat_operands, pat_reading}
use Rattle.hr_grammar_cases.specs.Expressions.{whole, exp_operands, qualifier_reading, qualifier_over, atom_reading, exp_reading}
use Rattle.hr_grammar_cases.specs.Widening.{Widens, AllWiden}
use Rattle.hr_grammar_cases.proofs.Widening.{same_widens, then_widens, given_widens, inside_widens, in_turn_widens, separated_widens}

pub ty_widens : (below more : Derivations) → AllWiden below more → (n : ℕ) (place : TyPlace) (layer : Ty-F Ty) → Widens (ty_reading below n place layer) (ty_reading more n place layer)
ty_widens below more each n place (Ty-F.Variable name) = same_widens
ty_widens below more each n place (Ty-F.Constructor named) = same_widens
ty_widens below more each n place (Ty-F.Tuple left parts right) =
    given_widens _ (then_widens same_widens (then_widens (separated_widens (one n IsComma) _ _ (each.ty n TyPlace.Whole) parts) same_widens))
ty_widens below more each n place (Ty-F.List left part right) = then_widens same_widens (then_widens (each.ty n TyPlace.Whole part) same_widens)
ty_widens below more each n place (Ty-F.Group left part right) = then_widens same_widens (then_widens (each.ty n TyPlace.Whole part) same_widens)
ty_widens below more each n place (Ty-F.Apply named arguments) = given_widens _ (then_widens same_widens (in_turn_widens _ _ (each.ty n TyPlace.Atomic) arguments))
ty_widens below more each n place (Ty-F.Function from arrow to) = given_widens _ (then_widens (each.ty n TyPlace.Applied from) (then_widens same_widens (each.ty n TyPlace.Whole to)))

pub pat_operands_widen : (below more : Derivations) → AllWiden below more → (n : ℕ) (operands : List (Operand Pat)) → Widens (pat_operands below n operands) (pat_operands more n operands)
pat_operands_widen below more each n [] = same_widens
pat_operands_widen below more each n (operand ∷ []) = given_widens _ (each.pat n PatPlace.Operand operand.part)
pat_operands_widen below more each n (operand ∷ (next ∷ rest)) =
    given_widens _ (then_widens (each.pat n PatPlace.Operand operand.part) (then_widens same_widens (pat_operands_widen below more each n (next ∷ rest))))

pub pat_widens : (below more : Derivations) → AllWiden below more → (n : ℕ) (place : PatPlace) (layer : Pat-F Pat) → Widens (pat_reading below n place layer) (pat_reading more n place layer)
pat_widens below more each n place (Pat-F.Variable bound) = same_widens
pat_widens below more each n place (Pat-F.Wildcard word) = same_widens
pat_widens below more each n place (Pat-F.Literal literal) = same_widens
pat_widens below more each n place (Pat-F.Constructor named) = same_widens
pat_widens below more each n place (Pat-F.As bound mark part) = then_widens same_widens (then_widens same_widens (each.pat n PatPlace.Atomic part))
pat_widens below more each n place (Pat-F.Lazy mark part) = then_widens same_widens (each.pat n PatPlace.Atomic part)
pat_widens below more each n place (Pat-F.Tuple left parts right) =
    given_widens _ (then_widens same_widens (then_widens (separated_widens (one n IsComma) _ _ (each.pat n PatPlace.Whole) parts) same_widens))
pat_widens below more each n place (Pat-F.List left parts right) =
    given_widens _ (then_widens same_widens (then_widens (separated_widens (one n IsComma) _ _ (each.pat n PatPlace.Whole) parts) same_widens))
pat_widens below more each n place (Pat-F.Group left part right) = then_widens same_widens (then_widens (each.pat n PatPlace.Whole part) same_widens)
pat_widens below more each n place (Pat-F.Negative minus number) = same_widens
pat_widens below more each n place (Pat-F.Apply named arguments) = given_widens _ (then_widens same_widens (in_turn_widens _ _ (each.pat n PatPlace.Atomic) arguments))
pat_widens below more each n place (Pat-F.Infix operands) = given_widens _ (pat_operands_widen below more each n operands)
pat_widens below more each n place (Pat-F.Fields named left fields right) = same_widens

pub whole_widens : (below more : Derivations) → AllWiden below more → (n : ℕ) (free : Colons) (part : Exp) → Widens (whole below n free part) (whole more n free part)
whole_widens below more each n free part = inside_widens (each.exp n free ExpPlace.Whole part)

pub exp_operands_widen : (below more : Derivations) → AllWiden below more → (n : ℕ) (free : Colons) (last : ExpPlace) (operands : List (Operand Exp)) (ending : Ending)
    → Widens (exp_operands below n free last operands ending) (exp_operands more n free last operands ending)
exp_operands_widen below more each n free last [] ending = same_widens
exp_operands_widen below more each n free last (operand ∷ []) ending = given_widens _ (then_widens same_widens (each.exp n free last operand.part ending))
exp_operands_widen below more each n free last (operand ∷ (next ∷ rest)) ending =
    then_widens same_widens (then_widens (inside_widens (each.exp n free ExpPlace.Operand operand.part)) (then_widens same_widens (exp_operands_widen below more each n free last (next ∷ rest) ending)))

qualifier_layer_widens : (below more : Derivations) → AllWiden below more → (n : ℕ) (layer : Qualifier-F Decl Exp Qualifier Alt) → Widens (qualifier_reading below n layer) (qualifier_reading more n layer)
qualifier_layer_widens below more each n (Qualifier-F.Generator pattern arrow part) =
    then_widens (each.pat n PatPlace.Whole pattern) (then_widens same_widens (whole_widens below more each n Colons.Allowed part))
qualifier_layer_widens below more each n (Qualifier-F.Locals word block) = then_widens same_widens (each.declarations n DeclPlace.Local block)
qualifier_layer_widens below more each n (Qualifier-F.Test part) = whole_widens below more each n Colons.Allowed part

pub qualifier_widens : (below more : Derivations) → AllWiden below more → (n : ℕ) (qualifier : Qualifier) → Widens (qualifier_over below n qualifier) (qualifier_over more n qualifier)
qualifier_widens below more each n qualifier = qualifier_layer_widens below more each n (out-Qualifier qualifier)

pub atom_widens : (below more : Derivations) → AllWiden below more → (n : ℕ) (layer : Exp-F Decl Exp Qualifier Alt) → Widens (atom_reading below n layer) (atom_reading more n layer)
atom_widens below more each n (Exp-F.Variable used) = same_widens
atom_widens below more each n (Exp-F.Constructor named) = same_widens
atom_widens below more each n (Exp-F.Literal literal) = same_widens
atom_widens below more each n (Exp-F.Group left part right) = then_widens same_widens (then_widens (whole_widens below more each n Colons.Allowed part) same_widens)
atom_widens below more each n (Exp-F.Tuple left parts right) =
    given_widens _ (then_widens same_widens (then_widens (separated_widens (one n IsComma) _ _ (whole_widens below more each n Colons.Allowed) parts) same_widens))
atom_widens below more each n (Exp-F.List left parts right) =
    given_widens _ (then_widens same_widens (then_widens (separated_widens (one n IsComma) _ _ (whole_widens below more each n Colons.Allowed) parts) same_widens))
atom_widens below more each n (Exp-F.From left first dots right) = then_widens same_widens (then_widens (whole_widens below more each n Colons.Allowed first) same_widens)
atom_widens below more each n (Exp-F.FromThen left first comma second dots right) =
    then_widens same_widens (then_widens (whole_widens below more each n Colons.Allowed first) (then_widens same_widens (then_widens (whole_widens below more each n Colons.Allowed second) same_widens)))
atom_widens below more each n (Exp-F.FromTo left first dots last right) =
    then_widens same_widens (then_widens (whole_widens below more each n Colons.Allowed first) (then_widens same_widens (then_widens (whole_widens below more each n Colons.Allowed last) same_widens)))
atom_widens below more each n (Exp-F.FromThenTo left first comma second dots last right) =
    then_widens same_widens
    (then_widens (whole_widens below more each n Colons.Allowed first)
    (then_widens same_widens
    (then_widens (whole_widens below more each n Colons.Allowed second) (then_widens same_widens (then_widens (whole_widens below more each n Colons.Allowed last) same_widens)))))
atom_widens below more each n (Exp-F.Comprehension left part bar qualifiers right) =
    given_widens _
    (then_widens same_widens
    (then_widens (whole_widens below more each n Colons.Allowed part)
    (then_widens same_widens (then_widens (separated_widens (one n IsComma) _ _ (qualifier_widens below more each n) qualifiers) same_widens))))
atom_widens below more each n (Exp-F.LeftSection left part operator right) =
    then_widens same_widens (then_widens (inside_widens (each.exp n Colons.Allowed ExpPlace.Sequence part)) same_widens)
atom_widens below more each n (Exp-F.RightSection left operator part right) =
    given_widens _ (then_widens same_widens (then_widens same_widens (then_widens (inside_widens (each.exp n Colons.Allowed ExpPlace.Sequence part)) same_widens)))
atom_widens below more each n (Exp-F.Apply atoms) = same_widens
atom_widens below more each n (Exp-F.Infix operands) = same_widens
atom_widens below more each n (Exp-F.Annotated part colons ty) = same_widens
atom_widens below more each n (Exp-F.Lambda mark patterns arrow body) = same_widens
atom_widens below more each n (Exp-F.Let word block in_word body) = same_widens
atom_widens below more each n (Exp-F.If word test then_word first else_word second) = same_widens
atom_widens below more each n (Exp-F.Case word part of_word block) = same_widens
atom_widens below more each n (Exp-F.Fields part left fields right) = same_widens

pub exp_widens : (below more : Derivations) → AllWiden below more → (n : ℕ) (free : Colons) (place : ExpPlace) (layer : Exp-F Decl Exp Qualifier Alt) (ending : Ending)
    → Widens (exp_reading below n free place layer ending) (exp_reading more n free place layer ending)
exp_widens below more each n free place (Exp-F.Apply atoms) ending = given_widens _ (in_turn_widens _ _ (λ atom. inside_widens (each.exp n free ExpPlace.Atom atom)) atoms)
exp_widens below more each n free place (Exp-F.Case word part of_word block) ending =
    given_widens _ (then_widens same_widens (then_widens (whole_widens below more each n free part) (then_widens same_widens (each.alternatives n block))))
exp_widens below more each n free place (Exp-F.Lambda mark patterns arrow body) ending =
    given_widens _ (then_widens same_widens (then_widens (in_turn_widens _ _ (each.pat n PatPlace.Atomic) patterns) (then_widens same_widens (each.exp n free ExpPlace.Whole body ending))))
exp_widens below more each n free place (Exp-F.Let word block in_word body) ending =
    given_widens _ (then_widens same_widens (then_widens (each.declarations n DeclPlace.Local block) (then_widens same_widens (each.exp n free ExpPlace.Whole body ending))))
exp_widens below more each n free place (Exp-F.If word test then_word first else_word second) ending =
    given_widens _
    (then_widens same_widens
    (then_widens (whole_widens below more each n free test)
    (then_widens same_widens (then_widens (whole_widens below more each n free first) (then_widens same_widens (each.exp n free ExpPlace.Whole second ending))))))
exp_widens below more each n free place (Exp-F.Infix operands) ending = given_widens _ (exp_operands_widen below more each n free (last_operand place) operands ending)
exp_widens below more each n free place (Exp-F.Annotated part colons ty) ending =
    given_widens _ (then_widens (inside_widens (each.exp n Colons.Allowed ExpPlace.Annotated part)) (then_widens same_widens (each.ty n TyPlace.Whole ty)))
exp_widens below more each n free place (Exp-F.Fields part left fields right) ending = same_widens
exp_widens below more each n free place (Exp-F.Variable used) ending = same_widens
exp_widens below more each n free place (Exp-F.Constructor named) ending = same_widens
exp_widens below more each n free place (Exp-F.Literal literal) ending = same_widens
exp_widens below more each n free place (Exp-F.Group left part right) ending = given_widens _ (atom_widens below more each n (Exp-F.Group left part right))
exp_widens below more each n free place (Exp-F.Tuple left parts right) ending = given_widens _ (atom_widens below more each n (Exp-F.Tuple left parts right))
exp_widens below more each n free place (Exp-F.List left parts right) ending = given_widens _ (atom_widens below more each n (Exp-F.List left parts right))
exp_widens below more each n free place (Exp-F.From left first dots right) ending = given_widens _ (atom_widens below more each n (Exp-F.From left first dots right))
exp_widens below more each n free place (Exp-F.FromThen left first comma second dots right) ending = given_widens _ (atom_widens below more each n (Exp-F.FromThen left first comma second dots right))
exp_widens below more each n free place (Exp-F.FromTo left first dots last right) ending = given_widens _ (atom_widens below more each n (Exp-F.FromTo left first dots last right))
exp_widens below more each n free place (Exp-F.FromThenTo left first comma second dots last right) ending =
    given_widens _ (atom_widens below more each n (Exp-F.FromThenTo left first comma second dots last right))
exp_widens below more each n free place (Exp-F.Comprehension left part bar qualifiers right) ending =
    given_widens _ (atom_widens below more each n (Exp-F.Comprehension left part bar qualifiers right))
exp_widens below more each n free place (Exp-F.LeftSection left part operator right) ending = given_widens _ (atom_widens below more each n (Exp-F.LeftSection left part operator right))
exp_widens below more each n free place (Exp-F.RightSection left operator part right) ending = given_widens _ (atom_widens below more each n (Exp-F.RightSection left operator part right))
