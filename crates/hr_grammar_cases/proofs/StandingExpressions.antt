-- An expression that is read stands.
use Rattle.std.proofs.Common.{◌≡◌, ◌≢◌, ℕ, true, false, List, [], ◌∷◌, length, Option, refl, sym, ap, ◌∙◌, subst}
use lib.Chars.{codes}
use Rattle.hr_base.specs.declared.lexeme.Ending.{Ending}
use Rattle.hr_base.specs.declared.lexeme.Item.{Item}
use Rattle.hr_rules.specs.declared.block.BlockKind.{BlockKind}
use Rattle.hr_tree.specs.declared.lists.Operand.{Operand}
use Rattle.hr_tree.specs.declared.lists.Block.{Block}
use Rattle.hr_tree.specs.declared.names.Operator.{Operator}
use Rattle.hr_tree.specs.declared.expressions.Exp.{Exp, out-Exp, roll-Exp}
use Rattle.hr_tree.specs.declared.expressions.Decl.{Decl}
use Rattle.hr_tree.specs.declared.expressions.Alt.{Alt}
use Rattle.hr_tree.specs.declared.expressions.Qualifier.{Qualifier, out-Qualifier, roll-Qualifier}
use Rattle.hr_tree.specs.declared.expressions.Decl.TheOpen.{Exp-F, Qualifier-F}
use Rattle.hr_tree.specs.declared.expressions.Decl.TheFolds.{fold-roll-Exp, fold-roll-Qualifier}
use Rattle.hr_tree.specs.declared.expressions.Decl.TheViews.{roll-out-Exp, roll-out-Qualifier}
use Rattle.hr_tree.specs.Names.{maybe_operator, variable_items, constructor_items, operator_items}
use Rattle.hr_tree.specs.Yields.{pat_items}
use Rattle.hr_grammar.specs.Words.{IsWord, IsReserved, IsLiteral, IsMinus, IsLeftParen, IsRightParen, IsLeftSquare, IsRightSquare, IsComma, IsBar, IsDots, IsArrow, IsBackArrow, IsDoubleColon}
use Rattle.hr_grammar.specs.Spelled.{IsNamedVariable, IsConstructor, IsOperator, IsNoMinus, AreParts}
use Rattle.hr_grammar.specs.Nodes.{Colons, TyPlace, PatPlace, ExpPlace}
use Rattle.hr_grammar.specs.Patterns.{HasTwo}
use Rattle.hr_grammar.specs.Expressions.{takes_operand, takes_open, takes_infix, takes_annotation, last_operand, IsSequence}
use Rattle.hr_grammar.specs.Spans.{Laid, one as one_laid, ending_as, block_laid, decl_laid, exp_laid, qualifier_laid, alt_laid}
use Rattle.hr_grammar_cases.specs.Readings.{take_all}
use Rattle.hr_grammar_cases.specs.Derivations.{Derivations}
use Rattle.hr_grammar_cases.specs.Expressions.{applied, closed, annotated, exp_operands, qualifier_reading, qualifier_over, atom_reading, exp_reading, exp_over}
use Rattle.hr_grammar_cases.proofs.Taken.{AllTake, in_turn_takes, spelled_takes, maybe_one_takes, operator_there_takes}
use Rattle.hr_grammar_cases.proofs.Stretches.{beside, Text}
use Rattle.hr_grammar_cases.proofs.Standing.{Stands, same_stands, never_stands, given_stands, ending_stands, inside_stands, then_stands}
use Rattle.hr_grammar_cases.proofs.StandingLexemes.{nothing_stands, one_stands, all_stand, taken_stands, in_turn_stands, opens_stands}
use Rattle.hr_grammar_cases.proofs.StandingBlocks.{block_by}
use Rattle.hr_grammar_cases.proofs.StandingTrees.{laid_exp, laid_decl, laid_qualifier, laid_alt, AllStand, operands_laid, pieces_turned, through, separated_stands}

operands_stand : (text : Text) (below : Derivations) → AllStand text below → (n : ℕ) (free : Colons) (last : ExpPlace) (operands : List (Operand Exp)) (ending : Ending)
    → Stands text n false (operands_laid operands) (exp_operands below n free last operands ending)
operands_stand text below each n free last [] ending = never_stands
operands_stand text below each n free last (operand ∷ []) ending =
    through (λ ts us r. (us, (r.1.0, r.1.1, (us, r.1.2, subst (λ (o : Option Operator). take_all n (maybe_operator o) us us) (sym r.0) refl)), refl))
    (then_stands (then_stands (taken_stands (maybe_one_takes n IsMinus operand.minus)) (then_stands (each.exp n free last operand.part ending) (all_stand (maybe_operator operand.operator)))) nothing_stands)
operands_stand text below each n free last (operand ∷ (next ∷ rest)) ending =
    through (λ ts us r. (r.2.2.0, (r.0, r.1, (r.2.0, r.2.1, r.2.2.1)), r.2.2.2))
    (then_stands (then_stands (taken_stands (maybe_one_takes n IsMinus operand.minus)) (then_stands (inside_stands (each.exp n free ExpPlace.Operand operand.part)) (taken_stands (operator_there_takes n IsOperator operand.operator))))
    (operands_stand text below each n free last (next ∷ rest) ending))

qualifier_layer_stands : (text : Text) (below : Derivations) → AllTake below → AllStand text below → (n : ℕ) (layer : Qualifier-F Decl Exp Qualifier Alt)
    → Stands text n false (laid_qualifier (roll-Qualifier layer)) (qualifier_reading below n layer)
qualifier_layer_stands text below take each n (Qualifier-F.Generator pattern arrow part) =
    same_stands (sym (fold-roll-Qualifier Laid Laid Laid Laid decl_laid exp_laid qualifier_laid alt_laid (Qualifier-F.Generator pattern arrow part)))
    (then_stands (taken_stands (take.pat n PatPlace.Whole pattern)) (then_stands (one_stands IsBackArrow arrow) (inside_stands (each.exp n Colons.Allowed ExpPlace.Whole part))))
qualifier_layer_stands text below take each n (Qualifier-F.Locals word block) =
    same_stands (sym (fold-roll-Qualifier Laid Laid Laid Laid decl_laid exp_laid qualifier_laid alt_laid (Qualifier-F.Locals word block)
    ∙ ap (λ ps. beside (one_laid word) (block_laid BlockKind.Declarations (record { layout = block.layout; pieces = ps }))) (pieces_turned laid_decl _ (λ item. refl) (λ part. refl) block.pieces)))
    (opens_stands (IsWord (codes "let")) word (each.declarations n block))
qualifier_layer_stands text below take each n (Qualifier-F.Test part) = same_stands (sym (fold-roll-Qualifier Laid Laid Laid Laid decl_laid exp_laid qualifier_laid alt_laid (Qualifier-F.Test part))) (inside_stands (each.exp n Colons.Allowed ExpPlace.Whole part))

qualifier_stands : (text : Text) (below : Derivations) → AllTake below → AllStand text below → (n : ℕ) (qualifier : Qualifier) → Stands text n false (laid_qualifier qualifier) (qualifier_over below n qualifier)
qualifier_stands text below take each n qualifier = same_stands (ap laid_qualifier (roll-out-Qualifier qualifier)) (qualifier_layer_stands text below take each n (out-Qualifier qualifier))

atom_stands : (text : Text) (below : Derivations) → AllTake below → AllStand text below → (n : ℕ) (layer : Exp-F Decl Exp Qualifier Alt) → Stands text n false (laid_exp (roll-Exp layer)) (atom_reading below n layer)
atom_stands text below take each n (Exp-F.Variable used) =
    same_stands (sym (fold-roll-Exp Laid Laid Laid Laid decl_laid exp_laid qualifier_laid alt_laid (Exp-F.Variable used))) (taken_stands (spelled_takes n IsNamedVariable variable_items used))
atom_stands text below take each n (Exp-F.Constructor named) =
    same_stands (sym (fold-roll-Exp Laid Laid Laid Laid decl_laid exp_laid qualifier_laid alt_laid (Exp-F.Constructor named))) (taken_stands (spelled_takes n IsConstructor constructor_items named))
atom_stands text below take each n (Exp-F.Literal literal) =
    same_stands (sym (fold-roll-Exp Laid Laid Laid Laid decl_laid exp_laid qualifier_laid alt_laid (Exp-F.Literal literal))) (one_stands IsLiteral literal)
atom_stands text below take each n (Exp-F.Group left part right) =
    same_stands (sym (fold-roll-Exp Laid Laid Laid Laid decl_laid exp_laid qualifier_laid alt_laid (Exp-F.Group left part right))) (then_stands (one_stands IsLeftParen left) (then_stands (inside_stands (each.exp n Colons.Allowed ExpPlace.Whole part)) (one_stands IsRightParen right)))
atom_stands text below take each n (Exp-F.Tuple left parts right) =
    same_stands (sym (fold-roll-Exp Laid Laid Laid Laid decl_laid exp_laid qualifier_laid alt_laid (Exp-F.Tuple left parts right))) (given_stands (AreParts (length parts)) (then_stands (one_stands IsLeftParen left) (then_stands (separated_stands IsComma laid_exp _ (λ x. inside_stands (each.exp n Colons.Allowed ExpPlace.Whole x)) parts) (one_stands IsRightParen right))))
atom_stands text below take each n (Exp-F.List left parts right) =
    same_stands (sym (fold-roll-Exp Laid Laid Laid Laid decl_laid exp_laid qualifier_laid alt_laid (Exp-F.List left parts right))) (given_stands (parts ≢ []) (then_stands (one_stands IsLeftSquare left) (then_stands (separated_stands IsComma laid_exp _ (λ x. inside_stands (each.exp n Colons.Allowed ExpPlace.Whole x)) parts) (one_stands IsRightSquare right))))
atom_stands text below take each n (Exp-F.From left first dots right) =
    same_stands (sym (fold-roll-Exp Laid Laid Laid Laid decl_laid exp_laid qualifier_laid alt_laid (Exp-F.From left first dots right))) (then_stands (one_stands IsLeftSquare left) (then_stands (inside_stands (each.exp n Colons.Allowed ExpPlace.Whole first)) (then_stands (one_stands IsDots dots) (one_stands IsRightSquare right))))
atom_stands text below take each n (Exp-F.FromThen left first comma second dots right) =
    same_stands (sym (fold-roll-Exp Laid Laid Laid Laid decl_laid exp_laid qualifier_laid alt_laid (Exp-F.FromThen left first comma second dots right))) (then_stands (one_stands IsLeftSquare left) (then_stands (inside_stands (each.exp n Colons.Allowed ExpPlace.Whole first)) (then_stands (one_stands IsComma comma) (then_stands (inside_stands (each.exp n Colons.Allowed ExpPlace.Whole second)) (then_stands (one_stands IsDots dots) (one_stands IsRightSquare right))))))
atom_stands text below take each n (Exp-F.FromTo left first dots last right) =
    same_stands (sym (fold-roll-Exp Laid Laid Laid Laid decl_laid exp_laid qualifier_laid alt_laid (Exp-F.FromTo left first dots last right))) (then_stands (one_stands IsLeftSquare left) (then_stands (inside_stands (each.exp n Colons.Allowed ExpPlace.Whole first)) (then_stands (one_stands IsDots dots) (then_stands (inside_stands (each.exp n Colons.Allowed ExpPlace.Whole last)) (one_stands IsRightSquare right)))))
atom_stands text below take each n (Exp-F.FromThenTo left first comma second dots last right) =
    same_stands (sym (fold-roll-Exp Laid Laid Laid Laid decl_laid exp_laid qualifier_laid alt_laid (Exp-F.FromThenTo left first comma second dots last right))) (then_stands (one_stands IsLeftSquare left) (then_stands (inside_stands (each.exp n Colons.Allowed ExpPlace.Whole first)) (then_stands (one_stands IsComma comma) (then_stands (inside_stands (each.exp n Colons.Allowed ExpPlace.Whole second)) (then_stands (one_stands IsDots dots) (then_stands (inside_stands (each.exp n Colons.Allowed ExpPlace.Whole last)) (one_stands IsRightSquare right)))))))
atom_stands text below take each n (Exp-F.Comprehension left part bar qualifiers right) =
    same_stands (sym (fold-roll-Exp Laid Laid Laid Laid decl_laid exp_laid qualifier_laid alt_laid (Exp-F.Comprehension left part bar qualifiers right))) (given_stands (qualifiers ≢ []) (then_stands (one_stands IsLeftSquare left) (then_stands (inside_stands (each.exp n Colons.Allowed ExpPlace.Whole part)) (then_stands (one_stands IsBar bar) (then_stands (separated_stands IsComma laid_qualifier _ (qualifier_stands text below take each n) qualifiers) (one_stands IsRightSquare right))))))
atom_stands text below take each n (Exp-F.LeftSection left part operator right) =
    same_stands (sym (fold-roll-Exp Laid Laid Laid Laid decl_laid exp_laid qualifier_laid alt_laid (Exp-F.LeftSection left part operator right))) (then_stands (one_stands IsLeftParen left) (then_stands (inside_stands (each.exp n Colons.Allowed ExpPlace.Sequence part)) (then_stands (taken_stands (spelled_takes n IsOperator operator_items operator)) (one_stands IsRightParen right))))
atom_stands text below take each n (Exp-F.RightSection left operator part right) =
    same_stands (sym (fold-roll-Exp Laid Laid Laid Laid decl_laid exp_laid qualifier_laid alt_laid (Exp-F.RightSection left operator part right))) (given_stands (IsNoMinus operator) (then_stands (one_stands IsLeftParen left) (then_stands (taken_stands (spelled_takes n IsOperator operator_items operator)) (then_stands (inside_stands (each.exp n Colons.Allowed ExpPlace.Sequence part)) (one_stands IsRightParen right)))))
atom_stands text below take each n (Exp-F.Apply atoms) = never_stands
atom_stands text below take each n (Exp-F.Infix operands) = never_stands
atom_stands text below take each n (Exp-F.Annotated part colons ty) = never_stands
atom_stands text below take each n (Exp-F.Lambda mark patterns arrow body) = never_stands
atom_stands text below take each n (Exp-F.Let word block in_word body) = never_stands
atom_stands text below take each n (Exp-F.If word test then_word first else_word second) = never_stands
atom_stands text below take each n (Exp-F.Case word part of_word block) = never_stands
atom_stands text below take each n (Exp-F.Fields part left fields right) = never_stands

pub exp_let : (word : Item) (block : Block Decl) (in_word : Item) (body : Exp)
    → laid_exp (roll-Exp (Exp-F.Let word block in_word body)) ≡ beside (one_laid word) (beside (block_laid BlockKind.Declarations (block_by laid_decl block)) (beside (one_laid in_word) (laid_exp body)))
exp_let word block in_word body =
    fold-roll-Exp Laid Laid Laid Laid decl_laid exp_laid qualifier_laid alt_laid (Exp-F.Let word block in_word body)
    ∙ ap (λ ps. beside (one_laid word) (beside (block_laid BlockKind.Declarations (record { layout = block.layout; pieces = ps })) (beside (one_laid in_word) (laid_exp body))))
    (pieces_turned laid_decl _ (λ item. refl) (λ part. refl) block.pieces)

-- one level, where trees on the level below stand
exp_stands : (text : Text) (below : Derivations) → AllTake below → AllStand text below → (n : ℕ) (free : Colons) (place : ExpPlace) (layer : Exp-F Decl Exp Qualifier Alt) (ending : Ending)
    → Stands text n false (laid_exp (roll-Exp layer)) (exp_reading below n free place layer ending)
exp_stands text below take each n free place (Exp-F.Apply atoms) ending =
    same_stands (sym (fold-roll-Exp Laid Laid Laid Laid decl_laid exp_laid qualifier_laid alt_laid (Exp-F.Apply atoms)))
    (given_stands ((ending ≡ applied) × ((takes_operand place ≡ true) × HasTwo atoms))
    (in_turn_stands laid_exp _ (λ atom. inside_stands (each.exp n free ExpPlace.Atom atom)) atoms))
exp_stands text below take each n free place (Exp-F.Case word part of_word block) ending =
    same_stands (sym (fold-roll-Exp Laid Laid Laid Laid decl_laid exp_laid qualifier_laid alt_laid (Exp-F.Case word part of_word block)
    ∙ ap (λ ps. ending_as closed (beside (one_laid word) (beside (laid_exp part) (beside (one_laid of_word) (block_laid BlockKind.Alternatives (record { layout = block.layout; pieces = ps }))))))
    (pieces_turned laid_alt _ (λ item. refl) (λ alt. refl) block.pieces)))
    (given_stands ((ending ≡ closed) × (takes_operand place ≡ true))
    (ending_stands closed (then_stands (one_stands (IsWord (codes "case")) word) (then_stands (inside_stands (each.exp n free ExpPlace.Whole part)) (opens_stands (IsWord (codes "of")) of_word (each.alternatives n block))))))
exp_stands text below take each n free place (Exp-F.Lambda mark patterns arrow body) ending =
    same_stands (sym (fold-roll-Exp Laid Laid Laid Laid decl_laid exp_laid qualifier_laid alt_laid (Exp-F.Lambda mark patterns arrow body)))
    (given_stands ((takes_open place ≡ true) × (patterns ≢ []))
    (then_stands (one_stands (IsReserved (codes "\\")) mark) (then_stands (taken_stands (in_turn_takes pat_items _ (take.pat n PatPlace.Atomic) patterns)) (then_stands (one_stands IsArrow arrow) (each.exp n free ExpPlace.Whole body ending)))))
exp_stands text below take each n free place (Exp-F.Let word block in_word body) ending =
    same_stands (sym (exp_let word block in_word body))
    (given_stands (takes_open place ≡ true)
    (opens_stands (IsWord (codes "let")) word (then_stands (each.declarations n block) (then_stands (one_stands (IsWord (codes "in")) in_word) (each.exp n free ExpPlace.Whole body ending)))))
exp_stands text below take each n free place (Exp-F.If word test then_word first else_word second) ending =
    same_stands (sym (fold-roll-Exp Laid Laid Laid Laid decl_laid exp_laid qualifier_laid alt_laid (Exp-F.If word test then_word first else_word second)))
    (given_stands (takes_open place ≡ true)
    (then_stands (one_stands (IsWord (codes "if")) word) (then_stands (inside_stands (each.exp n free ExpPlace.Whole test)) (then_stands (one_stands (IsWord (codes "then")) then_word) (then_stands (inside_stands (each.exp n free ExpPlace.Whole first)) (then_stands (one_stands (IsWord (codes "else")) else_word) (each.exp n free ExpPlace.Whole second ending)))))))
exp_stands text below take each n free place (Exp-F.Infix operands) ending =
    same_stands (sym (fold-roll-Exp Laid Laid Laid Laid decl_laid exp_laid qualifier_laid alt_laid (Exp-F.Infix operands)))
    (given_stands ((takes_infix place ≡ true) × IsSequence operands)
    (operands_stand text below each n free (last_operand place) operands ending))
exp_stands text below take each n free place (Exp-F.Annotated part colons ty) ending =
    same_stands (sym (fold-roll-Exp Laid Laid Laid Laid decl_laid exp_laid qualifier_laid alt_laid (Exp-F.Annotated part colons ty)))
    (given_stands ((ending ≡ annotated) × ((takes_annotation place ≡ true) × (free ≡ Colons.Allowed)))
    (ending_stands annotated (then_stands (inside_stands (each.exp n Colons.Allowed ExpPlace.Annotated part)) (then_stands (one_stands IsDoubleColon colons) (taken_stands (take.ty n TyPlace.Whole ty))))))
exp_stands text below take each n free place (Exp-F.Fields part left fields right) ending = never_stands
exp_stands text below take each n free place (Exp-F.Variable used) ending = given_stands (ending ≡ applied) (atom_stands text below take each n (Exp-F.Variable used))
exp_stands text below take each n free place (Exp-F.Constructor named) ending = given_stands (ending ≡ applied) (atom_stands text below take each n (Exp-F.Constructor named))
exp_stands text below take each n free place (Exp-F.Literal literal) ending = given_stands (ending ≡ applied) (atom_stands text below take each n (Exp-F.Literal literal))
exp_stands text below take each n free place (Exp-F.Group left part right) ending = given_stands (ending ≡ applied) (atom_stands text below take each n (Exp-F.Group left part right))
exp_stands text below take each n free place (Exp-F.Tuple left parts right) ending = given_stands (ending ≡ applied) (atom_stands text below take each n (Exp-F.Tuple left parts right))
exp_stands text below take each n free place (Exp-F.List left parts right) ending = given_stands (ending ≡ applied) (atom_stands text below take each n (Exp-F.List left parts right))
exp_stands text below take each n free place (Exp-F.From left first dots right) ending = given_stands (ending ≡ applied) (atom_stands text below take each n (Exp-F.From left first dots right))
exp_stands text below take each n free place (Exp-F.FromThen left first comma second dots right) ending = given_stands (ending ≡ applied) (atom_stands text below take each n (Exp-F.FromThen left first comma second dots right))
exp_stands text below take each n free place (Exp-F.FromTo left first dots last right) ending = given_stands (ending ≡ applied) (atom_stands text below take each n (Exp-F.FromTo left first dots last right))
exp_stands text below take each n free place (Exp-F.FromThenTo left first comma second dots last right) ending = given_stands (ending ≡ applied) (atom_stands text below take each n (Exp-F.FromThenTo left first comma second dots last right))
exp_stands text below take each n free place (Exp-F.Comprehension left part bar qualifiers right) ending = given_stands (ending ≡ applied) (atom_stands text below take each n (Exp-F.Comprehension left part bar qualifiers right))
exp_stands text below take each n free place (Exp-F.LeftSection left part operator right) ending = given_stands (ending ≡ applied) (atom_stands text below take each n (Exp-F.LeftSection left part operator right))
exp_stands text below take each n free place (Exp-F.RightSection left operator part right) ending = given_stands (ending ≡ applied) (atom_stands text below take each n (Exp-F.RightSection left operator part right))

pub exp_over_stands : (text : Text) (below : Derivations) → AllTake below → AllStand text below → (n : ℕ) (free : Colons) (place : ExpPlace) (exp : Exp) (ending : Ending)
    → Stands text n false (laid_exp exp) (exp_over below n free place exp ending)
exp_over_stands text below take each n free place exp ending = same_stands (ap laid_exp (roll-out-Exp exp)) (exp_stands text below take each n free place (out-Exp exp) ending)
