-- An expression that is read takes its own items.
use Rattle.std.proofs.Common.{◌≡◌, ◌≢◌, ℕ, true, List, [], ◌∷◌, ◌++◌, length, None, sym, ap, ◌∙◌}
use Rattle.std.specs.List.{flat_map}
use lib.Chars.{codes}
use Rattle.hr_base.specs.declared.lexeme.Ending.{Ending}
use Rattle.hr_base.specs.declared.lexeme.Item.{Item}
use Rattle.hr_tree.specs.declared.lists.Operand.{Operand}
use Rattle.hr_tree.specs.declared.expressions.Exp.{Exp, out-Exp, roll-Exp}
use Rattle.hr_tree.specs.declared.expressions.Decl.{Decl}
use Rattle.hr_tree.specs.declared.expressions.Alt.{Alt}
use Rattle.hr_tree.specs.declared.expressions.Qualifier.{Qualifier, out-Qualifier, roll-Qualifier}
use Rattle.hr_tree.specs.declared.expressions.Decl.TheOpen.{Exp-F, Qualifier-F}
use Rattle.hr_tree.specs.declared.expressions.Decl.TheFolds.{fold-roll-Exp}
use Rattle.hr_tree.specs.declared.expressions.Decl.TheViews.{roll-out-Exp, roll-out-Qualifier, rolls-Group, rolls-Tuple, rolls-List, rolls-From, rolls-FromThen, rolls-FromTo, rolls-FromThenTo, rolls-Comprehension, rolls-LeftSection, rolls-RightSection, rolls-Apply, rolls-Infix, rolls-Annotated, rolls-Lambda, rolls-Let, rolls-If, rolls-Case, rolls-Generator, rolls-Locals, rolls-Test}
use Rattle.hr_tree.specs.Names.{maybe_item, maybe_operator, variable_items, constructor_items, operator_items}
use Rattle.hr_tree.specs.Lists.{operand_items}
use Rattle.hr_tree.specs.Yields.{pat_items, decl_layer, exp_layer, qualifier_layer, alt_layer, exp_items, qualifier_items}
use Rattle.hr_tree.proofs.ExpressionYields.{exp_group, exp_tuple, exp_list, exp_from, exp_from_then, exp_from_to, exp_from_then_to, exp_comprehension, exp_left_section, exp_right_section, exp_apply, exp_infix, exp_annotated, exp_lambda, exp_let, exp_if, exp_case, qualifier_generator, qualifier_locals, qualifier_test}
use Rattle.hr_grammar.specs.Words.{IsWord, IsReserved, IsLiteral, IsMinus, IsLeftParen, IsRightParen, IsLeftSquare, IsRightSquare, IsComma, IsBar, IsDots, IsArrow, IsBackArrow, IsDoubleColon}
use Rattle.hr_grammar.specs.Spelled.{IsNamedVariable, IsConstructor, IsOperator, IsNoMinus, AreParts}
use Rattle.hr_grammar.specs.Nodes.{Colons, TyPlace, PatPlace, ExpPlace, DeclPlace}
use Rattle.hr_grammar.specs.Patterns.{HasTwo}
use Rattle.hr_grammar.specs.Expressions.{takes_operand, takes_open, takes_infix, takes_annotation, last_operand, IsSequence}
use Rattle.hr_grammar_cases.specs.Derivations.{Derivations}
use Rattle.hr_grammar_cases.specs.Expressions.{applied, closed, annotated, exp_operands, qualifier_reading, qualifier_over, atom_reading, exp_reading, exp_over}
use Rattle.hr_grammar_cases.specs.Laws.{Gives, AllGive}
use Rattle.hr_grammar_cases.proofs.Readings.{append_assoc, append_nothing, same_gives, never_gives, then_gives, given_gives, given_same, one_gives, spelled_gives, in_turn_gives, separated_gives, maybe_one_gives, operator_there_gives, inside_gives}

-- the last operand, behind which no operator stands
last_items : (o : Operand Exp) → o.operator ≡ None → maybe_item o.minus ++ exp_items o.part ≡ operand_items exp_items o ++ []
last_items o e =
    sym (ap (λ l. maybe_item o.minus ++ l) (append_nothing (exp_items o.part))) ∙ sym (ap (λ op. maybe_item o.minus ++ (exp_items o.part ++ maybe_operator op)) e)
    ∙ sym (append_nothing (operand_items exp_items o))

-- an operand with what stands behind it
operand_then : (o : Operand Exp) (rest : List Item) → maybe_item o.minus ++ (exp_items o.part ++ (maybe_operator o.operator ++ rest)) ≡ operand_items exp_items o ++ rest
operand_then o rest =
    ap (λ l. maybe_item o.minus ++ l) (sym (append_assoc (exp_items o.part) (maybe_operator o.operator) rest))
    ∙ sym (append_assoc (maybe_item o.minus) (exp_items o.part ++ maybe_operator o.operator) rest)

operands_give : (below : Derivations) → AllGive below → (n : ℕ) (free : Colons) (last : ExpPlace) (operands : List (Operand Exp)) (ending : Ending)
    → Gives (flat_map (operand_items exp_items) operands) (exp_operands below n free last operands ending)
operands_give below each n free last [] ending = never_gives
operands_give below each n free last (operand ∷ []) ending =
    given_same (operand.operator ≡ None) (last_items operand) (then_gives (maybe_one_gives n IsMinus operand.minus) (each.exp n free last operand.part ending))
operands_give below each n free last (operand ∷ (next ∷ rest)) ending =
    same_gives (operand_then operand (flat_map (operand_items exp_items) (next ∷ rest)))
    (then_gives (maybe_one_gives n IsMinus operand.minus) (then_gives (inside_gives (each.exp n free ExpPlace.Operand operand.part))
    (then_gives (operator_there_gives n IsOperator operand.operator) (operands_give below each n free last (next ∷ rest) ending))))

qualifier_layer_gives : (below : Derivations) → AllGive below → (n : ℕ) (layer : Qualifier-F Decl Exp Qualifier Alt) → Gives (qualifier_items (roll-Qualifier layer)) (qualifier_reading below n layer)
qualifier_layer_gives below each n (Qualifier-F.Generator pattern arrow part) =
    same_gives (sym (ap qualifier_items (rolls-Generator pattern arrow part) ∙ qualifier_generator pattern arrow part))
    (then_gives (each.pat n PatPlace.Whole pattern) (then_gives (one_gives n IsBackArrow arrow) (inside_gives (each.exp n Colons.Allowed ExpPlace.Whole part))))
qualifier_layer_gives below each n (Qualifier-F.Locals word block) =
    same_gives (sym (ap qualifier_items (rolls-Locals word block) ∙ qualifier_locals word block))
    (then_gives (one_gives n (IsWord (codes "let")) word) (each.declarations n DeclPlace.Local block))
qualifier_layer_gives below each n (Qualifier-F.Test part) =
    same_gives (sym (ap qualifier_items (rolls-Test part) ∙ qualifier_test part)) (inside_gives (each.exp n Colons.Allowed ExpPlace.Whole part))

qualifier_gives : (below : Derivations) → AllGive below → (n : ℕ) (qualifier : Qualifier) → Gives (qualifier_items qualifier) (qualifier_over below n qualifier)
qualifier_gives below each n qualifier = same_gives (ap qualifier_items (roll-out-Qualifier qualifier)) (qualifier_layer_gives below each n (out-Qualifier qualifier))

atom_gives : (below : Derivations) → AllGive below → (n : ℕ) (layer : Exp-F Decl Exp Qualifier Alt) → Gives (exp_items (roll-Exp layer)) (atom_reading below n layer)
atom_gives below each n (Exp-F.Variable used) =
    same_gives (sym (fold-roll-Exp (List Item) (List Item) (List Item) (List Item) decl_layer exp_layer qualifier_layer alt_layer (Exp-F.Variable used)))
    (spelled_gives n IsNamedVariable variable_items used)
atom_gives below each n (Exp-F.Constructor named) =
    same_gives (sym (fold-roll-Exp (List Item) (List Item) (List Item) (List Item) decl_layer exp_layer qualifier_layer alt_layer (Exp-F.Constructor named)))
    (spelled_gives n IsConstructor constructor_items named)
atom_gives below each n (Exp-F.Literal literal) =
    same_gives (sym (fold-roll-Exp (List Item) (List Item) (List Item) (List Item) decl_layer exp_layer qualifier_layer alt_layer (Exp-F.Literal literal)))
    (one_gives n IsLiteral literal)
atom_gives below each n (Exp-F.Group left part right) =
    same_gives (sym (ap exp_items (rolls-Group left part right) ∙ exp_group left part right))
    (then_gives (one_gives n IsLeftParen left) (then_gives (inside_gives (each.exp n Colons.Allowed ExpPlace.Whole part)) (one_gives n IsRightParen right)))
atom_gives below each n (Exp-F.Tuple left parts right) =
    same_gives (sym (ap exp_items (rolls-Tuple left parts right) ∙ exp_tuple left parts right))
    (given_gives (AreParts (length parts))
    (then_gives (one_gives n IsLeftParen left) (then_gives (separated_gives n IsComma exp_items _ (λ x. inside_gives (each.exp n Colons.Allowed ExpPlace.Whole x)) parts) (one_gives n IsRightParen right))))
atom_gives below each n (Exp-F.List left parts right) =
    same_gives (sym (ap exp_items (rolls-List left parts right) ∙ exp_list left parts right))
    (given_gives (parts ≢ [])
    (then_gives (one_gives n IsLeftSquare left) (then_gives (separated_gives n IsComma exp_items _ (λ x. inside_gives (each.exp n Colons.Allowed ExpPlace.Whole x)) parts) (one_gives n IsRightSquare right))))
atom_gives below each n (Exp-F.From left first dots right) =
    same_gives (sym (ap exp_items (rolls-From left first dots right) ∙ exp_from left first dots right))
    (then_gives (one_gives n IsLeftSquare left) (then_gives (inside_gives (each.exp n Colons.Allowed ExpPlace.Whole first)) (then_gives (one_gives n IsDots dots) (one_gives n IsRightSquare right))))
atom_gives below each n (Exp-F.FromThen left first comma second dots right) =
    same_gives (sym (ap exp_items (rolls-FromThen left first comma second dots right) ∙ exp_from_then left first comma second dots right))
    (then_gives (one_gives n IsLeftSquare left) (then_gives (inside_gives (each.exp n Colons.Allowed ExpPlace.Whole first)) (then_gives (one_gives n IsComma comma) (then_gives (inside_gives (each.exp n Colons.Allowed ExpPlace.Whole second)) (then_gives (one_gives n IsDots dots) (one_gives n IsRightSquare right))))))
atom_gives below each n (Exp-F.FromTo left first dots last right) =
    same_gives (sym (ap exp_items (rolls-FromTo left first dots last right) ∙ exp_from_to left first dots last right))
    (then_gives (one_gives n IsLeftSquare left) (then_gives (inside_gives (each.exp n Colons.Allowed ExpPlace.Whole first)) (then_gives (one_gives n IsDots dots) (then_gives (inside_gives (each.exp n Colons.Allowed ExpPlace.Whole last)) (one_gives n IsRightSquare right)))))
atom_gives below each n (Exp-F.FromThenTo left first comma second dots last right) =
    same_gives (sym (ap exp_items (rolls-FromThenTo left first comma second dots last right) ∙ exp_from_then_to left first comma second dots last right))
    (then_gives (one_gives n IsLeftSquare left) (then_gives (inside_gives (each.exp n Colons.Allowed ExpPlace.Whole first)) (then_gives (one_gives n IsComma comma) (then_gives (inside_gives (each.exp n Colons.Allowed ExpPlace.Whole second)) (then_gives (one_gives n IsDots dots) (then_gives (inside_gives (each.exp n Colons.Allowed ExpPlace.Whole last)) (one_gives n IsRightSquare right)))))))
atom_gives below each n (Exp-F.Comprehension left part bar qualifiers right) =
    same_gives (sym (ap exp_items (rolls-Comprehension left part bar qualifiers right) ∙ exp_comprehension left part bar qualifiers right))
    (given_gives (qualifiers ≢ [])
    (then_gives (one_gives n IsLeftSquare left) (then_gives (inside_gives (each.exp n Colons.Allowed ExpPlace.Whole part)) (then_gives (one_gives n IsBar bar) (then_gives (separated_gives n IsComma qualifier_items _ (qualifier_gives below each n) qualifiers) (one_gives n IsRightSquare right))))))
atom_gives below each n (Exp-F.LeftSection left part operator right) =
    same_gives (sym (ap exp_items (rolls-LeftSection left part operator right) ∙ exp_left_section left part operator right))
    (then_gives (one_gives n IsLeftParen left) (then_gives (inside_gives (each.exp n Colons.Allowed ExpPlace.Sequence part)) (then_gives (spelled_gives n IsOperator operator_items operator) (one_gives n IsRightParen right))))
atom_gives below each n (Exp-F.RightSection left operator part right) =
    same_gives (sym (ap exp_items (rolls-RightSection left operator part right) ∙ exp_right_section left operator part right))
    (given_gives (IsNoMinus operator)
    (then_gives (one_gives n IsLeftParen left) (then_gives (spelled_gives n IsOperator operator_items operator) (then_gives (inside_gives (each.exp n Colons.Allowed ExpPlace.Sequence part)) (one_gives n IsRightParen right)))))
atom_gives below each n (Exp-F.Apply atoms) = never_gives
atom_gives below each n (Exp-F.Infix operands) = never_gives
atom_gives below each n (Exp-F.Annotated part colons ty) = never_gives
atom_gives below each n (Exp-F.Lambda mark patterns arrow body) = never_gives
atom_gives below each n (Exp-F.Let word block in_word body) = never_gives
atom_gives below each n (Exp-F.If word test then_word first else_word second) = never_gives
atom_gives below each n (Exp-F.Case word part of_word block) = never_gives
atom_gives below each n (Exp-F.Fields part left fields right) = never_gives

-- one level, where trees on the level below take their own items
exp_gives : (below : Derivations) → AllGive below → (n : ℕ) (free : Colons) (place : ExpPlace) (layer : Exp-F Decl Exp Qualifier Alt) (ending : Ending)
    → Gives (exp_items (roll-Exp layer)) (exp_reading below n free place layer ending)
exp_gives below each n free place (Exp-F.Apply atoms) ending =
    same_gives (sym (ap exp_items (rolls-Apply atoms) ∙ exp_apply atoms))
    (given_gives ((ending ≡ applied) × ((takes_operand place ≡ true) × HasTwo atoms))
    (in_turn_gives exp_items _ (λ atom. inside_gives (each.exp n free ExpPlace.Atom atom)) atoms))
exp_gives below each n free place (Exp-F.Case word part of_word block) ending =
    same_gives (sym (ap exp_items (rolls-Case word part of_word block) ∙ exp_case word part of_word block))
    (given_gives ((ending ≡ closed) × (takes_operand place ≡ true))
    (then_gives (one_gives n (IsWord (codes "case")) word) (then_gives (inside_gives (each.exp n free ExpPlace.Whole part)) (then_gives (one_gives n (IsWord (codes "of")) of_word) (each.alternatives n block)))))
exp_gives below each n free place (Exp-F.Lambda mark patterns arrow body) ending =
    same_gives (sym (ap exp_items (rolls-Lambda mark patterns arrow body) ∙ exp_lambda mark patterns arrow body))
    (given_gives ((takes_open place ≡ true) × (patterns ≢ []))
    (then_gives (one_gives n (IsReserved (codes "\\")) mark) (then_gives (in_turn_gives pat_items _ (each.pat n PatPlace.Atomic) patterns) (then_gives (one_gives n IsArrow arrow) (each.exp n free ExpPlace.Whole body ending)))))
exp_gives below each n free place (Exp-F.Let word block in_word body) ending =
    same_gives (sym (ap exp_items (rolls-Let word block in_word body) ∙ exp_let word block in_word body))
    (given_gives (takes_open place ≡ true)
    (then_gives (one_gives n (IsWord (codes "let")) word) (then_gives (each.declarations n DeclPlace.Local block) (then_gives (one_gives n (IsWord (codes "in")) in_word) (each.exp n free ExpPlace.Whole body ending)))))
exp_gives below each n free place (Exp-F.If word test then_word first else_word second) ending =
    same_gives (sym (ap exp_items (rolls-If word test then_word first else_word second) ∙ exp_if word test then_word first else_word second))
    (given_gives (takes_open place ≡ true)
    (then_gives (one_gives n (IsWord (codes "if")) word) (then_gives (inside_gives (each.exp n free ExpPlace.Whole test)) (then_gives (one_gives n (IsWord (codes "then")) then_word) (then_gives (inside_gives (each.exp n free ExpPlace.Whole first)) (then_gives (one_gives n (IsWord (codes "else")) else_word) (each.exp n free ExpPlace.Whole second ending)))))))
exp_gives below each n free place (Exp-F.Infix operands) ending =
    same_gives (sym (ap exp_items (rolls-Infix operands) ∙ exp_infix operands))
    (given_gives ((takes_infix place ≡ true) × IsSequence operands)
    (operands_give below each n free (last_operand place) operands ending))
exp_gives below each n free place (Exp-F.Annotated part colons ty) ending =
    same_gives (sym (ap exp_items (rolls-Annotated part colons ty) ∙ exp_annotated part colons ty))
    (given_gives ((ending ≡ annotated) × ((takes_annotation place ≡ true) × (free ≡ Colons.Allowed)))
    (then_gives (inside_gives (each.exp n Colons.Allowed ExpPlace.Annotated part)) (then_gives (one_gives n IsDoubleColon colons) (each.ty n TyPlace.Whole ty))))
exp_gives below each n free place (Exp-F.Fields part left fields right) ending = never_gives
exp_gives below each n free place (Exp-F.Variable used) ending = given_gives (ending ≡ applied) (atom_gives below each n (Exp-F.Variable used))
exp_gives below each n free place (Exp-F.Constructor named) ending = given_gives (ending ≡ applied) (atom_gives below each n (Exp-F.Constructor named))
exp_gives below each n free place (Exp-F.Literal literal) ending = given_gives (ending ≡ applied) (atom_gives below each n (Exp-F.Literal literal))
exp_gives below each n free place (Exp-F.Group left part right) ending = given_gives (ending ≡ applied) (atom_gives below each n (Exp-F.Group left part right))
exp_gives below each n free place (Exp-F.Tuple left parts right) ending = given_gives (ending ≡ applied) (atom_gives below each n (Exp-F.Tuple left parts right))
exp_gives below each n free place (Exp-F.List left parts right) ending = given_gives (ending ≡ applied) (atom_gives below each n (Exp-F.List left parts right))
exp_gives below each n free place (Exp-F.From left first dots right) ending = given_gives (ending ≡ applied) (atom_gives below each n (Exp-F.From left first dots right))
exp_gives below each n free place (Exp-F.FromThen left first comma second dots right) ending = given_gives (ending ≡ applied) (atom_gives below each n (Exp-F.FromThen left first comma second dots right))
exp_gives below each n free place (Exp-F.FromTo left first dots last right) ending = given_gives (ending ≡ applied) (atom_gives below each n (Exp-F.FromTo left first dots last right))
exp_gives below each n free place (Exp-F.FromThenTo left first comma second dots last right) ending = given_gives (ending ≡ applied) (atom_gives below each n (Exp-F.FromThenTo left first comma second dots last right))
exp_gives below each n free place (Exp-F.Comprehension left part bar qualifiers right) ending = given_gives (ending ≡ applied) (atom_gives below each n (Exp-F.Comprehension left part bar qualifiers right))
exp_gives below each n free place (Exp-F.LeftSection left part operator right) ending = given_gives (ending ≡ applied) (atom_gives below each n (Exp-F.LeftSection left part operator right))
exp_gives below each n free place (Exp-F.RightSection left operator part right) ending = given_gives (ending ≡ applied) (atom_gives below each n (Exp-F.RightSection left operator part right))

pub exp_over_gives : (below : Derivations) → AllGive below → (n : ℕ) (free : Colons) (place : ExpPlace) (exp : Exp) (ending : Ending) → Gives (exp_items exp) (exp_over below n free place exp ending)
exp_over_gives below each n free place exp ending = same_gives (ap exp_items (roll-out-Exp exp)) (exp_gives below each n free place (out-Exp exp) ending)
