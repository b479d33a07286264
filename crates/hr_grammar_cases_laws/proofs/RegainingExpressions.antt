-- Expressions of the grammar that stand are read.
use Rattle.std.proofs.Common.{◌≡◌, ℕ, false, List, [], ◌∷◌, ◌++◌, Option, Some, None, refl, sym, ap, ◌∙◌, subst, inr}
use Rattle.std.specs.List.{flat_map}
use lib.Chars.{codes}
use Rattle.hr_base.specs.declared.lexeme.Class.{Class}
use Rattle.hr_base.specs.declared.lexeme.Ending.{Ending}
use Rattle.hr_base.specs.declared.lexeme.Item.{Item}
use Rattle.hr_rules.specs.declared.block.BlockKind.{BlockKind}
use Rattle.hr_rules.specs.declared.block.Placed.{Placed}
use Rattle.hr_rules.specs.Blocks.{is_open_brace}
use Rattle.hr_rules.specs.Roles.{role_of}
use Rattle.hr_tree.specs.declared.lists.Operand.{Operand}
use Rattle.hr_tree.specs.declared.names.Operator.{Operator}
use Rattle.hr_tree.specs.declared.expressions.Exp.{Exp, out-Exp, roll-Exp}
use Rattle.hr_tree.specs.declared.expressions.Decl.{Decl}
use Rattle.hr_tree.specs.declared.expressions.Alt.{Alt}
use Rattle.hr_tree.specs.declared.expressions.Qualifier.{Qualifier, out-Qualifier, roll-Qualifier}
use Rattle.hr_tree.specs.declared.expressions.Decl.TheOpen.{Exp-F, Qualifier-F}
use Rattle.hr_tree.specs.declared.expressions.Decl.TheFolds.{fold-roll-Exp, fold-roll-Qualifier}
use Rattle.hr_tree.specs.declared.expressions.Decl.TheViews.{roll-out-Exp, roll-out-Qualifier, rolls-Group, rolls-Tuple, rolls-List, rolls-From, rolls-FromThen, rolls-FromTo, rolls-FromThenTo, rolls-Comprehension, rolls-LeftSection, rolls-RightSection, rolls-Apply, rolls-Infix, rolls-Annotated, rolls-Lambda, rolls-Let, rolls-If, rolls-Case, rolls-Generator, rolls-Locals, rolls-Test}
use Rattle.hr_tree.specs.Names.{maybe_item, maybe_operator, variable_items, constructor_items, operator_items}
use Rattle.hr_tree.specs.Lists.{operand_items}
use Rattle.hr_tree.specs.Yields.{pat_items, decl_layer, exp_layer, qualifier_layer, alt_layer, exp_items, qualifier_items}
use Rattle.hr_tree.proofs.ExpressionYields.{exp_group, exp_tuple, exp_list, exp_from, exp_from_then, exp_from_to, exp_from_then_to, exp_comprehension, exp_left_section, exp_right_section, exp_apply, exp_infix, exp_annotated, exp_lambda, exp_let, exp_if, exp_case, qualifier_generator, qualifier_locals, qualifier_test}
use Rattle.hr_grammar.specs.Words.{IsWord, IsReserved, IsLiteral, IsMinus, IsLeftParen, IsRightParen, IsLeftSquare, IsRightSquare, IsComma, IsBar, IsDots, IsArrow, IsBackArrow, IsDoubleColon}
use Rattle.hr_grammar.specs.Spelled.{Maybe, IsNamedVariable, IsConstructor, IsOperator}
use Rattle.hr_grammar.specs.Nodes.{Nodes, Colons, TyPlace, PatPlace, ExpPlace}
use Rattle.hr_grammar.specs.Expressions.{last_operand, AreExpOperands, QualifierProduction, IsQualifierOver, ExpProduction}
use Rattle.hr_grammar.specs.Spans.{Laid, one as one_laid, ending_as, block_laid, decl_laid, exp_laid, qualifier_laid, alt_laid}
use Rattle.hr_grammar_cases.specs.Readings.{Reading, take_all, inside, given}
use Rattle.hr_grammar_cases.specs.Derivations.{Derivations}
use Rattle.hr_grammar_cases.specs.Expressions.{applied, closed, annotated, exp_operands, qualifier_reading, qualifier_over, exp_reading, exp_over}
use Rattle.hr_grammar_cases.proofs.Stretches.{beside, Text}
use Rattle.hr_grammar_cases.proofs.StandingExpressions.{exp_let as exp_let_laid}
use Rattle.hr_grammar_cases.proofs.StandingTrees.{laid_exp, laid_decl, laid_qualifier, laid_alt, operands_laid, pieces_turned}
use Rattle.hr_grammar_cases_laws.proofs.Retaken.{in_turn_retakes, spelled_retakes, maybe_one_retakes, operator_there_retakes}
use Rattle.hr_grammar_cases_laws.proofs.RetakenLeaves.{AllRetake}
use Rattle.hr_grammar_cases_laws.proofs.Regaining.{Firm, text_firm, nothing_firm, Regains, same_regains, through, given_regains, ending_regains, then_regains, bare_then_regains, one_regains, one_then_regains, retaken_regains, all_regain, nothing_regains, opens_regains}
use Rattle.hr_grammar_cases_laws.proofs.RegainingPieces.{Begun, begun_firm}
use Rattle.hr_grammar_cases_laws.proofs.RegainingTrees.{begun_more, firm_text, operator_begun, AllRegain, in_turn_regain, separated_regain}

-- ---- infix sequences
operator_firm : (found : Option Operator) → (operator : Operator) × (found ≡ Some operator) × IsOperator operator → Firm (maybe_operator found)
operator_firm None is = let e = is.1 in let no : ⊥ = cc in elim no [ ]
operator_firm (Some operator) is = begun_firm (operator_items operator) (operator_begun operator (subst IsOperator (sym (the_one is.1)) is.2))
  where
    the_one : {first second : Operator} → Some first ≡ Some second → first ≡ second
    the_one e = cc

none_firm : (operator : Option Operator) → operator ≡ None → Firm (maybe_operator operator)
none_firm operator e = subst (λ (o : Option Operator). Firm (maybe_operator o)) (sym e) nothing_firm

none_left : (n : ℕ) (operator : Option Operator) → operator ≡ None → (ts us : List Placed) → take_all n (maybe_operator operator) ts us → us ≡ ts
none_left n None e ts us h = h
none_left n (Some operator) e ts us h = let no : ⊥ = cc in elim no [ ]

minus_begun : (minus : Option Item) (items : List Item) → Maybe IsMinus minus → Begun items → Begun (maybe_item minus ++ items)
minus_begun None items is b = b
minus_begun (Some minus) items is b = text_firm Class.VarSym (codes "-") minus is refl

operands_begun : (text : Text) (below : Derivations) (allowed : Nodes) → AllRegain text below allowed → (free : Colons) (last : ExpPlace) (operand : Operand Exp) (rest : List (Operand Exp))
    → AreExpOperands allowed free last (operand ∷ rest) → Begun (flat_map (operand_items exp_items) (operand ∷ rest))
operands_begun text below allowed each free last operand [] are =
    begun_more (operand_items exp_items operand) [] (minus_begun operand.minus (exp_items operand.part ++ maybe_operator operand.operator) are.0
    (begun_more (exp_items operand.part) (maybe_operator operand.operator) (each.exp_begins free last operand.part are.1)))
operands_begun text below allowed each free last operand (next ∷ rest) are =
    begun_more (operand_items exp_items operand) (flat_map (operand_items exp_items) (next ∷ rest)) (minus_begun operand.minus (exp_items operand.part ++ maybe_operator operand.operator) are.0
    (begun_more (exp_items operand.part) (maybe_operator operand.operator) (each.exp_begins free ExpPlace.Operand operand.part are.1)))

operands_regain : (text : Text) (below : Derivations) (allowed : Nodes) → AllRegain text below allowed → (n : ℕ) (free : Colons) (last : ExpPlace) (operands : List (Operand Exp)) → AreExpOperands allowed free last operands
    → Regains text n false (operands_laid operands) (flat_map (operand_items exp_items) operands) (inside (exp_operands below n free last operands))
operands_regain text below allowed each n free last [] are = elim are [ ]
operands_regain text below allowed each n free last (operand ∷ []) are =
    through (λ ts us r. (r.1.2.1.0, (are.2, (r.1.0, r.1.1, subst (λ l. below.exp n free last operand.part r.1.2.1.0 r.1.0 l) (sym (r.2 ∙ none_left n operand.operator are.2 r.1.2.0 r.0 r.1.2.2)) r.1.2.1.1))))
    (then_regains (inr nothing_firm)
    (bare_then_regains (maybe_one_retakes n IsMinus operand.minus are.0)
    (then_regains (inr (none_firm operand.operator are.2)) (each.exp n free last operand.part are.1) (all_regain (maybe_operator operand.operator)))) nothing_regains)
operands_regain text below allowed each n free last (operand ∷ (next ∷ rest)) are =
    through (λ ts us r. (r.2.0, (r.1.0, r.1.1, (r.1.2.0, r.1.2.1, (r.0, r.1.2.2, r.2.1)))))
    (then_regains (inr (begun_firm (flat_map (operand_items exp_items) (next ∷ rest)) (operands_begun text below allowed each free last next rest are.3)))
    (bare_then_regains (maybe_one_retakes n IsMinus operand.minus are.0)
    (then_regains (inr (operator_firm operand.operator are.2)) (each.exp n free ExpPlace.Operand operand.part are.1) (retaken_regains (operator_there_retakes n IsOperator operand.operator are.2))))
    (operands_regain text below allowed each n free last (next ∷ rest) are.3))

-- ---- qualifiers
comma_firm : (item : Item) → IsComma item → is_open_brace (role_of item.lexeme) ≡ false
comma_firm item is = text_firm Class.Special (codes ",") item is refl

qualifier_begun : (text : Text) (below : Derivations) (allowed : Nodes) → AllRegain text below allowed → (layer : Qualifier-F Decl Exp Qualifier Alt) → QualifierProduction allowed layer
    → Begun (qualifier_items (roll-Qualifier layer))
qualifier_begun text below allowed each (Qualifier-F.Generator pattern arrow part) is =
    subst Begun (sym (ap qualifier_items (rolls-Generator pattern arrow part) ∙ qualifier_generator pattern arrow part)) (begun_more (pat_items pattern) _ (each.pat_begins PatPlace.Whole pattern is.0))
qualifier_begun text below allowed each (Qualifier-F.Locals word block) is =
    subst Begun (sym (ap qualifier_items (rolls-Locals word block) ∙ qualifier_locals word block)) (text_firm Class.ReservedId (codes "let") word is.0 refl)
qualifier_begun text below allowed each (Qualifier-F.Test part) is =
    subst Begun (sym (ap qualifier_items (rolls-Test part) ∙ qualifier_test part)) (each.exp_begins Colons.Allowed ExpPlace.Whole part is)

qualifier_layer_regains : (text : Text) (below : Derivations) (allowed : Nodes) → AllRetake below allowed → AllRegain text below allowed → (n : ℕ) (layer : Qualifier-F Decl Exp Qualifier Alt)
    → QualifierProduction allowed layer → Regains text n false (laid_qualifier (roll-Qualifier layer)) (qualifier_items (roll-Qualifier layer)) (qualifier_reading below n layer)
qualifier_layer_regains text below allowed take each n (Qualifier-F.Generator pattern arrow part) is =
    same_regains (sym (fold-roll-Qualifier Laid Laid Laid Laid decl_laid exp_laid qualifier_laid alt_laid (Qualifier-F.Generator pattern arrow part)))
    (sym (ap qualifier_items (rolls-Generator pattern arrow part) ∙ qualifier_generator pattern arrow part))
    (bare_then_regains (take.pat n PatPlace.Whole pattern is.0) (one_then_regains IsBackArrow arrow is.1 (each.exp n Colons.Allowed ExpPlace.Whole part is.2)))
qualifier_layer_regains text below allowed take each n (Qualifier-F.Locals word block) is =
    same_regains (sym (fold-roll-Qualifier Laid Laid Laid Laid decl_laid exp_laid qualifier_laid alt_laid (Qualifier-F.Locals word block)
    ∙ ap (λ ps. beside (one_laid word) (block_laid BlockKind.Declarations (record { layout = block.layout; pieces = ps }))) (pieces_turned laid_decl _ (λ item. refl) (λ part. refl) block.pieces)))
    (sym (ap qualifier_items (rolls-Locals word block) ∙ qualifier_locals word block))
    (opens_regains (IsWord (codes "let")) word is.0 (each.declarations n block is.1))
qualifier_layer_regains text below allowed take each n (Qualifier-F.Test part) is =
    same_regains (sym (fold-roll-Qualifier Laid Laid Laid Laid decl_laid exp_laid qualifier_laid alt_laid (Qualifier-F.Test part))) (sym (ap qualifier_items (rolls-Test part) ∙ qualifier_test part))
    (each.exp n Colons.Allowed ExpPlace.Whole part is)

whole_qualifier : (text : Text) (below : Derivations) (allowed : Nodes) → AllRegain text below allowed → (qualifier : Qualifier) → IsQualifierOver allowed qualifier → Begun (qualifier_items qualifier)
whole_qualifier text below allowed each qualifier is = subst (λ q. Begun (qualifier_items q)) (roll-out-Qualifier qualifier) (qualifier_begun text below allowed each (out-Qualifier qualifier) is)

qualifier_regains : (text : Text) (below : Derivations) (allowed : Nodes) → AllRetake below allowed → AllRegain text below allowed → (n : ℕ) (qualifier : Qualifier) → IsQualifierOver allowed qualifier
    → Regains text n false (laid_qualifier qualifier) (qualifier_items qualifier) (qualifier_over below n qualifier)
qualifier_regains text below allowed take each n qualifier is =
    same_regains (ap laid_qualifier (roll-out-Qualifier qualifier)) (ap qualifier_items (roll-out-Qualifier qualifier)) (qualifier_layer_regains text below allowed take each n (out-Qualifier qualifier) is)

-- ---- atoms all end alike
abbrev ends_applied : Reading → Ending → Reading
ends_applied reading ending = given (ending ≡ applied) reading

atom : {text : Text} {n : ℕ} {laid : Laid} {items : List Item} {reading : Reading} → Regains text n false laid items reading → Regains text n false laid items (inside (ends_applied reading))
atom s = through (λ ts us r. (applied, (refl, r))) s

-- one level, where trees on the level below are read
exp_regains : (text : Text) (below : Derivations) (allowed : Nodes) → AllRetake below allowed → AllRegain text below allowed → (n : ℕ) (free : Colons) (place : ExpPlace) (layer : Exp-F Decl Exp Qualifier Alt)
    → ExpProduction allowed free place layer → Regains text n false (laid_exp (roll-Exp layer)) (exp_items (roll-Exp layer)) (inside (exp_reading below n free place layer))
exp_regains text below allowed take each n free place (Exp-F.Variable used) is =
    same_regains (sym (fold-roll-Exp Laid Laid Laid Laid decl_laid exp_laid qualifier_laid alt_laid (Exp-F.Variable used))) (sym (fold-roll-Exp (List Item) (List Item) (List Item) (List Item) decl_layer exp_layer qualifier_layer alt_layer (Exp-F.Variable used)))
    (atom (retaken_regains (spelled_retakes n IsNamedVariable variable_items used is)))
exp_regains text below allowed take each n free place (Exp-F.Constructor named) is =
    same_regains (sym (fold-roll-Exp Laid Laid Laid Laid decl_laid exp_laid qualifier_laid alt_laid (Exp-F.Constructor named))) (sym (fold-roll-Exp (List Item) (List Item) (List Item) (List Item) decl_layer exp_layer qualifier_layer alt_layer (Exp-F.Constructor named)))
    (atom (retaken_regains (spelled_retakes n IsConstructor constructor_items named is)))
exp_regains text below allowed take each n free place (Exp-F.Literal literal) is =
    same_regains (sym (fold-roll-Exp Laid Laid Laid Laid decl_laid exp_laid qualifier_laid alt_laid (Exp-F.Literal literal))) (sym (fold-roll-Exp (List Item) (List Item) (List Item) (List Item) decl_layer exp_layer qualifier_layer alt_layer (Exp-F.Literal literal)))
    (atom (one_regains IsLiteral literal is))
exp_regains text below allowed take each n free place (Exp-F.Group left part right) is =
    same_regains (sym (fold-roll-Exp Laid Laid Laid Laid decl_laid exp_laid qualifier_laid alt_laid (Exp-F.Group left part right))) (sym (ap exp_items (rolls-Group left part right) ∙ exp_group left part right))
    (atom (one_then_regains IsLeftParen left is.0 (then_regains (inr (firm_text Class.Special (codes ")") right [] is.2 refl)) (each.exp n Colons.Allowed ExpPlace.Whole part is.1) (one_regains IsRightParen right is.2))))
exp_regains text below allowed take each n free place (Exp-F.Tuple left parts right) is =
    same_regains (sym (fold-roll-Exp Laid Laid Laid Laid decl_laid exp_laid qualifier_laid alt_laid (Exp-F.Tuple left parts right))) (sym (ap exp_items (rolls-Tuple left parts right) ∙ exp_tuple left parts right))
    (atom (given_regains is.2 (one_then_regains IsLeftParen left is.0 (then_regains (inr (firm_text Class.Special (codes ")") right [] is.3 refl)) (separated_regain IsComma comma_firm laid_exp exp_items _ (allowed.exp Colons.Allowed ExpPlace.Whole) (each.exp_begins Colons.Allowed ExpPlace.Whole) (each.exp n Colons.Allowed ExpPlace.Whole) parts is.1) (one_regains IsRightParen right is.3)))))
exp_regains text below allowed take each n free place (Exp-F.List left parts right) is =
    same_regains (sym (fold-roll-Exp Laid Laid Laid Laid decl_laid exp_laid qualifier_laid alt_laid (Exp-F.List left parts right))) (sym (ap exp_items (rolls-List left parts right) ∙ exp_list left parts right))
    (atom (given_regains is.2 (one_then_regains IsLeftSquare left is.0 (then_regains (inr (firm_text Class.Special (codes "]") right [] is.3 refl)) (separated_regain IsComma comma_firm laid_exp exp_items _ (allowed.exp Colons.Allowed ExpPlace.Whole) (each.exp_begins Colons.Allowed ExpPlace.Whole) (each.exp n Colons.Allowed ExpPlace.Whole) parts is.1) (one_regains IsRightSquare right is.3)))))
exp_regains text below allowed take each n free place (Exp-F.From left first dots right) is =
    same_regains (sym (fold-roll-Exp Laid Laid Laid Laid decl_laid exp_laid qualifier_laid alt_laid (Exp-F.From left first dots right))) (sym (ap exp_items (rolls-From left first dots right) ∙ exp_from left first dots right))
    (atom (one_then_regains IsLeftSquare left is.0 (then_regains (inr (firm_text Class.ReservedOp (codes "..") dots [] is.2 refl)) (each.exp n Colons.Allowed ExpPlace.Whole first is.1) (one_then_regains IsDots dots is.2 (one_regains IsRightSquare right is.3)))))
exp_regains text below allowed take each n free place (Exp-F.FromThen left first comma second dots right) is =
    same_regains (sym (fold-roll-Exp Laid Laid Laid Laid decl_laid exp_laid qualifier_laid alt_laid (Exp-F.FromThen left first comma second dots right))) (sym (ap exp_items (rolls-FromThen left first comma second dots right) ∙ exp_from_then left first comma second dots right))
    (atom (one_then_regains IsLeftSquare left is.0 (then_regains (inr (firm_text Class.Special (codes ",") comma [] is.2 refl)) (each.exp n Colons.Allowed ExpPlace.Whole first is.1) (one_then_regains IsComma comma is.2 (then_regains (inr (firm_text Class.ReservedOp (codes "..") dots [] is.4 refl)) (each.exp n Colons.Allowed ExpPlace.Whole second is.3) (one_then_regains IsDots dots is.4 (one_regains IsRightSquare right is.5)))))))
exp_regains text below allowed take each n free place (Exp-F.FromTo left first dots last right) is =
    same_regains (sym (fold-roll-Exp Laid Laid Laid Laid decl_laid exp_laid qualifier_laid alt_laid (Exp-F.FromTo left first dots last right))) (sym (ap exp_items (rolls-FromTo left first dots last right) ∙ exp_from_to left first dots last right))
    (atom (one_then_regains IsLeftSquare left is.0 (then_regains (inr (firm_text Class.ReservedOp (codes "..") dots [] is.2 refl)) (each.exp n Colons.Allowed ExpPlace.Whole first is.1) (one_then_regains IsDots dots is.2 (then_regains (inr (firm_text Class.Special (codes "]") right [] is.4 refl)) (each.exp n Colons.Allowed ExpPlace.Whole last is.3) (one_regains IsRightSquare right is.4))))))
exp_regains text below allowed take each n free place (Exp-F.FromThenTo left first comma second dots last right) is =
    same_regains (sym (fold-roll-Exp Laid Laid Laid Laid decl_laid exp_laid qualifier_laid alt_laid (Exp-F.FromThenTo left first comma second dots last right))) (sym (ap exp_items (rolls-FromThenTo left first comma second dots last right) ∙ exp_from_then_to left first comma second dots last right))
    (atom (one_then_regains IsLeftSquare left is.0 (then_regains (inr (firm_text Class.Special (codes ",") comma [] is.2 refl)) (each.exp n Colons.Allowed ExpPlace.Whole first is.1) (one_then_regains IsComma comma is.2 (then_regains (inr (firm_text Class.ReservedOp (codes "..") dots [] is.4 refl)) (each.exp n Colons.Allowed ExpPlace.Whole second is.3) (one_then_regains IsDots dots is.4 (then_regains (inr (firm_text Class.Special (codes "]") right [] is.6 refl)) (each.exp n Colons.Allowed ExpPlace.Whole last is.5) (one_regains IsRightSquare right is.6))))))))
exp_regains text below allowed take each n free place (Exp-F.Comprehension left part bar qualifiers right) is =
    same_regains (sym (fold-roll-Exp Laid Laid Laid Laid decl_laid exp_laid qualifier_laid alt_laid (Exp-F.Comprehension left part bar qualifiers right))) (sym (ap exp_items (rolls-Comprehension left part bar qualifiers right) ∙ exp_comprehension left part bar qualifiers right))
    (atom (given_regains is.4 (one_then_regains IsLeftSquare left is.0 (then_regains (inr (firm_text Class.ReservedOp (codes "|") bar [] is.2 refl)) (each.exp n Colons.Allowed ExpPlace.Whole part is.1) (one_then_regains IsBar bar is.2 (then_regains (inr (firm_text Class.Special (codes "]") right [] is.5 refl)) (separated_regain IsComma comma_firm laid_qualifier qualifier_items _ (IsQualifierOver allowed) (whole_qualifier text below allowed each) (qualifier_regains text below allowed take each n) qualifiers is.3) (one_regains IsRightSquare right is.5)))))))
exp_regains text below allowed take each n free place (Exp-F.LeftSection left part operator right) is =
    same_regains (sym (fold-roll-Exp Laid Laid Laid Laid decl_laid exp_laid qualifier_laid alt_laid (Exp-F.LeftSection left part operator right))) (sym (ap exp_items (rolls-LeftSection left part operator right) ∙ exp_left_section left part operator right))
    (atom (one_then_regains IsLeftParen left is.0 (then_regains (inr (begun_firm _ (begun_more (operator_items operator) _ (operator_begun operator is.2)))) (each.exp n Colons.Allowed ExpPlace.Sequence part is.1) (bare_then_regains (spelled_retakes n IsOperator operator_items operator is.2) (one_regains IsRightParen right is.3)))))
exp_regains text below allowed take each n free place (Exp-F.RightSection left operator part right) is =
    same_regains (sym (fold-roll-Exp Laid Laid Laid Laid decl_laid exp_laid qualifier_laid alt_laid (Exp-F.RightSection left operator part right))) (sym (ap exp_items (rolls-RightSection left operator part right) ∙ exp_right_section left operator part right))
    (atom (given_regains is.2 (one_then_regains IsLeftParen left is.0 (bare_then_regains (spelled_retakes n IsOperator operator_items operator is.1) (then_regains (inr (firm_text Class.Special (codes ")") right [] is.4 refl)) (each.exp n Colons.Allowed ExpPlace.Sequence part is.3) (one_regains IsRightParen right is.4))))))
exp_regains text below allowed take each n free place (Exp-F.Apply atoms) is =
    same_regains (sym (fold-roll-Exp Laid Laid Laid Laid decl_laid exp_laid qualifier_laid alt_laid (Exp-F.Apply atoms))) (sym (ap exp_items (rolls-Apply atoms) ∙ exp_apply atoms))
    (through (λ ts us r. (applied, ((refl, (is.0, is.1)), r)))
    (in_turn_regain laid_exp exp_items _ (allowed.exp free ExpPlace.Atom) (each.exp_begins free ExpPlace.Atom) (each.exp n free ExpPlace.Atom) atoms is.2))
exp_regains text below allowed take each n free place (Exp-F.Case word part of_word block) is =
    same_regains (sym (fold-roll-Exp Laid Laid Laid Laid decl_laid exp_laid qualifier_laid alt_laid (Exp-F.Case word part of_word block)
    ∙ ap (λ ps. ending_as closed (beside (one_laid word) (beside (laid_exp part) (beside (one_laid of_word) (block_laid BlockKind.Alternatives (record { layout = block.layout; pieces = ps }))))))
    (pieces_turned laid_alt _ (λ item. refl) (λ alt. refl) block.pieces)))
    (sym (ap exp_items (rolls-Case word part of_word block) ∙ exp_case word part of_word block))
    (through (λ ts us r. (closed, ((refl, is.0), r)))
    (ending_regains closed (one_then_regains (IsWord (codes "case")) word is.1 (then_regains (inr (firm_text Class.ReservedId (codes "of") of_word [] is.3 refl)) (each.exp n free ExpPlace.Whole part is.2) (opens_regains (IsWord (codes "of")) of_word is.3 (each.alternatives n block is.4))))))
exp_regains text below allowed take each n free place (Exp-F.Lambda mark patterns arrow body) is =
    same_regains (sym (fold-roll-Exp Laid Laid Laid Laid decl_laid exp_laid qualifier_laid alt_laid (Exp-F.Lambda mark patterns arrow body))) (sym (ap exp_items (rolls-Lambda mark patterns arrow body) ∙ exp_lambda mark patterns arrow body))
    (through (λ ts us r. (r.2.2.2.0, ((is.0, is.2), (r.0, r.1, (r.2.0, r.2.1, (r.2.2.0, r.2.2.1, r.2.2.2.1))))))
    (one_then_regains (IsReserved (codes "\\")) mark is.1 (bare_then_regains (in_turn_retakes pat_items _ (allowed.pat PatPlace.Atomic) (take.pat n PatPlace.Atomic) patterns is.3) (one_then_regains IsArrow arrow is.4 (each.exp n free ExpPlace.Whole body is.5)))))
exp_regains text below allowed take each n free place (Exp-F.Let word block in_word body) is =
    same_regains (sym (exp_let_laid word block in_word body)) (sym (ap exp_items (rolls-Let word block in_word body) ∙ exp_let word block in_word body))
    (through (λ ts us r. (r.2.2.2.0, (is.0, (r.0, r.1, (r.2.0, r.2.1, (r.2.2.0, r.2.2.1, r.2.2.2.1))))))
    (opens_regains (IsWord (codes "let")) word is.1 (then_regains (inr (firm_text Class.ReservedId (codes "in") in_word [] is.3 refl)) (each.declarations n block is.2) (one_then_regains (IsWord (codes "in")) in_word is.3 (each.exp n free ExpPlace.Whole body is.4)))))
exp_regains text below allowed take each n free place (Exp-F.If word test then_word first else_word second) is =
    same_regains (sym (fold-roll-Exp Laid Laid Laid Laid decl_laid exp_laid qualifier_laid alt_laid (Exp-F.If word test then_word first else_word second))) (sym (ap exp_items (rolls-If word test then_word first else_word second) ∙ exp_if word test then_word first else_word second))
    (through (λ ts us r. (r.2.2.2.2.2.0, (is.0, (r.0, r.1, (r.2.0, r.2.1, (r.2.2.0, r.2.2.1, (r.2.2.2.0, r.2.2.2.1, (r.2.2.2.2.0, r.2.2.2.2.1, r.2.2.2.2.2.1))))))))
    (one_then_regains (IsWord (codes "if")) word is.1 (then_regains (inr (firm_text Class.ReservedId (codes "then") then_word [] is.3 refl)) (each.exp n free ExpPlace.Whole test is.2) (one_then_regains (IsWord (codes "then")) then_word is.3 (then_regains (inr (firm_text Class.ReservedId (codes "else") else_word [] is.5 refl)) (each.exp n free ExpPlace.Whole first is.4) (one_then_regains (IsWord (codes "else")) else_word is.5 (each.exp n free ExpPlace.Whole second is.6)))))))
exp_regains text below allowed take each n free place (Exp-F.Infix operands) is =
    same_regains (sym (fold-roll-Exp Laid Laid Laid Laid decl_laid exp_laid qualifier_laid alt_laid (Exp-F.Infix operands))) (sym (ap exp_items (rolls-Infix operands) ∙ exp_infix operands))
    (through (λ ts us r. (r.0, ((is.0, is.1), r.1))) (operands_regain text below allowed each n free (last_operand place) operands is.2))
exp_regains text below allowed take each n free place (Exp-F.Annotated part colons ty) is =
    same_regains (sym (fold-roll-Exp Laid Laid Laid Laid decl_laid exp_laid qualifier_laid alt_laid (Exp-F.Annotated part colons ty))) (sym (ap exp_items (rolls-Annotated part colons ty) ∙ exp_annotated part colons ty))
    (through (λ ts us r. (annotated, ((refl, (is.0, is.1)), r)))
    (ending_regains annotated (then_regains (inr (firm_text Class.ReservedOp (codes "::") colons [] is.3 refl)) (each.exp n Colons.Allowed ExpPlace.Annotated part is.2) (one_then_regains IsDoubleColon colons is.3 (retaken_regains (take.ty n TyPlace.Whole ty is.4))))))
exp_regains text below allowed take each n free place (Exp-F.Fields part left fields right) is = elim is [ ]

pub exp_over_regains : (text : Text) (below : Derivations) (allowed : Nodes) → AllRetake below allowed → AllRegain text below allowed → (n : ℕ) (free : Colons) (place : ExpPlace) (exp : Exp)
    → ExpProduction allowed free place (out-Exp exp) → Regains text n false (laid_exp exp) (exp_items exp) (inside (exp_over below n free place exp))
exp_over_regains text below allowed take each n free place exp is =
    same_regains (ap laid_exp (roll-out-Exp exp)) (ap exp_items (roll-out-Exp exp)) (exp_regains text below allowed take each n free place (out-Exp exp) is)
