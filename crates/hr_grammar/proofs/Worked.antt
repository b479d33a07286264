-- Trees of worked texts are trees of the grammar, and stand as the layout rule says.
use Rattle.std.proofs.Common.{◌≡◌, ◌≢◌, ℕ, true, List, [], ◌∷◌, Option, None, Some, refl, sym, ap, ◌∙◌, subst, inl, inr, arith}
use Rattle.std.specs.List.{AllByRecursion}
use lib.Chars.{codes}
use Rattle.hr_base.specs.declared.lexeme.Class.{Class}
use Rattle.hr_base.specs.declared.lexeme.Item.{Item}
use Rattle.hr_rules.specs.declared.block.BlockKind.{BlockKind}
use Rattle.hr_rules.specs.Blocks.{placed_of}
use Rattle.hr_rules.specs.Lexing.{joined}
use Rattle.hr_rules.specs.CanFollow.{can_follow}
use Rattle.hr_rules.specs.Roles.{role_of}
use Rattle.hr_tree.specs.declared.names.Operator.{Operator}
use Rattle.hr_tree.specs.declared.declarations.Body.{Body}
use Rattle.hr_tree.specs.declared.patterns.Pat.TheVariants.{Variable as Bound}
use Rattle.hr_tree.specs.declared.types.Ty.TheViews.{out-Ty}
use Rattle.hr_tree.specs.declared.patterns.Pat.TheViews.{out-Pat}
use Rattle.hr_tree.specs.declared.expressions.Exp.{Exp}
use Rattle.hr_tree.specs.declared.expressions.Decl.TheVariants.{Binding}
use Rattle.hr_tree.specs.declared.expressions.Decl.TheViews.{out-Exp, out-Decl, out-Qualifier}
use Rattle.hr_tree.specs.declared.expressions.Decl.TheBlock.{shown-the_row-Decl-Equation-2-4-1, shown-the_row-Exp-2, shown-the_row-Exp-Case-3-3-7, shown-the_row-Exp-Infix-0-3-6}
use denote.Hole.Carrier.{out, shown, hidden}
use Rattle.hr_tree.specs.Lists.{block_items}
use Rattle.hr_tree.specs.Yields.{done}
use Rattle.hr_grammar.specs.Nodes.{Colons, ExpPlace}
use Rattle.hr_grammar.specs.Yields.{IsModule, nodes, nesting_limit}
use Rattle.hr_grammar.specs.Spans.{Laid, BlockSpan, blockless, block_laid, ◌▷◌}
use Rattle.hr_grammar.specs.Offside.{placed_among, StandsWell}
use Rattle.hr_grammar.specs.Worked.{item, joint, name, reserved, only, defines, behind_blocks, IsWorked, case_in_tuple, case_in_comprehension, case_in_sequence, case_in_if, case_in_case, annotated_in_let, where_in_let, sum_behind_case, section_of_lambda, WorkedTrees}
use Rattle.hr_grammar.proofs.OffsideTest.{all_stand_well, all_stand_well_is}
use Rattle.hr_grammar.proofs.Laid.{ReadExp, yield_by, of_decl, read_bound, read_built, read_type, read_binding, read_variable, read_constructor, read_literal, read_group, read_from, read_left_section, read_if, read_let, read_case, read_alt, read_lambda, read_annotated, read_tuple, read_infix, read_generator, read_comprehension, read_where}

-- the blocks and the items of a module of one declaration, from those of the declaration
abbrev spans_with : Laid → List BlockSpan
spans_with laid = (blockless [] ▷ block_laid BlockKind.Body (only 1 laid)).blocks 0 0

abbrev items_with : List Item → List Item
items_with items = block_items done (only 1 items)

abbrev AllStand : List BlockSpan → List Item → Type 0
AllStand spans items = AllByRecursion (StandsWell spans (placed_among spans 0 (placed_of items))) spans

-- an expression that is the body of a module's only declaration, within the limit on nesting
abbrev pub IsBody : Exp → Type 0
IsBody = (nodes 254).exp Colons.Allowed ExpPlace.Whole

pub defines_grammar : (text : List ℕ) (body : Exp) → IsBody body → IsModule nesting_limit (defines text body)
unfolding out-Decl out-Pat out shown hidden shown-the_row-Decl-Equation-2-4-1
defines_grammar text body is = (tt, (tt, ([], (defines text body).body.pieces, refl, tt, ((refl, refl, ((refl, refl), is), tt), tt))))

-- what computes for such a module is so
stands : (text : List ℕ) (body : Exp) (source : List ℕ) (ends : List (Option (List ℕ))) (read : ReadExp body)
    → let decl = read_binding {mark = reserved (codes "=")} (read_bound {variable = name [] text}) read in
    IsBody body
    → all_stand_well (spans_with decl.laid) (placed_among (spans_with decl.laid) 0 (placed_of (items_with decl.items))) (spans_with decl.laid) ≡ true
    → joined (items_with decl.items) [] ≡ source
    → behind_blocks (spans_with decl.laid) (items_with decl.items) ≡ ends
    → IsWorked (defines text body) source ends
stands text body source ends read grammar well is_text are_ends =
    let decl = read_binding {mark = reserved (codes "=")} (read_bound {variable = name [] text}) read in
    record {
      grammar = defines_grammar text body grammar;
      offside = subst (λ (laid : Laid). AllStand (spans_with laid) (items_with (of_decl yield_by (Binding (Bound (name [] text)) (Body.Plain (reserved (codes "=")) body) None)))) (sym decl.laid_is)
          (subst (λ (items : List Item). AllStand (spans_with decl.laid) (items_with items)) (sym decl.items_is) (all_stand_well_is (spans_with decl.laid) _ (spans_with decl.laid) well));
      spelled = ap (λ (items : List Item). joined (items_with items) []) decl.items_is ∙ is_text;
      ended = (λ j. behind_blocks (spans_with (decl.laid_is j)) (items_with (decl.items_is j))) ∙ are_ends;
    }

pub not_empty : {T : Type 0} (x : T) (xs : List T) → (x ∷ xs) ≢ []
not_empty x xs = λ e. cc

section_grammar : IsBody section_of_lambda
unfolding out-Exp out-Decl out-Pat out-Ty out shown hidden shown-the_row-Decl-Equation-2-4-1 shown-the_row-Exp-2
section_grammar =
    ((refl, refl), (refl, (refl, refl), not_empty _ _, (refl, tt), (refl, refl), inl refl), inl (inl refl), (refl, refl))

tuple_grammar : IsBody case_in_tuple
unfolding out-Exp out-Decl out-Qualifier out-Pat out-Ty out shown hidden shown-the_row-Decl-Equation-2-4-1 shown-the_row-Exp-2 shown-the_row-Exp-Case-3-3-7 shown-the_row-Exp-Infix-0-3-6
tuple_grammar =
    ((refl, refl), ((refl, (refl, refl), inl refl, (refl, refl), (tt, ((refl, (((refl, refl), inl refl), tt)), tt))), ((refl, refl), (inl refl, refl))), (omega arith, omega arith), (refl, refl))

comprehension_grammar : IsBody case_in_comprehension
unfolding out-Exp out-Decl out-Qualifier out-Pat out-Ty out shown hidden shown-the_row-Decl-Equation-2-4-1 shown-the_row-Exp-2 shown-the_row-Exp-Case-3-3-7 shown-the_row-Exp-Infix-0-3-6
comprehension_grammar =
    ((refl, refl), (refl, (refl, refl), inl refl, (refl, refl), (tt, ((refl, (((refl, refl), (refl, tt, (tt, inl refl, (_, refl, inr (inr (inr (refl, refl)))), (tt, ((refl, refl), (refl, refl)), refl)))), tt)), tt))), (refl, refl), ((refl, (refl, refl), inl refl), refl), not_empty _ _, (refl, refl))

sequence_grammar : IsBody case_in_sequence
unfolding out-Exp out-Decl out-Qualifier out-Pat out-Ty out shown hidden shown-the_row-Decl-Equation-2-4-1 shown-the_row-Exp-2 shown-the_row-Exp-Case-3-3-7 shown-the_row-Exp-Infix-0-3-6
sequence_grammar =
    ((refl, refl), (refl, (refl, refl), inl refl, (refl, refl), (tt, ((refl, (((refl, refl), inl refl), tt)), tt))), (refl, refl), (refl, refl))

if_grammar : IsBody case_in_if
unfolding out-Exp out-Decl out-Pat out-Ty out shown hidden shown-the_row-Decl-Equation-2-4-1 shown-the_row-Exp-2 shown-the_row-Exp-Case-3-3-7 shown-the_row-Exp-Infix-0-3-6
if_grammar =
    (refl, (refl, refl), (refl, (refl, refl), inl refl, (refl, refl), (tt, ((refl, (((refl, refl), inl refl), tt)), tt))), (refl, refl), inl refl, (refl, refl), inl refl)

case_grammar : IsBody case_in_case
unfolding out-Exp out-Decl out-Qualifier out-Pat out-Ty out shown hidden shown-the_row-Decl-Equation-2-4-1 shown-the_row-Exp-2 shown-the_row-Exp-Case-3-3-7 shown-the_row-Exp-Infix-0-3-6
case_grammar =
    (refl, (refl, refl), (refl, (refl, refl), inl refl, (refl, refl), (tt, ((refl, (((refl, refl), inl refl), tt)), tt))), (refl, refl), (tt, ((refl, (((refl, refl), inl refl), tt)), tt)))

annotated_grammar : IsBody annotated_in_let
unfolding out-Exp out-Decl out-Pat out-Ty out shown hidden shown-the_row-Decl-Equation-2-4-1 shown-the_row-Exp-2
annotated_grammar =
    (refl, (refl, refl), (tt, ((refl, refl, ((refl, refl), (refl, refl, inl refl, (refl, refl), inl refl)), tt), tt)), (refl, refl), inl refl)

where_grammar : IsBody where_in_let
unfolding out-Exp out-Decl out-Qualifier out-Pat out-Ty out shown hidden shown-the_row-Decl-Equation-2-4-1 shown-the_row-Exp-2 shown-the_row-Exp-Case-3-3-7 shown-the_row-Exp-Infix-0-3-6
where_grammar =
    (refl, (refl, refl), (tt, ((refl, refl, ((refl, refl), inl refl), ((refl, refl), (tt, ((refl, refl, ((refl, refl), inl refl), tt), tt)))), tt)), (refl, refl), inl refl)

sum_grammar : IsBody sum_behind_case
unfolding out-Exp out-Decl out-Pat out-Ty out shown hidden shown-the_row-Decl-Equation-2-4-1 shown-the_row-Exp-2 shown-the_row-Exp-Case-3-3-7 shown-the_row-Exp-Infix-0-3-6
sum_grammar = (
  (refl, refl),
  (
    refl,
    tt,
    (
      tt,
      (refl, (refl, refl), inl refl, (refl, refl), (tt, ((inl refl, (((refl, refl), (refl, refl, inl refl, (refl, refl), inl refl)), tt)), tt))),
      (_, refl, inl (inl refl)),
      (tt, inl refl, refl),
    ),
  ),
  (refl, refl),
)

tuple_stands : IsWorked (defines (codes "a") case_in_tuple) (codes "a = (case x of y -> 1, 2)") (None ∷ Some (codes ",") ∷ [])
unfolding can_follow role_of
tuple_stands = stands (codes "a") case_in_tuple _ _ (read_tuple (joint (codes ",")) (read_case read_variable (read_alt read_bound read_literal)) read_literal) tuple_grammar refl refl refl

comprehension_stands : IsWorked (defines (codes "a") case_in_comprehension) (codes "a = [case x of y -> 1 : [] | y <- z]") (None ∷ Some (codes "|") ∷ [])
unfolding can_follow role_of
comprehension_stands = stands (codes "a") case_in_comprehension _ _ (read_comprehension (read_case read_variable (read_alt read_bound (read_infix (Operator.Symbol (reserved (codes ":"))) read_literal read_constructor))) (read_generator read_bound read_variable)) comprehension_grammar refl refl refl

sequence_stands : IsWorked (defines (codes "a") case_in_sequence) (codes "a = [case x of y -> 1 ..]") (None ∷ Some (codes "..") ∷ [])
unfolding can_follow role_of
sequence_stands = stands (codes "a") case_in_sequence _ _ (read_from (read_case read_variable (read_alt read_bound read_literal))) sequence_grammar refl refl refl

if_stands : IsWorked (defines (codes "a") case_in_if) (codes "a = if case x of y -> y then 1 else 2") (None ∷ Some (codes "then") ∷ [])
unfolding can_follow role_of
if_stands = stands (codes "a") case_in_if _ _ (read_if (read_case read_variable (read_alt read_bound read_variable)) read_literal read_literal) if_grammar refl refl refl

case_stands : IsWorked (defines (codes "a") case_in_case) (codes "a = case case x of y -> y of z -> z") (None ∷ Some (codes "of") ∷ None ∷ [])
unfolding can_follow role_of
case_stands = stands (codes "a") case_in_case _ _ (read_case (read_case read_variable (read_alt read_bound read_variable)) (read_alt read_bound read_variable)) case_grammar refl refl refl

annotated_stands : IsWorked (defines (codes "a") annotated_in_let) (codes "a = let b = 1 :: Int in b") (None ∷ Some (codes "in") ∷ [])
unfolding can_follow role_of
annotated_stands = stands (codes "a") annotated_in_let _ _ (read_let (read_binding read_bound (read_annotated read_literal read_type)) read_variable) annotated_grammar refl refl refl

where_stands : IsWorked (defines (codes "a") where_in_let) (codes "a = let b = c where c = 1 in b") (None ∷ Some (codes "in") ∷ Some (codes "in") ∷ [])
unfolding can_follow role_of
where_stands = stands (codes "a") where_in_let _ _ (read_let (read_where read_bound read_variable (read_binding read_bound read_literal)) read_variable) where_grammar refl refl refl

sum_stands : IsWorked (defines (codes "x") sum_behind_case) (codes "x = (case a of A -> 1 :: T + 2)") (None ∷ Some (codes "+") ∷ [])
unfolding can_follow role_of
sum_stands = stands (codes "x") sum_behind_case _ _ (read_group (read_infix (Operator.Symbol (item Class.VarSym (codes " ") (codes "+"))) (read_case read_variable (read_alt read_built (read_annotated read_literal read_type))) read_literal)) sum_grammar refl refl refl

section_stands : IsWorked (defines (codes "a") section_of_lambda) (codes "a = (\\x -> x +)") (None ∷ [])
unfolding can_follow role_of
section_stands = stands (codes "a") section_of_lambda _ _ (read_left_section (read_lambda read_bound read_variable)) section_grammar refl refl refl

pub worked_trees_lem : WorkedTrees
worked_trees_lem = (tuple_stands, (comprehension_stands, (sequence_stands, (if_stands, (case_stands, (annotated_stands, (where_stands, (sum_stands, section_stands))))))))
