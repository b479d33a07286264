-- Yields and blocks of a tree from those of its parts.
use Rattle.std.proofs.Common.{◌≡◌, List, [], ◌∷◌, ◌++◌, sym, ap, ◌∙◌}
use Rattle.std.specs.List.{AllByRecursion}
use Rattle.hr_base.specs.declared.lexeme.Item.{Item}
use Rattle.hr_tree.specs.declared.types.Ty.{Ty, out-Ty, roll-Ty}
use Rattle.hr_tree.specs.declared.types.Ty.TheOpen.{Ty-F}
use Rattle.hr_tree.specs.declared.types.Ty.TheFolds.{fold-roll-Ty}
use Rattle.hr_tree.specs.declared.types.Ty.TheViews.{roll-out-Ty, rolls-Apply as ty-rolls-Apply, rolls-Function, rolls-Tuple as ty-rolls-Tuple, rolls-List as ty-rolls-List, rolls-Group as ty-rolls-Group}
use Rattle.hr_tree.specs.declared.patterns.Pat.{Pat, out-Pat, roll-Pat}
use Rattle.hr_tree.specs.declared.patterns.Pat.TheOpen.{Pat-F}
use Rattle.hr_tree.specs.declared.patterns.Pat.TheFolds.{fold-roll-Pat}
use Rattle.hr_tree.specs.declared.patterns.Pat.TheViews.{roll-out-Pat, rolls-As, rolls-Lazy, rolls-Apply as pat-rolls-Apply, rolls-Infix as pat-rolls-Infix, rolls-Tuple as pat-rolls-Tuple, rolls-List as pat-rolls-List, rolls-Group as pat-rolls-Group, rolls-Fields as pat-rolls-Fields}
use Rattle.hr_tree.specs.declared.expressions.Exp.{Exp, out-Exp, roll-Exp}
use Rattle.hr_tree.specs.declared.expressions.Decl.{Decl, out-Decl, roll-Decl}
use Rattle.hr_tree.specs.declared.expressions.Qualifier.{Qualifier, out-Qualifier, roll-Qualifier}
use Rattle.hr_tree.specs.declared.expressions.Alt.{Alt}
use Rattle.hr_tree.specs.declared.expressions.Decl.TheOpen.{Exp-F, Decl-F, Qualifier-F}
use Rattle.hr_tree.specs.declared.expressions.Decl.TheFolds.{fold-roll-Exp, fold-roll-Decl}
use Rattle.hr_tree.specs.declared.expressions.Decl.TheViews.{roll-out-Exp, roll-out-Decl, roll-out-Qualifier, rolls-Group, rolls-Tuple, rolls-List, rolls-From, rolls-FromThen, rolls-FromTo, rolls-FromThenTo, rolls-Comprehension, rolls-LeftSection, rolls-RightSection, rolls-Apply, rolls-Infix, rolls-Annotated, rolls-Lambda, rolls-Let, rolls-If, rolls-Case, rolls-Fields, rolls-Equation, rolls-Binding, rolls-Generator, rolls-Locals, rolls-Test}
use Rattle.hr_tree.specs.Yields.{ty_layer, ty_items, pat_layer, pat_items, exp_layer, decl_layer, qualifier_layer, alt_layer, exp_items, decl_items, qualifier_items}
use Rattle.hr_tree.proofs.TypeYields.{ty_function, ty_group, ty_list, ty_apply, ty_tuple}
use Rattle.hr_tree.proofs.PatternYields.{pat_as, pat_lazy, pat_apply, pat_infix, pat_tuple, pat_list, pat_group, pat_fields}
use Rattle.hr_tree.proofs.ExpressionYields.{exp_group, exp_tuple, exp_list, exp_from, exp_from_then, exp_from_to, exp_from_then_to, exp_comprehension, exp_left_section, exp_right_section, exp_apply, exp_infix, exp_annotated, exp_lambda, exp_let, exp_if, exp_case, exp_fields, decl_equation, decl_binding, qualifier_generator, qualifier_locals, qualifier_test, alt_whole}
use Rattle.hr_grammar.specs.Spans.{BlockSpan}
use Rattle.hr_grammar.specs.Joins.{ty_joined, pat_joined, exp_joined, decl_joined, qualifier_joined, YieldsJoin, PartsStand}

ty_layers : (layer : Ty-F Ty) → ty_items (roll-Ty layer) ≡ ty_joined layer
ty_layers (Ty-F.Variable name) = fold-roll-Ty (List Item) ty_layer (Ty-F.Variable name)
ty_layers (Ty-F.Constructor constructor) = fold-roll-Ty (List Item) ty_layer (Ty-F.Constructor constructor)
ty_layers (Ty-F.Apply constructor arguments) = ap ty_items (ty-rolls-Apply constructor arguments) ∙ ty_apply constructor arguments
ty_layers (Ty-F.Function from arrow to) = ap ty_items (rolls-Function from arrow to) ∙ ty_function from arrow to
ty_layers (Ty-F.Tuple left parts right) = ap ty_items (ty-rolls-Tuple left parts right) ∙ ty_tuple left parts right
ty_layers (Ty-F.List left part right) = ap ty_items (ty-rolls-List left part right) ∙ ty_list left part right
ty_layers (Ty-F.Group left part right) = ap ty_items (ty-rolls-Group left part right) ∙ ty_group left part right

pat_layers : (layer : Pat-F Pat) → pat_items (roll-Pat layer) ≡ pat_joined layer
pat_layers (Pat-F.Variable variable) = fold-roll-Pat (List Item) pat_layer (Pat-F.Variable variable)
pat_layers (Pat-F.Wildcard word) = fold-roll-Pat (List Item) pat_layer (Pat-F.Wildcard word)
pat_layers (Pat-F.Literal literal) = fold-roll-Pat (List Item) pat_layer (Pat-F.Literal literal)
pat_layers (Pat-F.Negative minus literal) = fold-roll-Pat (List Item) pat_layer (Pat-F.Negative minus literal)
pat_layers (Pat-F.Constructor constructor) = fold-roll-Pat (List Item) pat_layer (Pat-F.Constructor constructor)
pat_layers (Pat-F.As variable mark part) = ap pat_items (rolls-As variable mark part) ∙ pat_as variable mark part
pat_layers (Pat-F.Lazy mark part) = ap pat_items (rolls-Lazy mark part) ∙ pat_lazy mark part
pat_layers (Pat-F.Apply constructor arguments) = ap pat_items (pat-rolls-Apply constructor arguments) ∙ pat_apply constructor arguments
pat_layers (Pat-F.Infix operands) = ap pat_items (pat-rolls-Infix operands) ∙ pat_infix operands
pat_layers (Pat-F.Tuple left parts right) = ap pat_items (pat-rolls-Tuple left parts right) ∙ pat_tuple left parts right
pat_layers (Pat-F.List left parts right) = ap pat_items (pat-rolls-List left parts right) ∙ pat_list left parts right
pat_layers (Pat-F.Group left part right) = ap pat_items (pat-rolls-Group left part right) ∙ pat_group left part right
pat_layers (Pat-F.Fields constructor left fields right) = ap pat_items (pat-rolls-Fields constructor left fields right) ∙ pat_fields constructor left fields right

pub exp_layers : (layer : Exp-F Decl Exp Qualifier Alt) → exp_items (roll-Exp layer) ≡ exp_joined layer
exp_layers (Exp-F.Variable variable) = fold-roll-Exp (List Item) (List Item) (List Item) (List Item) decl_layer exp_layer qualifier_layer alt_layer (Exp-F.Variable variable)
exp_layers (Exp-F.Constructor constructor) = fold-roll-Exp (List Item) (List Item) (List Item) (List Item) decl_layer exp_layer qualifier_layer alt_layer (Exp-F.Constructor constructor)
exp_layers (Exp-F.Literal literal) = fold-roll-Exp (List Item) (List Item) (List Item) (List Item) decl_layer exp_layer qualifier_layer alt_layer (Exp-F.Literal literal)
exp_layers (Exp-F.Group left part right) = ap exp_items (rolls-Group left part right) ∙ exp_group left part right
exp_layers (Exp-F.Tuple left parts right) = ap exp_items (rolls-Tuple left parts right) ∙ exp_tuple left parts right
exp_layers (Exp-F.List left parts right) = ap exp_items (rolls-List left parts right) ∙ exp_list left parts right
exp_layers (Exp-F.From left first dots right) = ap exp_items (rolls-From left first dots right) ∙ exp_from left first dots right
exp_layers (Exp-F.FromThen left first comma second dots right) = ap exp_items (rolls-FromThen left first comma second dots right) ∙ exp_from_then left first comma second dots right
exp_layers (Exp-F.FromTo left first dots last right) = ap exp_items (rolls-FromTo left first dots last right) ∙ exp_from_to left first dots last right
exp_layers (Exp-F.FromThenTo left first comma second dots last right) = ap exp_items (rolls-FromThenTo left first comma second dots last right) ∙ exp_from_then_to left first comma second dots last right
exp_layers (Exp-F.Comprehension left part bar qualifiers right) = ap exp_items (rolls-Comprehension left part bar qualifiers right) ∙ exp_comprehension left part bar qualifiers right
exp_layers (Exp-F.LeftSection left part operator right) = ap exp_items (rolls-LeftSection left part operator right) ∙ exp_left_section left part operator right
exp_layers (Exp-F.RightSection left operator part right) = ap exp_items (rolls-RightSection left operator part right) ∙ exp_right_section left operator part right
exp_layers (Exp-F.Apply atoms) = ap exp_items (rolls-Apply atoms) ∙ exp_apply atoms
exp_layers (Exp-F.Infix operands) = ap exp_items (rolls-Infix operands) ∙ exp_infix operands
exp_layers (Exp-F.Annotated part colons ty) = ap exp_items (rolls-Annotated part colons ty) ∙ exp_annotated part colons ty
exp_layers (Exp-F.Lambda mark patterns arrow body) = ap exp_items (rolls-Lambda mark patterns arrow body) ∙ exp_lambda mark patterns arrow body
exp_layers (Exp-F.Let word block in_word body) = ap exp_items (rolls-Let word block in_word body) ∙ exp_let word block in_word body
exp_layers (Exp-F.If word test then_word first else_word second) = ap exp_items (rolls-If word test then_word first else_word second) ∙ exp_if word test then_word first else_word second
exp_layers (Exp-F.Case word part of_word block) = ap exp_items (rolls-Case word part of_word block) ∙ exp_case word part of_word block
exp_layers (Exp-F.Fields part left fields right) = ap exp_items (rolls-Fields part left fields right) ∙ exp_fields part left fields right

pub decl_layers : (layer : Decl-F Decl Exp Qualifier Alt) → decl_items (roll-Decl layer) ≡ decl_joined layer
decl_layers (Decl-F.Import import) = fold-roll-Decl (List Item) (List Item) (List Item) (List Item) decl_layer exp_layer qualifier_layer alt_layer (Decl-F.Import import)
decl_layers (Decl-F.Synonym word head equals ty) = fold-roll-Decl (List Item) (List Item) (List Item) (List Item) decl_layer exp_layer qualifier_layer alt_layer (Decl-F.Synonym word head equals ty)
decl_layers (Decl-F.Data word head equals constructions) = fold-roll-Decl (List Item) (List Item) (List Item) (List Item) decl_layer exp_layer qualifier_layer alt_layer (Decl-F.Data word head equals constructions)
decl_layers (Decl-F.Newtype word head equals construction) = fold-roll-Decl (List Item) (List Item) (List Item) (List Item) decl_layer exp_layer qualifier_layer alt_layer (Decl-F.Newtype word head equals construction)
decl_layers (Decl-F.Signature names colons ty) = fold-roll-Decl (List Item) (List Item) (List Item) (List Item) decl_layer exp_layer qualifier_layer alt_layer (Decl-F.Signature names colons ty)
decl_layers (Decl-F.Fixity word level operators) = fold-roll-Decl (List Item) (List Item) (List Item) (List Item) decl_layer exp_layer qualifier_layer alt_layer (Decl-F.Fixity word level operators)
decl_layers (Decl-F.Equation left body locals) = ap decl_items (rolls-Equation left body locals) ∙ decl_equation left body locals
decl_layers (Decl-F.Binding pattern body locals) = ap decl_items (rolls-Binding pattern body locals) ∙ decl_binding pattern body locals

pub qualifier_layers : (layer : Qualifier-F Decl Exp Qualifier Alt) → qualifier_items (roll-Qualifier layer) ≡ qualifier_joined layer
qualifier_layers (Qualifier-F.Generator pattern arrow part) = ap qualifier_items (rolls-Generator pattern arrow part) ∙ qualifier_generator pattern arrow part
qualifier_layers (Qualifier-F.Locals word block) = ap qualifier_items (rolls-Locals word block) ∙ qualifier_locals word block
qualifier_layers (Qualifier-F.Test part) = ap qualifier_items (rolls-Test part) ∙ qualifier_test part

pub yields_join_lem : YieldsJoin
yields_join_lem = record {
  ty = λ ty. ap ty_items (sym (roll-out-Ty ty)) ∙ ty_layers (out-Ty ty);
  pat = λ pat. ap pat_items (sym (roll-out-Pat pat)) ∙ pat_layers (out-Pat pat);
  exp = λ exp. ap exp_items (sym (roll-out-Exp exp)) ∙ exp_layers (out-Exp exp);
  decl = λ decl. ap decl_items (sym (roll-out-Decl decl)) ∙ decl_layers (out-Decl decl);
  qualifier = λ qualifier. ap qualifier_items (sym (roll-out-Qualifier qualifier)) ∙ qualifier_layers (out-Qualifier qualifier);
  alt = alt_whole;
}

both : (P : BlockSpan → Type 0) (xs ys : List BlockSpan) → AllByRecursion P xs × AllByRecursion P ys → AllByRecursion P (xs ++ ys)
both P [] ys p = p.1
both P (x ∷ xs) ys p = (p.0.0, both P xs ys (p.0.1, p.1))

each : (P : BlockSpan → Type 0) (xs ys : List BlockSpan) → AllByRecursion P (xs ++ ys) → AllByRecursion P xs × AllByRecursion P ys
each P [] ys p = (tt, p)
each P (x ∷ xs) ys p = let rest = each P xs ys p.1 in ((p.0, rest.0), rest.1)

pub parts_stand_lem : PartsStand
parts_stand_lem = record {
  behind = λ spans lexemes first second m start. (both _ _ _, each _ _ _);
  block = λ spans lexemes kind block m start. ((λ p. p), (λ p. p));
}
