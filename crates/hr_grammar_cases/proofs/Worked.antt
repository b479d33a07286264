-- Worked texts are read as their trees.
use Rattle.std.proofs.Common.{true, false, refl, inl, inr, List, [], ◌∷◌, ◌≢◌}
use Rattle.hr_base.specs.declared.lexeme.Ending.{Ending}
use Rattle.hr_rules.specs.CanFollow.{can_follow}
use Rattle.hr_rules.specs.Roles.{role_of}
use Rattle.hr_tree.specs.declared.types.Ty.TheViews.{out-Ty}
use Rattle.hr_tree.specs.declared.patterns.Pat.TheViews.{out-Pat}
use Rattle.hr_tree.specs.declared.expressions.Decl.TheViews.{out-Exp, out-Decl}
use Rattle.hr_tree.specs.declared.expressions.Decl.TheBlock.{shown-the_row-Decl-Equation-2-4-1, shown-the_row-Exp-2, shown-the_row-Exp-Case-3-3-7, shown-the_row-Exp-Infix-0-3-6}
use denote.Hole.Carrier.{out, shown, hidden}
use Rattle.hr_grammar.specs.Yields.{nesting_limit}
use Rattle.hr_grammar.specs.Worked.{annotated_in_let, section_of_lambda, case_in_if, sum_behind_case}
use Rattle.hr_grammar.specs.Nodes.{DeclPlace}
use Rattle.hr_grammar_cases.specs.Modules.{Derives}
use Rattle.hr_grammar_cases.specs.Worked.{annotated_in_let_items, section_of_lambda_items, case_in_if_items, sum_behind_case_items, defines_a, WorkedTexts}

not_empty : {T : Type 0} (x : T) (xs : List T) → (x ∷ xs) ≢ []
not_empty x xs = λ e. cc

in_let : Derives nesting_limit (defines_a annotated_in_let) annotated_in_let_items
unfolding out-Exp out-Decl out-Pat out-Ty out shown hidden shown-the_row-Decl-Equation-2-4-1 shown-the_row-Exp-2 shown-the_row-Exp-Case-3-3-7 shown-the_row-Exp-Infix-0-3-6 can_follow role_of
in_let = (_, refl, inr (refl, (_, (refl, refl), (DeclPlace.Top, (Ending.Applied true false), (_, (refl, (refl, (_, (refl, (_, (refl, refl, refl), refl)), ((Ending.Applied true false), refl, (_, ((refl, refl), (refl, refl, refl)), (refl, (_, ((refl, refl), (refl, refl, refl)), (_, inr (refl, (_, (refl, refl), (DeclPlace.Local, (Ending.Annotated true false), (_, (refl, (refl, (_, (refl, (_, (refl, refl, refl), refl)), ((Ending.Annotated true false), refl, (_, ((refl, refl), (refl, refl, refl)), ((refl, (refl, refl)), (_, ((Ending.Applied true false), (refl, (inl refl, (refl, refl, refl)))), (_, ((refl, refl), (refl, refl, refl)), (inl refl, (_, (refl, refl, refl), refl)))))))))), (refl, refl))))), (_, ((refl, refl), (refl, refl, refl)), (refl, (inl refl, (_, (refl, refl, refl), refl)))))))))))), (refl, refl))))))

section : Derives nesting_limit (defines_a section_of_lambda) section_of_lambda_items
unfolding out-Exp out-Decl out-Pat out-Ty out shown hidden shown-the_row-Decl-Equation-2-4-1 shown-the_row-Exp-2 shown-the_row-Exp-Case-3-3-7 shown-the_row-Exp-Infix-0-3-6 can_follow role_of
section = (_, refl, inr (refl, (_, (refl, refl), (DeclPlace.Top, (Ending.Applied true false), (_, (refl, (refl, (_, (refl, (_, (refl, refl, refl), refl)), ((Ending.Applied true false), refl, (_, ((refl, refl), (refl, refl, refl)), (refl, (_, ((refl, refl), (refl, refl, refl)), (_, ((Ending.Applied true false), ((refl, not_empty _ _), (_, ((refl, refl), (refl, refl, refl)), (_, (_, (refl, (_, (refl, refl, refl), refl)), refl), (_, ((refl, refl), (refl, refl, refl)), (refl, (inl refl, (_, (refl, refl, refl), refl)))))))), (_, (inl (inl refl), (_, (refl, refl, refl), refl)), ((refl, refl), (refl, refl, refl))))))))))), (refl, refl))))))

in_if : Derives nesting_limit (defines_a case_in_if) case_in_if_items
unfolding out-Exp out-Decl out-Pat out-Ty out shown hidden shown-the_row-Decl-Equation-2-4-1 shown-the_row-Exp-2 shown-the_row-Exp-Case-3-3-7 shown-the_row-Exp-Infix-0-3-6 can_follow role_of
in_if = (_, refl, inr (refl, (_, (refl, refl), (DeclPlace.Top, (Ending.Applied true false), (_, (refl, (refl, (_, (refl, (_, (refl, refl, refl), refl)), ((Ending.Applied true false), refl, (_, ((refl, refl), (refl, refl, refl)), (refl, (_, ((refl, refl), (refl, refl, refl)), (_, ((Ending.Closed true false), ((refl, refl), (_, ((refl, refl), (refl, refl, refl)), (_, ((Ending.Applied true false), (refl, (inl refl, (_, (refl, refl, refl), refl)))), (_, ((refl, refl), (refl, refl, refl)), inr (refl, (_, (refl, refl), (DeclPlace.Local, (Ending.Applied true false), (_, (refl, (_, (refl, (_, (refl, refl, refl), refl)), ((Ending.Applied true false), refl, (_, ((refl, refl), (refl, refl, refl)), (refl, (inl refl, (_, (refl, refl, refl), refl))))))), (refl, refl)))))))))), (_, ((refl, refl), (refl, refl, refl)), (_, ((Ending.Applied true false), (refl, (inl refl, (refl, refl, refl)))), (_, ((refl, refl), (refl, refl, refl)), (refl, (inl refl, (refl, refl, refl)))))))))))))), (refl, refl))))))

in_sum : Derives nesting_limit (defines_a sum_behind_case) sum_behind_case_items
unfolding out-Exp out-Decl out-Pat out-Ty out shown hidden shown-the_row-Decl-Equation-2-4-1 shown-the_row-Exp-2 shown-the_row-Exp-Case-3-3-7 shown-the_row-Exp-Infix-0-3-6 can_follow role_of
in_sum = (_, refl, inr (refl, (_, (refl, refl), (DeclPlace.Top, (Ending.Applied true false), (_, (refl, (refl, (_, (refl, (_, (refl, refl, refl), refl)), ((Ending.Applied true false), refl, (_, ((refl, refl), (refl, refl, refl)), (refl, (_, ((refl, refl), (refl, refl, refl)), (_, ((Ending.Applied true false), ((refl, tt), (_, refl, (_, ((Ending.Closed true false), ((refl, refl), (_, ((refl, refl), (refl, refl, refl)), (_, ((Ending.Applied true false), (refl, (inl refl, (_, (refl, refl, refl), refl)))), (_, ((refl, refl), (refl, refl, refl)), inr (refl, (_, (refl, refl), (DeclPlace.Local, (Ending.Annotated true false), (_, (refl, (_, (inl refl, (_, (refl, refl, refl), refl)), ((Ending.Annotated true false), refl, (_, ((refl, refl), (refl, refl, refl)), ((refl, (refl, refl)), (_, ((Ending.Applied true false), (refl, (inl refl, (refl, refl, refl)))), (_, ((refl, refl), (refl, refl, refl)), (inl refl, (_, (refl, refl, refl), refl))))))))), (refl, refl)))))))))), (_, (inl (inl refl), (_, (refl, refl, refl), refl)), (refl, (_, refl, (refl, (inl refl, (refl, refl, refl)))))))))), ((refl, refl), (refl, refl, refl)))))))))), (refl, refl))))))

pub worked_texts_lem : WorkedTexts
worked_texts_lem = (in_let, section, in_if, in_sum)
