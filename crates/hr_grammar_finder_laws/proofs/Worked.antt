-- What the reader finds of worked texts, computed.
use Rattle.std.proofs.Common.{◌≡◌, ℕ, List, [], length, refl, sym, subst, inl}
use Rattle.hr_base.specs.declared.lexeme.Item.{Item}
use lib.Chars.{codes}
use Rattle.hr_rules.specs.Lexing.{joined}
use Rattle.hr_rules.specs.CanFollow.{can_follow}
use Rattle.hr_rules.specs.Roles.{role_of}
use Rattle.hr_tree.specs.declared.modules.Module.{Module}
use Rattle.hr_grammar.specs.Yields.{nesting_limit}
use Rattle.hr_grammar.specs.Worked.{annotated_in_let, section_of_lambda, case_in_if, sum_behind_case, case_in_tuple, case_in_comprehension, case_in_sequence, case_in_case, where_in_let}
use Rattle.hr_grammar_cases.specs.Modules.{Derives}
use Rattle.hr_grammar_cases.specs.Worked.{annotated_in_let_items, section_of_lambda_items, case_in_if_items, sum_behind_case_items, defines_a}
use Rattle.hr_grammar_cases.proofs.Worked.{worked_texts_lem}
use Rattle.hr_grammar_finder_laws.specs.Modules.{trees_of}
use Rattle.hr_grammar_finder_laws.specs.Worked.{IsAlone, FindsOneTree, FindsSomeTree, FindsNoTree, case_in_tuple_items, case_in_comprehension_items, case_in_sequence_items, case_in_case_items, where_in_let_items, whole_module_items, braced_items, unopened_items, unclosed_items, class_items, let_without_in_items, then_at_margin_items, twice_annotated_items, case_or_comprehension_items, WorkedTextsAreFound}
use Rattle.hr_grammar_finder_laws.proofs.Modules.{found_are_derived_lem, derived_are_found_lem, only_one}
use Rattle.hr_grammar_finder_laws.proofs.Rolled.{tuple_alone, comprehension_alone, sequence_alone, nested_alone, locals_alone}
use Rattle.hr_grammar_finder_laws.specs.Ways.{Among}

-- one tree is found, and it is that which is derived
one_tree : (text : List ℕ) (tree : Module) (items : List Item) → joined items [] ≡ text → Derives nesting_limit tree items
    → length (trees_of nesting_limit (record { list = items; tail = tree.tail })) ≡ 1 → FindsOneTree text tree items
one_tree text tree items s d e =
    let found = derived_are_found_lem.found nesting_limit (record { list = items; tail = tree.tail }) tree d refl in
    record { spelled = s; alone = only_one tree (trees_of nesting_limit (record { list = items; tail = tree.tail })) e found; derived = d }

-- this tree alone is found, so it is derived
alone_tree : (text : List ℕ) (tree : Module) (items : List Item) → joined items [] ≡ text → IsAlone tree items → FindsOneTree text tree items
alone_tree text tree items s e = record {
  spelled = s;
  alone = e;
  derived = found_are_derived_lem.derived nesting_limit (record { list = items; tail = tree.tail }) tree (subst (λ trees. Among tree trees) (sym e) (inl refl));
}

-- where none is found, none is derived
no_tree : (text : List ℕ) (items : List Item) → joined items [] ≡ text → ((tail : List ℕ) → trees_of nesting_limit (record { list = items; tail = tail }) ≡ []) → FindsNoTree text items
no_tree text items s e = record {
  spelled = s;
  found = e;
  derived = λ tree d. derived_are_found_lem.none nesting_limit (record { list = items; tail = tree.tail }) (e tree.tail) tree d refl;
}

in_let : length (trees_of nesting_limit (record { list = annotated_in_let_items; tail = [] })) ≡ 1
unfolding can_follow role_of
in_let = refl

section : length (trees_of nesting_limit (record { list = section_of_lambda_items; tail = [] })) ≡ 1
unfolding can_follow role_of
section = refl

in_if : length (trees_of nesting_limit (record { list = case_in_if_items; tail = [] })) ≡ 1
unfolding can_follow role_of
in_if = refl

in_sum : length (trees_of nesting_limit (record { list = sum_behind_case_items; tail = [] })) ≡ 1
unfolding can_follow role_of
in_sum = refl

whole : FindsSomeTree (codes "module M (f,) where\nimport N ()\ndata T = C T | D\nf :: T -> T\nf x | y = z\n where y = x") whole_module_items
unfolding can_follow role_of
whole = record { spelled = refl; found = refl }

braced : FindsSomeTree (codes "{; a = b;; c + d = - 1; }") braced_items
unfolding can_follow role_of
braced = record { spelled = refl; found = refl }

unopened : (tail : List ℕ) → trees_of nesting_limit (record { list = unopened_items; tail = tail }) ≡ []
unfolding can_follow role_of
unopened tail = refl

unclosed : (tail : List ℕ) → trees_of nesting_limit (record { list = unclosed_items; tail = tail }) ≡ []
unfolding can_follow role_of
unclosed tail = refl

class_word : (tail : List ℕ) → trees_of nesting_limit (record { list = class_items; tail = tail }) ≡ []
unfolding can_follow role_of
class_word tail = refl

let_without_in : (tail : List ℕ) → trees_of nesting_limit (record { list = let_without_in_items; tail = tail }) ≡ []
unfolding can_follow role_of
let_without_in tail = refl

then_at_margin : (tail : List ℕ) → trees_of nesting_limit (record { list = then_at_margin_items; tail = tail }) ≡ []
unfolding can_follow role_of
then_at_margin tail = refl

twice_annotated : (tail : List ℕ) → trees_of nesting_limit (record { list = twice_annotated_items; tail = tail }) ≡ []
unfolding can_follow role_of
twice_annotated tail = refl

case_or_comprehension : (tail : List ℕ) → trees_of nesting_limit (record { list = case_or_comprehension_items; tail = tail }) ≡ []
unfolding can_follow role_of
case_or_comprehension tail = refl

pub worked_texts_are_found_lem : WorkedTextsAreFound
worked_texts_are_found_lem = record {
  annotated_in_let = one_tree _ (defines_a annotated_in_let) annotated_in_let_items refl worked_texts_lem.0 in_let;
  section_of_lambda = one_tree _ (defines_a section_of_lambda) section_of_lambda_items refl worked_texts_lem.1 section;
  case_in_if = one_tree _ (defines_a case_in_if) case_in_if_items refl worked_texts_lem.2 in_if;
  sum_behind_case = one_tree _ (defines_a sum_behind_case) sum_behind_case_items refl worked_texts_lem.3 in_sum;
  case_in_tuple = alone_tree _ (defines_a case_in_tuple) case_in_tuple_items refl tuple_alone;
  case_in_comprehension = alone_tree _ (defines_a case_in_comprehension) case_in_comprehension_items refl comprehension_alone;
  case_in_sequence = alone_tree _ (defines_a case_in_sequence) case_in_sequence_items refl sequence_alone;
  case_in_case = alone_tree _ (defines_a case_in_case) case_in_case_items refl nested_alone;
  where_in_let = alone_tree _ (defines_a where_in_let) where_in_let_items refl locals_alone;
  whole_module = whole;
  braced = braced;
  unopened = no_tree _ unopened_items refl unopened;
  unclosed = no_tree _ unclosed_items refl unclosed;
  class_word = no_tree _ class_items refl class_word;
  let_without_in = no_tree _ let_without_in_items refl let_without_in;
  then_at_margin = no_tree _ then_at_margin_items refl then_at_margin;
  twice_annotated = no_tree _ twice_annotated_items refl twice_annotated;
  case_or_comprehension = no_tree _ case_or_comprehension_items refl case_or_comprehension;
}
