-- What the reader says of the promise, by the relation that agrees with it.
use Rattle.std.proofs.Common.{◌≡◌, ℕ, List, refl, sym, ap, subst, inl}
use Rattle.hr_base.specs.declared.lexeme.Item.{Item}
use Rattle.hr_base.specs.declared.lexeme.Items.{Items}
use Rattle.hr_tree.specs.declared.modules.Module.{Module}
use Rattle.hr_grammar.specs.Yields.{nesting_limit}
use Rattle.hr_grammar_cases.specs.Modules.{Derives}
use Rattle.hr_grammar_cases_laws.proofs.Agreeing.{yielded_is_derived_lem}
use Rattle.hr_grammar_finder_laws.specs.Ways.{Among}
use Rattle.hr_grammar_finder_laws.specs.Worked.{IsAlone, FindsNoTree}
use Rattle.hr_grammar_finder_laws.specs.Promise.{IsTreeOf, ReadAreFound, IsOnlyTree, HaveNoTree, WorkedTextsAreRead}
use Rattle.hr_grammar_finder_laws.proofs.Modules.{found_are_read_lem, derived_are_found_lem, the_only}
use Rattle.hr_grammar_finder_laws.proofs.Worked.{worked_texts_are_found_lem}

derived : (items : Items) (tree : Module) → IsTreeOf items tree → Derives nesting_limit tree items.list
derived items tree is = yielded_is_derived_lem tree items is.yields is.offside

tail_is : (items : Items) (tree : Module) → IsTreeOf items tree → tree.tail ≡ items.tail
tail_is items tree is = ap (λ (i : Items). i.tail) is.yields.items_are

pub read_are_found_lem : ReadAreFound
read_are_found_lem = record {
  found = λ items tree is. derived_are_found_lem.found nesting_limit items tree (derived items tree is) (tail_is items tree is);
  none = λ items e tree is. derived_are_found_lem.none nesting_limit items e tree (derived items tree is) (tail_is items tree is);
  alone = λ items e tree other is also. derived_are_found_lem.alone nesting_limit items e tree other (derived items tree is) (derived items other also) (tail_is items tree is) (tail_is items other also);
}

only : (tree : Module) (items : List Item) → IsAlone tree items → IsOnlyTree tree items
only tree items alone =
    let whole : Items = record { list = items; tail = tree.tail } in
    let read = found_are_read_lem whole tree (subst (λ trees. Among tree trees) (sym alone) (inl refl)) in
    record {
      is_one = record { yields = read.0; offside = read.1 };
      only = λ other is. the_only other tree (subst (λ trees. Among other trees) alone (read_are_found_lem.found whole other is));
    }

no_tree : {text : List ℕ} {items : List Item} → FindsNoTree text items → HaveNoTree items
no_tree {text} {items} has tail tree is = read_are_found_lem.none (record { list = items; tail = tail }) (has.found tail) tree is

pub worked_texts_are_read_lem : WorkedTextsAreRead
worked_texts_are_read_lem = let found = worked_texts_are_found_lem in record {
  annotated_in_let = only _ _ found.annotated_in_let.alone;
  section_of_lambda = only _ _ found.section_of_lambda.alone;
  case_in_if = only _ _ found.case_in_if.alone;
  sum_behind_case = only _ _ found.sum_behind_case.alone;
  case_in_tuple = only _ _ found.case_in_tuple.alone;
  case_in_comprehension = only _ _ found.case_in_comprehension.alone;
  case_in_sequence = only _ _ found.case_in_sequence.alone;
  case_in_case = only _ _ found.case_in_case.alone;
  where_in_let = only _ _ found.where_in_let.alone;
  unopened = no_tree found.unopened;
  unclosed = no_tree found.unclosed;
  class_word = no_tree found.class_word;
  let_without_in = no_tree found.let_without_in;
  then_at_margin = no_tree found.then_at_margin;
  twice_annotated = no_tree found.twice_annotated;
  case_or_comprehension = no_tree found.case_or_comprehension;
}
