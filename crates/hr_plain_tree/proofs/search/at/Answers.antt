use Rattle.std.proofs.Common.{min, position, Option, None, refl, ap, ◌∙◌, arith, ℕ, List}
use Rattle.std.specs.Option.{option_map}
use Rattle.std.specs.List.{flat_map}
use Rattle.hr_base.specs.declared.lexeme.Item.{Item}
use Rattle.hr_rules.specs.Counted.{greatest}
use Rattle.hr_rules.specs.Positions.{is_same_pos, positions_of}
use Rattle.hr_plain_tree.specs.declared.search.Search.{Search}
use Rattle.hr_plain_tree.specs.Yields.{equation_items, module_items}
use Rattle.hr_plain_tree.proofs.Trees.{equations_passed}
use Rattle.hr_plain_tree.proofs.Found.{found_at, number_fits}
use Rattle.hr_plain_tree.proofs.search.at.Goals as goal

pub returns-clause-shown : goal.returns-clause-shown
returns-clause-shown c =
    let begun : Search = record { pos = c.args.pos; reached = c.origin.result; passed = 0; found = None } in
    let list = c.as_slice-equation-items.result.now in
    let end = equations_passed begun c.loop-equation.search list c.loop-equation.equation-index c.loop-equation-test.false c.loop-equation.invariant in
    let shown : List Item → Option ℕ = λ items. option_map (min greatest) (position (is_same_pos c.args.pos) (positions_of items)) in
    ap (λ s. s.found) end
    ∙ found_at (flat_map equation_items list) begun (omega arith) (omega arith) c.origin.ensures refl refl
    ∙ ap (λ l. shown (flat_map equation_items l)) c.as_slice-equation-items.ensures

pub returns-clause-exact : goal.returns-clause-exact
returns-clause-exact c = λ fits. returns-clause-shown c ∙ number_fits (module_items c.args.tree.now) c.args.pos fits
