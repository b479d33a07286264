use Rattle.std.proofs.Common.{None, refl, ap, ◌∙◌, arith}
use Rattle.hr_tree.specs.declared.search.Search.{Search}
use Rattle.hr_tree.specs.Yields.{module_items}
use Rattle.hr_tree.proofs.Found.{found_at, number_fits}
use Rattle.hr_tree.proofs.search.at.Goals as goal

pub returns-clause-shown : goal.returns-clause-shown
returns-clause-shown c =
    let begun : Search = record { pos = c.args.pos; reached = c.origin.result; passed = 0; found = None } in
    ap (λ s. s.found) c.in-Ok.ensures
    ∙ found_at (module_items c.args.tree.now) begun (omega arith) (omega arith) c.origin.ensures refl refl

pub returns-clause-exact : goal.returns-clause-exact
returns-clause-exact c = λ fits. returns-clause-shown c ∙ number_fits (module_items c.args.tree.now) c.args.pos fits
