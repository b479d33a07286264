use Rattle.hr_grammar_finder_laws.proofs.Modules.{derived_are_found_lem}
use Rattle.hr_grammar_finder_laws.proofs.laws.derived_are_found.Goals as goal

pub returns : goal.returns
returns c = derived_are_found_lem
