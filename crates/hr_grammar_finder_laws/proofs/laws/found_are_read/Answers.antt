use Rattle.hr_grammar_finder_laws.proofs.Modules.{found_are_read_lem}
use Rattle.hr_grammar_finder_laws.proofs.laws.found_are_read.Goals as goal

pub returns : goal.returns
returns c = found_are_read_lem
