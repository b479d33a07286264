use Rattle.hr_grammar_finder_laws.proofs.Promise.{read_are_found_lem}
use Rattle.hr_grammar_finder_laws.proofs.laws.read_are_found.Goals as goal

pub returns : goal.returns
returns c = read_are_found_lem
