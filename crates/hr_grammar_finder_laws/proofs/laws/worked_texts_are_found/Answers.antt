use Rattle.hr_grammar_finder_laws.proofs.Worked.{worked_texts_are_found_lem}
use Rattle.hr_grammar_finder_laws.proofs.laws.worked_texts_are_found.Goals as goal

pub returns : goal.returns
returns c = worked_texts_are_found_lem
