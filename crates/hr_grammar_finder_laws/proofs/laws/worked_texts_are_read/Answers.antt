use Rattle.hr_grammar_finder_laws.proofs.Promise.{worked_texts_are_read_lem}
use Rattle.hr_grammar_finder_laws.proofs.laws.worked_texts_are_read.Goals as goal

pub returns : goal.returns
returns c = worked_texts_are_read_lem
