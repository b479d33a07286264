use Rattle.hr_grammar_cases.proofs.Worked.{worked_texts_lem}
use Rattle.hr_grammar_cases.proofs.laws.worked_texts.Goals as goal

pub returns : goal.returns
returns c = worked_texts_lem
