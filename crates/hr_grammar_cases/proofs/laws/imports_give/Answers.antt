use Rattle.hr_grammar_cases.proofs.Imports.{imports_give_lem}
use Rattle.hr_grammar_cases.proofs.laws.imports_give.Goals as goal

pub returns : goal.returns
returns c = imports_give_lem
