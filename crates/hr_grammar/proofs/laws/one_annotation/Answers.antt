use Rattle.hr_grammar.proofs.Places.{one_annotation_lem}
use Rattle.hr_grammar.proofs.laws.one_annotation.Goals as goal

pub returns : goal.returns
returns c = one_annotation_lem
