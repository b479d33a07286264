use Rattle.hr_grammar.proofs.Places.{no_annotated_guard_lem}
use Rattle.hr_grammar.proofs.laws.guards_are_unannotated.Goals as goal

pub returns : goal.returns
returns c = no_annotated_guard_lem
