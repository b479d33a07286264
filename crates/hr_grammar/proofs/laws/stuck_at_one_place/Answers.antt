use Rattle.hr_grammar.proofs.Deep.{stuck_at_one_place_lem}
use Rattle.hr_grammar.proofs.laws.stuck_at_one_place.Goals as goal

pub returns : goal.returns
returns c = stuck_at_one_place_lem
