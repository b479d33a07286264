use Rattle.hr_grammar_cases.proofs.Places.{levels_widen_places_lem}
use Rattle.hr_grammar_cases.proofs.laws.places_widen.Goals as goal

pub returns : goal.returns
returns c = levels_widen_places_lem
