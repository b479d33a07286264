use Rattle.hr_grammar_cases.proofs.Stops.{pieces_stop_lem}
use Rattle.hr_grammar_cases.proofs.laws.pieces_stop.Goals as goal

pub returns : goal.returns
returns c = pieces_stop_lem
