use Rattle.hr_parse_lexeme.specs.declared.mark.Mark.{Mark}
use Rattle.hr_parse_type.proofs.Heads.{opens_types}
use Rattle.hr_parse_type.proofs.reading.type_square.Goals as goal

pub returns : goal.returns
returns c = opens_types Mark.LeftSquare c.square.result _ _ c.square.ensures
