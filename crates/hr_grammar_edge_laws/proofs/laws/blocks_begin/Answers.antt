use Rattle.hr_grammar_edge_laws.proofs.Modules.{blocks_begin_lem}
use Rattle.hr_grammar_edge_laws.proofs.laws.blocks_begin.Goals as goal

pub returns : goal.returns
returns c = blocks_begin_lem
