use Rattle.hr_tree.specs.Yields.{items_of}
use Rattle.hr_rules.proofs.Reading.{readings_join_lem}
use Rattle.hr_grammar.proofs.laws.read_is_joined.Goals as goal

pub returns : goal.returns
returns c = λ bytes tree reads. readings_join_lem bytes (items_of tree) reads.lexes
