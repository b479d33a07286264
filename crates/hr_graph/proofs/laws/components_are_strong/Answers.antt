use Rattle.hr_graph.proofs.LawProofs.{together, whole}
use Rattle.hr_graph.proofs.laws.components_are_strong.Goals as goal

pub returns-clause-together : goal.returns-clause-together
returns-clause-together c = together

pub returns-clause-whole : goal.returns-clause-whole
returns-clause-whole c = whole
