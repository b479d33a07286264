use Rattle.hr_fixity.proofs.Complete.{complete, finishes_once}
use Rattle.hr_fixity.proofs.laws.one_tree.Goals as goal

pub returns : goal.returns
returns c = λ seq t u a b. finishes_once seq.root seq.parts t u (complete seq.root seq.parts t a.graded a.rooted) (complete seq.root seq.parts u b.graded b.rooted)
