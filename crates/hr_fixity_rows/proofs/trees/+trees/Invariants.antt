use Rattle.hr_fixity_rows.proofs.trees.+trees.Given as goal

abbrev pub decreases-trees : goal.decreases-trees
decreases-trees l = l.turns
