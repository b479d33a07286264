-- What is left out of the language stands in no tree.
use Rattle.std.proofs.Common.{refl}
use Rattle.hr_grammar.specs.LeftOut.{left_out, AreKept, LeftOutStandsNowhere}
use Rattle.hr_grammar.proofs.walk.Rules.{InTrees}
use Rattle.hr_grammar.proofs.walk.Modules.{trees_keep_lem}
use Rattle.hr_grammar.proofs.walk.Without.{without_in_trees}

kept_in_trees : InTrees AreKept AreKept
kept_in_trees = without_in_trees left_out (λ class text e kept. kept) (λ text. refl) refl refl refl

pub left_out_lem : LeftOutStandsNowhere
left_out_lem = (trees_keep_lem AreKept AreKept kept_in_trees).1
