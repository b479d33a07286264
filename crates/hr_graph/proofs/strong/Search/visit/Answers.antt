use Rattle.std.proofs.Common.{◌≡◌}
use Rattle.hr_graph.specs.declared.strong.Mark.TheVariants.{Unseen}
use Rattle.hr_graph.specs.Strong.{mark_of}
use Rattle.hr_graph.proofs.FollowSteps.{sound_same, read_mark, row_read}
use Rattle.hr_graph.proofs.LabelSteps.{enter_root}
use Rattle.hr_graph.proofs.strong.Search.visit.Goals as goal

pub explore-requires-clause-sound : goal.explore-requires-clause-sound
explore-requires-clause-sound c =
    let e = c.in_ok-enter.ensures in
    let is : mark_of c.args.self.now.marks.items c.args.root ≡ Unseen
    = read_mark c.args.rows.now c.args.self.now.marks.items c.args.root c.index.result.now Unseen c.requires.sound.long c.requires.within c.index.ensures c.if-not-is_unseen.ensures in
    sound_same _ _ _ _ _ _ _ _ _ _ e.marks e.path e.starts
    (row_read c.args.rows.now c.args.root _ c.index-rows-root.result _ _ _ c.requires.within c.index-rows-root.is c.as_slice.ensures e.pending) e.labelled
    (enter_root _ _ _ _ _ _ c.args.root c.requires.sound c.requires.empty c.requires.within is)
