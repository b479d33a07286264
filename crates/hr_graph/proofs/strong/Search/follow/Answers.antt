-- The three cases of the target's mark.
use Rattle.std.proofs.Common.{◌≡◌}
use Rattle.hr_graph.specs.declared.strong.Mark.TheVariants.{Unseen}
use Rattle.hr_graph.specs.Strong.{mark_of}
use Rattle.hr_graph.proofs.FollowSteps.{sound_same, follow_unseen, less_unseen, follow_open, follow_labelled, read_mark, less_same, row_read}
use Rattle.hr_graph.proofs.strong.Search.follow.Goals as goal

pub returns-in_ok-enter-in-Unseen-clause-sound : goal.returns-in_ok-enter-in-Unseen-clause-sound
returns-in_ok-enter-in-Unseen-clause-sound c =
    let e = c.in_ok-enter-in-Unseen.ensures in
    let is : mark_of c.args.self.now.marks.items c.args.target ≡ Unseen
    = read_mark c.args.rows.now c.args.self.now.marks.items c.args.target c.index.result.now Unseen c.requires.follows.long c.requires.within c.index.ensures c.in-Unseen.is in
    sound_same _ _ _ _ _ _ _ _ _ _ e.marks e.path e.starts
    (row_read c.args.rows.now c.args.target _ c.index-rows-target.result _ _ _ c.requires.within c.index-rows-target.is c.as_slice.ensures e.pending) e.labelled
    (follow_unseen _ _ _ _ _ _ c.args.target c.requires.follows c.requires.within is)

pub returns-in_ok-enter-in-Unseen-clause-less : goal.returns-in_ok-enter-in-Unseen-clause-less
returns-in_ok-enter-in-Unseen-clause-less c =
    let e = c.in_ok-enter-in-Unseen.ensures in
    let is : mark_of c.args.self.now.marks.items c.args.target ≡ Unseen
    = read_mark c.args.rows.now c.args.self.now.marks.items c.args.target c.index.result.now Unseen c.requires.follows.long c.requires.within c.index.ensures c.in-Unseen.is in
    less_same c.args.rows.now _ _ _ _ _ _ _ e.marks e.starts
    (row_read c.args.rows.now c.args.target _ c.index-rows-target.result _ _ _ c.requires.within c.index-rows-target.is c.as_slice.ensures e.pending)
    (less_unseen c.args.rows.now c.args.self.now.marks.items c.args.self.now.path.items c.args.self.now.starts.items c.args.self.now.pending.items c.args.target c.requires.follows.long c.requires.within is)

pub returns-in-Open-clause-sound : goal.returns-in-Open-clause-sound
returns-in-Open-clause-sound c = follow_open _ _ _ _ _ _ _ c.args.target c.in-Open.place c.requires.follows
    (read_mark c.args.rows.now c.args.self.now.marks.items c.args.target c.index.result.now _ c.requires.follows.long c.requires.within c.index.ensures c.in-Open.is) c.join.ensures

pub returns-in-Labelled-clause-sound : goal.returns-in-Labelled-clause-sound
returns-in-Labelled-clause-sound c = follow_labelled _ _ _ _ _ _ c.args.target c.in-Labelled.field-0 c.requires.follows
    (read_mark c.args.rows.now c.args.self.now.marks.items c.args.target c.index.result.now _ c.requires.follows.long c.requires.within c.index.ensures c.in-Labelled.is)
