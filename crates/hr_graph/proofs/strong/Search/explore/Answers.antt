-- The last group has an edge left, which is followed, or none, and it is labelled.
use Rattle.std.proofs.Common.{◌≡◌, ◌-◌, ◌<◌, ◌++◌, ◌∷◌, [], take, refl, subst, sym, ◌∙◌, arith}
use Rattle.std.specs.Vec.{vec_len}
use Rattle.hr_graph.specs.Strong.{IsFollowing, work, mark_of, IsSeen}
use Rattle.hr_graph.proofs.Members.{last_split}
use Rattle.hr_graph.proofs.FollowSteps.{sound_same, follow_next, close_last, less_close, seen_closing}
use Rattle.hr_graph.proofs.strong.Search.explore.Goals as goal

follows : (c : goal.After-follow-arg-1) → IsFollowing c.args.rows.now c.loop-start.self.marks.items c.loop-start.self.path.items c.loop-start.self.starts.items c.next_target.new.pending.items c.loop-start.self.labelled c.in-Some-next_target.target
follows c =
    let e = c.in-Some-next_target.ensures.some in
    let starts = c.loop-start.self.starts.items in
    follow_next c.args.rows.now _ _ starts (take (vec_len c.loop-start.self.starts - 1) starts) c.loop-start.self.pending.items c.next_target.new.pending.items c.loop-start.self.labelled c.in-Some.start e.0 c.in-Some-next_target.target
    c.loop-start.invariant.sound
    (last_split starts c.deref.result.now (take (vec_len c.loop-start.self.starts - 1) starts) c.in-Some.start (vec_len c.loop-start.self.starts) c.deref.ensures.value (c.in-Some.ensures ∙ c.last.ensures.value) c.deref.ensures.len refl)
    e.1 e.2

pub follow-requires-clause-follows : goal.follow-requires-clause-follows
follow-requires-clause-follows c = follows c

pub follow-requires-clause-within : goal.follow-requires-clause-within
follow-requires-clause-within c = let f = follows c in c.requires.targets _ _ f.edge

last_start : (c : goal.After-self-1) → c.loop-start.self.starts.items ≡ c.pop.new.self.items ++ c.in-Some.start ∷ []
last_start c = last_split c.loop-start.self.starts.items c.deref.result.now c.pop.new.self.items c.in-Some.start (vec_len c.loop-start.self.starts) c.deref.ensures.value (c.in-Some.ensures ∙ c.last.ensures.value) c.deref.ensures.len c.pop.ensures.rest

pub loop-start-smaller : goal.loop-start-smaller
loop-start-smaller c =
    let before = c.loop-start.self in
    subst (λ w. work c.args.rows.now c.shut.new.marks.items c.pop.new.self.items w < work c.args.rows.now before.marks.items before.starts.items before.pending.items) (sym c.in-None.ensures.none.0)
    (less_close c.args.rows.now before.marks.items c.shut.new.marks.items before.starts.items c.pop.new.self.items before.pending.items before.labelled c.in-Some.start
    (last_start c) (omega arith) c.shut.ensures.marks)

pub loop-start-preserved : goal.loop-start-preserved
loop-start-preserved c =
    let before = c.loop-start.self in
    record {
      sound = sound_same _ _ _ _ _ _ _ _ _ _ refl c.shut.ensures.path refl c.in-None.ensures.none.0 refl
          (close_last c.args.rows.now before.marks.items c.shut.new.marks.items before.path.items before.starts.items c.pop.new.self.items before.pending.items before.labelled c.in-Some.start
          c.loop-start.invariant.sound (last_start c) c.in-None.ensures.none.1 (omega arith) c.shut.ensures.marks);
      seen = λ v h. subst IsSeen (sym (c.shut.ensures.marks v)) (seen_closing before.labelled c.in-Some.start (mark_of before.marks.items v) (c.loop-start.invariant.seen v h));
    }
