-- The last target is looked at, and dropped if it is done.
use Rattle.std.proofs.Common.{◌≡◌, ◌⊎◌, ◌-◌, ◌++◌, ◌∷◌, [], take, subst, sym, ◌∙◌, refl, inl, inr}
use Rattle.std.specs.Prelude.{Contains}
use Rattle.std.specs.Vec.{vec_len}
use Rattle.std.proofs.lemmas.List.Elements.{Contains-push}
use Rattle.hr_graph.specs.Ready.{IsDone}
use Rattle.hr_graph.proofs.Members.{last_split, contains_kept, contains_more}
use Rattle.hr_graph.proofs.ready.last_needed.Goals as goal

pub bounds-done-target : goal.bounds-done-target
bounds-done-target c =
    let items = c.loop-target.row-inside.list.items in
    let n = vec_len c.loop-target.row-inside.list in
    let split : items ≡ take (n - 1) items ++ c.in-Some.target ∷ []
    = last_split items c.deref.result.now (take (n - 1) items) c.in-Some.target n c.deref.ensures.value (c.in-Some.ensures ∙ c.last.ensures.value) c.deref.ensures.len refl in
    c.requires c.in-Some.target (c.loop-target.invariant.kept c.in-Some.target (subst (λ xs. Contains xs c.in-Some.target) (sym split) (Contains-push (take (n - 1) items) c.in-Some.target)))

pub loop-target-preserved : goal.loop-target-preserved
loop-target-preserved c =
    let items = c.loop-target.row-inside.list.items in
    let rest = c.pop.new.self.items in
    let split : items ≡ rest ++ c.in-Some.target ∷ []
    = last_split items c.deref.result.now rest c.in-Some.target (vec_len c.loop-target.row-inside.list) c.deref.ensures.value (c.in-Some.ensures ∙ c.last.ensures.value) c.deref.ensures.len c.pop.ensures.rest in
    record {
      kept = λ v h. c.loop-target.invariant.kept v (subst (λ xs. Contains xs v) (sym split) (contains_kept rest c.in-Some.target v h));
      dropped = λ v h. elim (c.loop-target.invariant.dropped v h) [
        | inl in' ↦ contains_more (λ v. Contains rest v ⊎ IsDone c.args.done.now v) rest c.in-Some.target (λ v old. inl old) (inr c.if-not-done-target.false) v (subst (λ xs. Contains xs v) split in')
        | inr done ↦ inr done
      ];
    }
