use Rattle.std.proofs.Common.{◌≡◌, [], eqb, map, ap, sym, ◌∙◌, rules}
use Rattle.std.proofs.lemmas.Bool.{false≢true}
use Rattle.hr_type.specs.Types.{bounded}
use Rattle.hr_type.proofs.Layers.{smaller}
use Rattle.hr_type.proofs.Choices.{narrowed, narrows_as, refused}
use Rattle.hr_type.proofs.Matched as matched
use Rattle.hr_type.proofs.Reading.{popped, fewer}
use Rattle.hr_type.proofs.general.instance.Goals as goal

pub returns-then-not-branch : goal.returns-then-not-branch
returns-then-not-branch c =
    matched.refused_all _ _ _
    (matched.variable_refused _ _ _ _ _ _ _ _ _ _ (popped (λ t. t.now) _ _ _ c.in-Some.ensures.items) (popped (λ t. t.now) _ _ _ c.in-Some-pop.ensures.items) c.loop-pattern.invariant
    (λ by f p. refused c.in_ok-match_variable.field-0 _ _ _ c.if-not-branch.true c.in_ok-match_variable.ensures by f (sym (matched.of_variable _ _ _ c.in-Var.is) ∙ p)))

pub loop-pattern-smaller-in-Var : goal.loop-pattern-smaller-in-Var
loop-pattern-smaller-in-Var c = fewer _ _ _ (popped (λ t. t.now) _ _ _ c.in-Some.ensures.items)

pub loop-pattern-preserved-in-Var : goal.loop-pattern-preserved-in-Var
loop-pattern-preserved-in-Var c =
    matched.variable_matched _ _ _ _ _ _ _ _ _ _ (popped (λ t. t.now) _ _ _ c.in-Some.ensures.items) (popped (λ t. t.now) _ _ _ c.in-Some-pop.ensures.items) c.loop-pattern.invariant _
    (narrows_as _ _ _ _ (λ by p. matched.of_variable (bounded c.args.general.now.bound by) _ _ c.in-Var.is ∙ p) (λ by p. sym (matched.of_variable (bounded c.args.general.now.bound by) _ _ c.in-Var.is) ∙ p)
    (narrowed c.in_ok-match_variable.field-0 _ _ _ c.if-not-branch.false c.in_ok-match_variable.ensures))

pub returns-then-not-have_same_head : goal.returns-then-not-have_same_head
returns-then-not-have_same_head c =
    matched.refused_all _ _ _
    (matched.layer_refused _ _ _ _ _ _ _ _ _ _ (popped (λ t. t.now) _ _ _ c.in-Some.ensures.items) (popped (λ t. t.now) _ _ _ c.in-Some-pop.ensures.items) c.loop-pattern.invariant
    c.in_default-pattern.not-Var (λ e. false≢true (sym c.if-not-have_same_head.true ∙ c.have_same_head.ensures.1 e)))

pub loop-pattern-smaller : goal.loop-pattern-smaller
loop-pattern-smaller c = smaller _ _ _ _ (popped (λ t. t.now) _ _ _ c.in-Some.ensures.items) c.in_ok-push_parts.ensures

pub loop-pattern-preserved : goal.loop-pattern-preserved
loop-pattern-preserved c =
    matched.layer_matched _ _ _ _ _ _ _ _ _ _ (popped (λ t. t.now) _ _ _ c.in-Some.ensures.items) (popped (λ t. t.now) _ _ _ c.in-Some-pop.ensures.items) c.loop-pattern.invariant
    c.in_default-pattern.not-Var (c.have_same_head.ensures.0 c.if-not-have_same_head.false) _ _ c.in_ok-push_parts.ensures c.in_ok-push_parts-2.ensures

pub returns : goal.returns
returns c =
    let none : c.loop-pattern.generals.items ≡ [] = search rules in
    matched.ended _ _ _ _ _ _ _ (ap (map (λ t. t.now)) none) (matched.empty_tells _ _ _ (let k = c.loop-pattern.specials.ok in c.is_empty.ensures ∙ ap (λ n. eqb n 0) k.0)) c.loop-pattern.invariant
