use Rattle.std.proofs.Common.{◌≡◌, ◌<◌, ◌==◌, ◌∙◌, [], length, Some, None, refl, sym, ap, subst, arith}
use Rattle.std.specs.List.{list_any}
use Rattle.hr_unify.specs.Tasks.{pairs_of}
use Rattle.hr_unify.specs.Unifiers.{IsOneOf}
use Rattle.hr_type.specs.declared.mono.Mono.TheVariants.{Var}
use Rattle.hr_type.specs.Types.{first_for}
use Rattle.hr_unify.specs.Working.{Finds}
use Rattle.hr_unify.proofs.Finding as finding
use Rattle.hr_unify.proofs.Loads as loads
use Rattle.hr_unify.proofs.find.+find.Goals as goal

pub find-find_variable-requires : goal.find-find_variable-requires
find-find_variable-requires t c = (loads.falls_var (pairs_of c.args.known.now) c.args.ty.now c.in-Var.other t c.in-Var.is c.decreases, (c.requires.good, c.requires.avoided))

pub find-find_among-requires : goal.find-find_among-requires
find-find_among-requires t c = (loads.falls_con (pairs_of c.args.known.now) c.args.ty.now _ _ _ t c.in-Con.is c.as_slice.ensures c.decreases, (c.requires.good, c.requires.avoided))

pub find-find-requires : goal.find-find-requires
find-find-requires t c = (loads.falls_from (pairs_of c.args.known.now) c.args.ty.now _ _ _ t c.in-Fun.is c.get.ensures c.decreases, (c.requires.good, c.requires.avoided))

pub find-find-requires-in-Fun : goal.find-find-requires-in-Fun
find-find-requires-in-Fun t c = (
  loads.falls_to (pairs_of c.args.known.now) c.args.ty.now _ _ _ t c.in-Fun.is c.get-in-Fun.ensures c.decreases,
  (c.requires.good, (finding.finds_as (pairs_of c.args.known.now) c.args.variable _ _ _ _ _ c.get.ensures c.in_default-2.is c.in_ok-found-in-Fun.ensures).1),
)

pub find-returns-in-Some-3 : goal.find-returns-in-Some-3
find-returns-in-Some-3 t c =
    finding.left_made (pairs_of c.args.known.now) c.args.variable c.args.ty.now c.in-Fun.from c.in-Fun.to _ _ _ _ _ _ c.in-Fun.is c.get.ensures c.in-Some-3.is c.in_ok-found-in-Fun.ensures
    c.in_ok-new-in-Fun.ensures (c.in_ok-to-in-Fun.ensures ∙ c.in_ok-copied-in-Fun.ensures ∙ c.get-in-Some-3.ensures)

pub find-returns-in_ok-entity_copied-in-Some-2 : goal.find-returns-in_ok-entity_copied-in-Some-2
find-returns-in_ok-entity_copied-in-Some-2 t c =
    finding.argument_made (pairs_of c.args.known.now) c.args.variable c.args.ty.now c.in-Con.entity _ c.in-Con.arguments _ c.in-Some-2.found _ _ c.in-Con.is c.as_slice.ensures c.in-Some-2.is
    c.in_ok-entity_copied-in-Some-2.ensures c.in_ok-found-in-Con.ensures

pub find-returns-in-None : goal.find-returns-in-None
find-returns-in-None t c =
    finding.no_argument_made (pairs_of c.args.known.now) c.args.variable c.args.ty.now c.in-Con.entity c.in-Con.arguments _ _ _ c.in-Con.is c.as_slice.ensures c.in-None.is c.in_ok-found-in-Con.ensures

pub find-returns-in_ok-new-in-Some-4 : goal.find-returns-in_ok-new-in-Some-4
find-returns-in_ok-new-in-Some-4 t c =
    finding.right_made (pairs_of c.args.known.now) c.args.variable c.args.ty.now c.in-Fun.from c.in-Fun.to _ _ _ _ _ _ c.in-Fun.is c.get-in-Fun.ensures c.in-Some-4.is c.in_ok-found-in-Fun-2.ensures
    c.in_ok-new-in-Some-4.ensures (c.in_ok-from-in-Some-4.ensures ∙ c.in_ok-copied-in-Some-4.ensures ∙ c.get-in-Some-4.ensures)

pub find-returns-in-None-2 : goal.find-returns-in-None-2
find-returns-in-None-2 t c =
    finding.neither_made (pairs_of c.args.known.now) c.args.variable c.args.ty.now c.in-Fun.from c.in-Fun.to _ _ _ _ _ _ c.in-Fun.is c.get.ensures c.get-in-Fun.ensures c.in_default-2.is c.in-None-2.is
    c.in_ok-found-in-Fun.ensures c.in_ok-found-in-Fun-2.ensures

pub find_among-find-requires : goal.find_among-find-requires
find_among-find-requires t c =
    let within : c.loop-i.i < length c.args.types.now = omega arith in
    (loads.falls_at (pairs_of c.args.known.now) c.args.types.now c.loop-i.i _ t within c.index-types-i.is c.decreases, (c.requires.good, c.loop-i.invariant.1))

pub find_among-loop-i-preserved : goal.find_among-loop-i-preserved
find_among-loop-i-preserved t c =
    let within : c.loop-i.i < length c.args.types.now = omega arith in
    let lacks = finding.finds_as (pairs_of c.args.known.now) c.args.variable _ _ _ _ _ refl c.in_default.is c.in_ok-found.ensures in
    (finding.among_more (pairs_of c.args.known.now) c.args.variable c.args.types.now c.loop-i.i _ within c.index-types-i.is c.loop-i.invariant.0 lacks.0, lacks.1)

pub find_variable-returns-then-other-variable : goal.find_variable-returns-then-other-variable
find_variable-returns-then-other-variable t c =
    finding.finds_as (pairs_of c.args.known.now) c.args.variable (Var c.args.variable) (Var c.args.other) [] _ (Some (Var c.args.variable)) (ap Var (sym c.if-other-variable.true)) refl
    (finding.finds_here (pairs_of c.args.known.now) c.args.variable [])

pub find_variable-returns-then-is_seen : goal.find_variable-returns-then-is_seen
find_variable-returns-then-is_seen t c =
    let among : IsOneOf c.args.other c.args.seen.now.items =
    finding.any_one c.args.other c.args.seen.now.items (sym (ap (list_any (λ x. x == c.args.other)) c.as_slice.ensures.value) ∙ sym c.is_seen.ensures ∙ c.if-is_seen.true) in
    finding.finds_seen (pairs_of c.args.known.now) c.args.variable c.args.other c.args.seen.now.items c.requires.avoided among

pub find_variable-find-requires : goal.find_variable-find-requires
find_variable-find-requires t c =
    let found : first_for c.args.other (pairs_of c.args.known.now) ≡ Some c.in-Some.ty.now = sym c.in-Some.ensures in
    (loads.falls_bound (pairs_of c.args.known.now) c.args.other c.in-Some.ty.now t c.requires.good found c.decreases, (c.requires.good, c.requires.avoided))

pub find_variable-returns-in-Some-2 : goal.find_variable-returns-in-Some-2
find_variable-returns-in-Some-2 t c =
    let bound : first_for c.args.other (pairs_of c.args.known.now) ≡ Some c.in-Some.ty.now = sym c.in-Some.ensures in
    finding.finds_through (pairs_of c.args.known.now) c.args.variable c.args.other c.in-Some.ty.now c.in-Some-2.found c.find.new.seen.items bound
    (finding.finds_as (pairs_of c.args.known.now) c.args.variable _ _ _ _ _ refl c.in-Some-2.is c.in_ok-found-in-Some.ensures)

pub find_variable-returns-in_ok-push-in-None-2 : goal.find_variable-returns-in_ok-push-in-None-2
find_variable-returns-in_ok-push-in-None-2 t c =
    let bound : first_for c.args.other (pairs_of c.args.known.now) ≡ Some c.in-Some.ty.now = sym c.in-Some.ensures in
    let lacks = finding.finds_as (pairs_of c.args.known.now) c.args.variable _ _ _ _ _ refl c.in-None-2.is c.in_ok-found-in-Some.ensures in
    subst (λ seen. Finds (pairs_of c.args.known.now) c.args.variable (Var c.args.other) seen None) (sym c.in_ok-push-in-None-2.ensures.items)
    (finding.finds_bound (pairs_of c.args.known.now) c.args.variable c.args.other c.in-Some.ty.now c.find.new.seen.items c.requires.good c.if-other-variable.false bound lacks)

pub find_variable-returns-in_ok-push-in-None : goal.find_variable-returns-in_ok-push-in-None
find_variable-returns-in_ok-push-in-None t c =
    let free : first_for c.args.other (pairs_of c.args.known.now) ≡ None = sym c.in-None.ensures in
    subst (λ seen. Finds (pairs_of c.args.known.now) c.args.variable (Var c.args.other) seen None) (sym c.in_ok-push-in-None.ensures.items)
    (finding.finds_free (pairs_of c.args.known.now) c.args.variable c.args.other c.args.seen.now.items c.if-other-variable.false free c.requires.avoided)
