use Rattle.std.proofs.Common.{◌≡◌, Some, None, sym, subst, ◌∙◌}
use Rattle.hr_type.specs.Types.{bounded, first_for}
use Rattle.hr_type.specs.Matching.{Narrows}
use Rattle.hr_type.proofs.Choices.{settled_equal, narrows_choice, fits_first, bounded_below}
use Rattle.hr_type.proofs.general.match_variable.Goals as goal

pub returns-in-Some : goal.returns-in-Some
returns-in-Some c =
    let chosen = c.args.chosen.now.entries in
    let found : first_for c.args.variable chosen ≡ Some c.in-Some.ty.now = sym c.in-Some.ensures in
    settled_equal c.is_same.result chosen _ c.in-Some.ty.now c.args.special.now
    (λ by f p. sym (fits_first by c.args.variable c.in-Some.ty.now chosen found f) ∙ sym (bounded_below by c.args.variable c.args.bound c.if-variable-bound.false) ∙ p)
    (λ by f e. bounded_below by c.args.variable c.args.bound c.if-variable-bound.false ∙ fits_first by c.args.variable c.in-Some.ty.now chosen found f ∙ e)
    c.is_same.ensures

pub returns : goal.returns
returns c =
    let chosen = c.args.chosen.now.entries in
    let missing : first_for c.args.variable chosen ≡ None = sym c.in_default.ensures in
    subst (λ items. Narrows chosen items (λ by. bounded c.args.bound by c.args.variable ≡ c.args.special.now)) (sym c.in_ok-add.ensures.added)
    (narrows_choice c.args.variable c.in_ok-copied.field-0 chosen _ missing
    (λ by p. sym (bounded_below by c.args.variable c.args.bound c.if-variable-bound.false) ∙ p ∙ sym c.in_ok-copied.ensures)
    (λ by e. bounded_below by c.args.variable c.args.bound c.if-variable-bound.false ∙ e ∙ c.in_ok-copied.ensures))
