use Rattle.std.proofs.Common.{◌≡◌, sym, ap, ◌∙◌, subst}
use Rattle.hr_plain.specs.Reading.{equations_of}
use Rattle.hr_plain.specs.Refusals.{IsLoadRefusal}
use Rattle.hr_plain.specs.Sets.{are_scoped}
use Rattle.hr_plain.proofs.Loaded.{not_plain, not_read, not_scoped, loaded, ok_given}
use Rattle.hr_plain.proofs.loading.load.Goals as goal

pub returns-then-not-are_plain-clause-refused : goal.returns-then-not-are_plain-clause-refused
returns-then-not-are_plain-clause-refused c =
    subst (IsLoadRefusal c.args.bytes.now) (sym c.outside_form.ensures) (not_plain c.args.bytes.now c.in-Ok.items c.in-Ok.ensures.read (sym c.are_plain.ensures ∙ c.if-not-are_plain.true))

pub returns-in-None-clause-refused : goal.returns-in-None-clause-refused
returns-in-None-clause-refused c =
    let found : c.in_ok-equations.field-0 ≡ equations_of c.in-Ok.items.list =
    ok_given _ c.equations.result c.in_ok-equations.field-0 (λ o. o ≡ equations_of c.in-Ok.items.list) c.in_ok-equations.ensures.cases c.equations.ensures in
    subst (IsLoadRefusal c.args.bytes.now) (sym c.outside_form-in-None.ensures) (not_read c.args.bytes.now c.in-Ok.items c.in-Ok.ensures.read (sym found ∙ c.in-None.is))

pub returns-then-branch-clause-read : goal.returns-then-branch-clause-read
returns-then-branch-clause-read c =
    let found : c.in_ok-equations.field-0 ≡ equations_of c.in-Ok.items.list =
    ok_given _ c.equations.result c.in_ok-equations.field-0 (λ o. o ≡ equations_of c.in-Ok.items.list) c.in_ok-equations.ensures.cases c.equations.ensures in
    let tested : c.in_ok-map_err.field-0 ≡ are_scoped c.as_slice.result.now =
    ok_given _ c.are_scoped.result c.in_ok-map_err.field-0 (λ b. b ≡ are_scoped c.as_slice.result.now) c.in_ok-map_err.ensures.cases c.are_scoped.ensures in
    loaded c.args.bytes.now c.in-Ok.items c.in-Some.equations c.in-Ok.ensures.read (sym c.are_plain.ensures ∙ c.if-not-are_plain.false) (sym found ∙ c.in-Some.is)
    (ap are_scoped (sym c.as_slice.ensures) ∙ sym tested ∙ c.if-branch.true)

pub returns-else-branch-clause-refused : goal.returns-else-branch-clause-refused
returns-else-branch-clause-refused c =
    let found : c.in_ok-equations.field-0 ≡ equations_of c.in-Ok.items.list =
    ok_given _ c.equations.result c.in_ok-equations.field-0 (λ o. o ≡ equations_of c.in-Ok.items.list) c.in_ok-equations.ensures.cases c.equations.ensures in
    let tested : c.in_ok-map_err.field-0 ≡ are_scoped c.as_slice.result.now =
    ok_given _ c.are_scoped.result c.in_ok-map_err.field-0 (λ b. b ≡ are_scoped c.as_slice.result.now) c.in_ok-map_err.ensures.cases c.are_scoped.ensures in
    subst (IsLoadRefusal c.args.bytes.now) (sym c.outside_form-else-branch.ensures)
    (not_scoped c.args.bytes.now c.in-Ok.items c.in-Some.equations c.in-Ok.ensures.read (sym found ∙ c.in-Some.is) (ap are_scoped (sym c.as_slice.ensures) ∙ sym tested ∙ c.if-branch.false))
