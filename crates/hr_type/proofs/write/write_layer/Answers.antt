use Rattle.std.proofs.Common.{◌++◌, [], codes, ap, sym, ◌∙◌, arith, map}
use Rattle.hr_type.specs.Spelling as spec
use Rattle.hr_type.specs.Spelling.{Written, bytes_of, within, written}
use Rattle.hr_type.specs.Jobs.{pending}
use Rattle.hr_type.specs.Sizes.{size, total}
use Rattle.hr_type.proofs.Reading.{on_ok}
use Rattle.hr_type.proofs.Freeing.{size_con, size_fun, size_var}
use Rattle.hr_type.proofs.Spellings.{written_var, written_enclosed, written_applied, written_fun}
use Rattle.hr_type.proofs.Jobbing.{one_text, bracket_text, argument_text, arrow_text}
use Rattle.hr_type.proofs.write.write_layer.Goals as goal

pub returns-in-Var-clause-text : goal.returns-in-Var-clause-text
returns-in-Var-clause-text c =
    on_ok c.write_variable.result _ _ (λ h. one_text _ _ _ _ _ h (sym (ap (λ (w : Written). bytes_of w.pieces) (written_var c.args.scope.now _ _ c.in-Var.is)))) c.write_variable.ensures

pub returns-in-Var-clause-work : goal.returns-in-Var-clause-work
returns-in-Var-clause-work c = on_ok c.write_variable.result _ _ (λ h. omega (arith, size_var _ _ c.in-Var.is)) c.write_variable.ensures

pub returns-in_ok-push_text-in-Some-clause-text : goal.returns-in_ok-push_text-in-Some-clause-text
returns-in_ok-push_text-in-Some-clause-text c =
    let scope = c.args.scope.now in
    on_ok c.push_listed.result _ _
    (λ h. bracket_text _ _ _ scope c.in-Con.entity c.in-Some.brackets (map (written scope) c.in-Con.arguments) _ _ (c.in_ok-append-in-Some.ensures ∙ ap (λ x. c.args.out.now.items ++ x) c.opening.ensures)
    (c.in_ok-push_text-in-Some.ensures.text ∙ ap (λ x. x ++ pending scope c.args.jobs.now.items) c.closing.ensures)
    (h ∙ ap (λ ts. bytes_of (spec.listed (map (written scope) ts)) ++ pending scope c.push_text.new.jobs.items) c.as_slice.ensures)
    ∙ sym (ap (λ (w : Written). c.args.out.now.items ++ (bytes_of w.pieces ++ pending scope c.args.jobs.now.items))
    (written_enclosed scope _ _ _ c.in-Some.brackets c.in-Con.is (sym c.brackets_of.ensures ∙ c.in-Some.is))))
    c.push_listed.ensures.text

pub returns-in_ok-push_text-in-Some-clause-work : goal.returns-in_ok-push_text-in-Some-clause-work
returns-in_ok-push_text-in-Some-clause-work c =
    on_ok c.push_listed.result _ _ (λ h. omega (arith, h, c.in_ok-push_text-in-Some.ensures.work, size_con _ _ _ c.in-Con.is, ap (λ ts. total (map size ts)) c.as_slice.ensures)) c.push_listed.ensures.work

pub returns-in_ok-write_name-in-None-clause-text : goal.returns-in_ok-write_name-in-None-clause-text
returns-in_ok-write_name-in-None-clause-text c =
    let scope = c.args.scope.now in
    on_ok c.push_arguments.result _ _
    (λ h. argument_text _ _ _ scope c.in-Con.entity (map (written scope) c.in-Con.arguments) _ c.in_ok-write_name-in-None.ensures
    (h ∙ ap (λ ts. bytes_of (spec.arguments (map (written scope) ts)) ++ pending scope c.args.jobs.now.items) c.as_slice-in-None.ensures)
    ∙ sym (ap (λ (w : Written). c.args.out.now.items ++ (bytes_of w.pieces ++ pending scope c.args.jobs.now.items)) (written_applied scope _ _ _ c.in-Con.is (sym c.brackets_of.ensures ∙ c.in-None.is))))
    c.push_arguments.ensures.text

pub returns-in_ok-write_name-in-None-clause-work : goal.returns-in_ok-write_name-in-None-clause-work
returns-in_ok-write_name-in-None-clause-work c =
    on_ok c.push_arguments.result _ _ (λ h. omega (arith, h, size_con _ _ _ c.in-Con.is, ap (λ ts. total (map size ts)) c.as_slice-in-None.ensures)) c.push_arguments.ensures.work

pub returns-in_ok-push_type-in-Fun-clause-text : goal.returns-in_ok-push_type-in-Fun-clause-text
returns-in_ok-push_type-in-Fun-clause-text c =
    let scope = c.args.scope.now in
    on_ok c.push_type-in-Fun.result _ _
    (λ h. arrow_text c.args.out.now.items (pending scope c.args.jobs.now.items) _ _ (written scope c.in-Fun.from) (written scope c.in-Fun.to)
    (c.in_ok-push_type-in-Fun.ensures.text ∙ ap (λ t. (codes " -> " ++ bytes_of (within 0 (written scope t))) ++ pending scope c.args.jobs.now.items) c.get.ensures)
    (h ∙ ap (λ t. ([] ++ bytes_of (within 1 (written scope t))) ++ pending scope c.push_type.new.jobs.items) c.get-in-Fun.ensures)
    ∙ sym (ap (λ (w : Written). c.args.out.now.items ++ (bytes_of w.pieces ++ pending scope c.args.jobs.now.items)) (written_fun scope _ _ _ c.in-Fun.is)))
    c.push_type-in-Fun.ensures.text

pub returns-in_ok-push_type-in-Fun-clause-work : goal.returns-in_ok-push_type-in-Fun-clause-work
returns-in_ok-push_type-in-Fun-clause-work c =
    on_ok c.push_type-in-Fun.result _ _ (λ h. omega (arith, h, c.in_ok-push_type-in-Fun.ensures.work, size_fun _ _ _ c.in-Fun.is, ap size c.get.ensures, ap size c.get-in-Fun.ensures)) c.push_type-in-Fun.ensures.work
