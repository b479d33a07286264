use Rattle.std.proofs.Common.{◌<◌, subst, lt-ltb}
use Rattle.hr_type.specs.Spelling.{Written, written}
use Rattle.hr_type.specs.Jobs.{pending}
use Rattle.hr_type.proofs.Reading.{on_ok}
use Rattle.hr_type.proofs.Jobbing.{parenthesis_text}
use Rattle.hr_type.proofs.write.write_within.Goals as goal

pub returns-then-grade-least-clause-text : goal.returns-then-grade-least-clause-text
returns-then-grade-least-clause-text c =
    let scope = c.args.scope.now in
    let w : Written = written c.args.scope.now c.args.ty.now in
    let low : w.grade < c.args.least = subst (λ g. g < c.args.least) (c.grade.ensures c.args.scope.now) c.if-grade-least.true in
    on_ok c.write_layer.result _ _ (λ h. parenthesis_text c.args.out.now.items c.append.new.out.items (pending scope c.args.jobs.now.items) c.args.least w (pending scope c.push_text.new.jobs.items) (pending scope c.write_layer.new.jobs.items) c.write_layer.new.out.items (lt-ltb w.grade c.args.least low) c.in_ok-append.ensures c.in_ok-push_text.ensures.text h) c.write_layer.ensures.text
