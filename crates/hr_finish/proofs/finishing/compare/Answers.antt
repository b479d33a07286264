use Rattle.std.proofs.Common.{◌≡◌, All, MatchOption, None, [], subst, true}
use Rattle.hr_check.specs.Projects.{bindings_of, modules_of}
use Rattle.hr_step.specs.Names.{first_rebound}
use Rattle.hr_finish.specs.Compared.{IsDraftRead}
use Rattle.hr_finish.specs.Endings.{IsEnding}
use Rattle.hr_finish.proofs.Read.{ok_given}
use Rattle.hr_finish.proofs.finishing.compare.Goals as goal

pub returns-in-None-clause-done : goal.returns-in-None-clause-done
returns-in-None-clause-done c =
    let drafts = c.args.trial.drafts.now in
    let unmoved = first_rebound drafts c.args.trial.map.now.pairs (bindings_of c.args.trial.old.now) (bindings_of c.args.new.now) [] ≡ None in
    let read =
    ok_given _ c.are_read.result c.in_ok-map_err.field-0 (λ read. read ≡ true → All (IsDraftRead c.modules.result.now c.modules-2.result.now) drafts) c.in_ok-map_err.ensures.cases
    c.are_read.ensures c.if-not-branch.false
    in
    let found =
    ok_given _ c.why_renamed.result c.in_ok-why.field-0 (λ found. MatchOption found unmoved IsEnding) c.in_ok-why.ensures.cases c.why_renamed.ensures
    in
    record {
      read = subst (λ old. All (IsDraftRead old (modules_of c.args.new.now)) drafts) c.modules.ensures
          (subst (λ new. All (IsDraftRead c.modules.result.now new) drafts) c.modules-2.ensures read);
      bound = subst (λ why. MatchOption why unmoved IsEnding) c.in-None.is found;
    }
