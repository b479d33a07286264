use Rattle.std.proofs.Common.{◌≡◌, ◌∙◌, ap, true}
use Rattle.std.specs.Prelude.{codes}
use Rattle.clap.specs.Simple.{app_of, app_of_fields, new_app, on_top}
use Rattle.hr_words.proofs.Apps.{adds, plain_app}
use Rattle.hr_words.proofs.words.command.Goals as goal

pub returns : goal.returns
returns c =
    let base : app_of c.new.result ≡ new_app (codes "hare") = c.new.ensures.app in
    let plain : app_of c.disable_version_flag-plain.result ≡ plain_app =
    ap app_of_fields c.disable_version_flag-plain.ensures
    ∙ ap (on_top (λ s. record s { disable_version_flag = true })) (ap app_of_fields c.disable_help_flag.ensures
    ∙ ap (on_top (λ s. record s { disable_help_flag = true })) (ap app_of_fields c.no_binary_name.ensures
    ∙ ap (on_top (λ s. record s { no_binary_name = true })) base)) in
    adds (c.in_ok-whole.ensures.shape c.file.ensures.local)
    (adds (c.in_ok-scripted.ensures.shape c.script.ensures.local)
    (adds (c.in_ok-flagged-2.ensures.shape c.flag-2.ensures.local)
    (adds (c.in_ok-flagged.ensures.shape c.flag.ensures.local) plain c.flag.ensures.rule)
    c.flag-2.ensures.rule)
    c.script.ensures.rule)
    c.file.ensures.rule
