use Rattle.std.proofs.Common.{◌≡◌, IfOk, MatchOption, None, Some, map, subst}
use Rattle.std.specs.String.{string_bytes}
use Rattle.clap.specs.Simple.{app_of}
use Rattle.hr_words.specs.Words.{shown}
use Rattle.hr_words.proofs.Apps.{is_free_app, is_request, is_simple_app, refused_words}
use Rattle.hr_words.proofs.words.request_of.Goals as goal

pub returns-in-Ok : goal.returns-in-Ok
returns-in-Ok c =
    let is = c.in_ok-command.ensures in
    let taken = c.in-Ok.ensures.kinds (is_free_app _ is) in
    let matches = c.in-Ok.ensures.matches (is_simple_app _ is) in
    let same = is_request (app_of c.in_ok-command.field-0) (map string_bytes c.args.words.now) _ is taken matches.0 in
    subst (λ known. IfOk c.request_in.result (λ found. MatchOption found (known ≡ None) (λ request. known ≡ Some (shown request)))) same c.request_in.ensures

pub returns-in-Err : goal.returns-in-Err
returns-in-Err c =
    let is = c.in_ok-command.ensures in
    let kinds = c.in-Err.ensures.kinds (is_free_app _ is) in
    refused_words (app_of c.in_ok-command.field-0) c.no_request.result _ (map string_bytes c.args.words.now) is c.no_request.ensures.none c.no_request.ensures.refused kinds
