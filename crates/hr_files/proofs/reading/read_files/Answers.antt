use Rattle.std.proofs.Common.{◌≡◌, ◌≤◌, ◌<◌, ◌+◌, [], length, map, get_or, sym, ◌∙◌, subst}
use Rattle.std.proofs.lemmas.List.{length-map}
use Rattle.std.specs.String.{string_bytes}
use Rattle.hr_files.specs.Read.{project_limit}
use Rattle.hr_files.proofs.ReadMore.{count_all, named, only_more, read_all, read_more, read_over}
use Rattle.hr_files.proofs.reading.read_files.Goals as goal

pub returns-in_err-keep-clause-only : goal.returns-in_err-keep-clause-only
returns-in_err-keep-clause-only g c = only_more _ _ _ c.loop-file.invariant.only c.read_file.ensures.only

pub returns-then-total-gt-PROJECT_LIMIT-clause-only : goal.returns-then-total-gt-PROJECT_LIMIT-clause-only
returns-then-total-gt-PROJECT_LIMIT-clause-only g c = only_more _ _ _ c.loop-file.invariant.only c.read_file.ensures.only

pub returns-then-total-gt-PROJECT_LIMIT-clause-cause : goal.returns-then-total-gt-PROJECT_LIMIT-clause-cause
returns-then-total-gt-PROJECT_LIMIT-clause-cause g c =
    let within : c.loop-file.file < length (map string_bytes c.args.names.now) = subst (λ n. c.loop-file.file < n) (sym (length-map c.args.names.now string_bytes)) c.loop-file-test.true in
    let is : c.as_str.result.now ≡ get_or (map string_bytes c.args.names.now) c.loop-file.file [] =
    c.as_str.ensures.value ∙ named string_bytes c.args.names.now c.loop-file.file c.index-names-file.result c.loop-file-test.true c.index-names-file.is in
    read_over _ _ _ (g.S.Shelf.store c.read_file.new.shelf) _ _ _ _ _ c.loop-file.invariant within is c.in_ok-text.ensures.text
    (subst (λ n. project_limit < c.loop-file.total + n) c.len-total.ensures c.if-total-gt-PROJECT_LIMIT.true)

pub loop-file-preserved : goal.loop-file-preserved
loop-file-preserved g c =
    let within : c.loop-file.file < length (map string_bytes c.args.names.now) = subst (λ n. c.loop-file.file < n) (sym (length-map c.args.names.now string_bytes)) c.loop-file-test.true in
    let is : c.as_str.result.now ≡ get_or (map string_bytes c.args.names.now) c.loop-file.file [] =
    c.as_str.ensures.value ∙ named string_bytes c.args.names.now c.loop-file.file c.index-names-file.result c.loop-file-test.true c.index-names-file.is in
    let few : c.loop-file.total + length c.in_ok-text.text ≤ project_limit = subst (λ n. c.loop-file.total + n ≤ project_limit) c.len-total.ensures c.if-total-gt-PROJECT_LIMIT.false in
    rw (c.len-total.ensures, c.in_ok-keep.ensures.kept)
    (read_more _ _ _ _ _ _ _ _ _ c.loop-file.invariant within is c.in_ok-text.ensures.only c.in_ok-text.ensures.text c.in_ok-text.ensures.within c.in_ok-text.ensures.ready few c.in_ok-text.ensures.counted)

pub returns-clause-ready : goal.returns-clause-ready
returns-clause-ready g c = (read_all _ _ _ _ _ _ c.loop-file.invariant (subst (λ n. n ≤ c.loop-file.file) (sym (length-map c.args.names.now string_bytes)) c.loop-file-test.false)).0

pub returns-clause-texts : goal.returns-clause-texts
returns-clause-texts g c =
    let end = subst (λ n. n ≤ c.loop-file.file) (sym (length-map c.args.names.now string_bytes)) c.loop-file-test.false in
    let known = c.loop-file.invariant in
    record {
      count = count_all _ _ _ _ _ _ known end;
      told = (read_all _ _ _ _ _ _ known end).1;
      each = known.each;
      together = known.together;
    }
