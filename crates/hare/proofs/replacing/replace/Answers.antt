use Rattle.std.proofs.Common.{◌≡◌, ◌≤◌, ◌+◌, ◌++◌, ◌∙◌, All, [], ap, arith, get_or, length, map, subst, sym, vec_capacity, vec_len}
use Rattle.std.specs.String.{string_bytes}
use Rattle.hr_files.specs.Replaced.{IsReadyChange, name_of}
use Rattle.hr_files.specs.RolledBack.{backs}
use Rattle.hare.specs.declared.status.Status.{Status}
use Rattle.hare.specs.Ends.{AreDone, changes}
use Rattle.hare.specs.Report as report
use Rattle.hare.specs.Rooms.{longest}
use Rattle.hare.specs.Shown.{shown}
use Rattle.hare.proofs.Ends.{fault_text, replaces, takes_back, told}
use Rattle.hare.proofs.Ready.{ready_backs, ready_from}
use Rattle.hare.proofs.Rooms.{same_names}
use Rattle.hare.proofs.replacing.replace.Goals as goal

pub replace_files-requires : goal.replace_files-requires
replace_files-requires g c =
    let names = map string_bytes c.args.asked.files.now in
    let ready = (g.S.Shelf.store c.args.shelf.now).ready in
    subst (All (IsReadyChange ready names)) (sym c.in_ok-forth.ensures)
    (ready_from ready names c.requires.ready c.args.news.now 0 c.args.olds.now (omega (arith, c.requires.count)))

pub take_back-fault-requires-clause-ready : goal.take_back-fault-requires-clause-ready
take_back-fault-requires-clause-ready g c =
    let names = map string_bytes c.args.asked.files.now in
    let ready = (g.S.Shelf.store c.args.shelf.now).ready in
    let later = (g.S.Shelf.store c.replace_files.new.shelf).ready in
    let every = subst (All (IsReadyChange ready names)) (sym c.in_ok-forth.ensures)
    (ready_from ready names c.requires.ready c.args.news.now 0 c.args.olds.now (omega (arith, c.requires.count))) in
    let are = c.in_ok-back.ensures ∙ ap (backs c.args.olds.now) c.as_slice.ensures.value in
    subst (All (IsReadyChange later names)) (sym are) (ready_backs ready later names c.args.olds.now c.replace_files.ensures.stays_ready c.in_ok-forth.forth.items every)

pub take_back-fault-requires-clause-room : goal.take_back-fault-requires-clause-room
take_back-fault-requires-clause-room g c =
    let names = map string_bytes c.args.asked.files.now in
    let are = c.in_ok-back.ensures ∙ ap (backs c.args.olds.now) c.as_slice.ensures.value in
    let same : map (λ change. name_of names change) c.in_ok-back.back.items ≡ map (λ change. name_of names change) c.as_slice-3.result.now =
    ap (map (λ change. name_of names change)) are ∙ same_names names c.args.olds.now c.in_ok-forth.forth.items ∙ ap (map (λ change. name_of names change)) (sym c.as_slice-3.ensures.value) in
    let room = c.in_ok-fault.ensures.room in
    let long = c.in_ok-fault.ensures.len in
    subst (λ list. vec_len c.in_ok-fault.fault + length (longest list) ≤ vec_capacity c.in_ok-fault.fault) (sym same) (omega (arith, room, long))

pub returns-in-Ok : goal.returns-in-Ok
returns-in-Ok g c = λ words start run kept.
    let names = map string_bytes c.args.asked.files.now in
    let done = replaces _ names _ (changes c.args.olds.now c.args.news.now) _ _ _ c.in_ok-forth.ensures kept c.in-Ok.ensures.puts c.in-Ok.ensures.kept c.in-Ok.ensures.counted in
    let text = c.as_slice-in-Ok.ensures.value ∙ c.in_ok-done.ensures
    ∙ ap (λ list. c.args.told.items ++ report.changed (map (λ change. name_of names change) list)) (c.as_slice-4.ensures.value ∙ c.in_ok-forth.ensures) in
    told words _ _ Status.Done _ _ (
      shown c.args.asked,
      c.args.olds.now,
      c.args.news.now,
      c.args.told.items,
      run,
      subst (λ dry. AreDone dry (shown c.args.asked) c.args.olds.now c.args.news.now start (g.S.Shelf.store c.replace_files.new.shelf)) (sym c.requires.wet) done,
      text,
    )
    c.tell.ensures

pub returns-in-Err : goal.returns-in-Err
returns-in-Err g c = λ words start run kept.
    let names = map string_bytes c.args.asked.files.now in
    let olds = c.args.olds.now in
    let given = c.take_back-fault.ensures in
    let are = c.in_ok-back.ensures ∙ ap (backs olds) c.as_slice.ensures.value in
    let lines : c.in_ok-fault.fault.items ≡ c.args.told.items = c.in_ok-fault.ensures.items ∙ c.as_slice-2.ensures.value in
    let taken = takes_back _ names olds _ _ (changes olds c.args.news.now) c.in-Err.refused _ _ start _ _ _ c.in_ok-forth.ensures are kept c.in-Err.ensures.within c.in-Err.ensures.stops c.in-Err.ensures.cause c.in-Err.ensures.counted given in
    let text = fault_text names olds _ _ (changes olds c.args.news.now) c.in-Err.refused _ _ _ _ c.in_ok-forth.ensures are c.in-Err.ensures.within given in
    let whole = c.as_slice-in-Err.ensures.value ∙ text
    ∙ ap (λ front. front ++ report.write_fault (get_or (map (λ change. name_of names change) (changes olds c.args.news.now)) c.in-Err.refused []) (map (λ file. get_or names file []) given.stayed)) lines in
    told words _ _ Status.WriteFault _ _ (
      shown c.args.asked,
      olds,
      c.args.news.now,
      c.args.told.items,
      c.in-Err.refused,
      given.stayed,
      run,
      c.requires.wet,
      taken,
      whole,
    )
    c.tell-in-Err.ensures
