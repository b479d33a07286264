use Rattle.std.proofs.Common.{◌≤◌, ◌+◌, map, sym, subst}
use Rattle.std.proofs.lemmas.List.{length-map}
use Rattle.std.specs.String.{string_bytes}
use Rattle.hr_files.specs.Read.{AreRead}
use Rattle.hare.proofs.Ends.{asked_for_files}
use Rattle.hare.proofs.Since.{read_since, unread_since}
use Rattle.hare.proofs.refactoring.run_commands.Goals as goal

pub returns-in-Ok : goal.returns-in-Ok
returns-in-Ok g c = λ words start scripted only calls.
    let now = g.S.Shelf.store c.args.shelf.now in
    let names = map string_bytes c.args.asked.files.now in
    let counted = subst (λ count. (g.S.Shelf.store c.read_files.new.shelf).calls ≤ now.calls + count) (sym (length-map c.args.asked.files.now string_bytes)) c.read_files.ensures.counted in
    let read = subst (AreRead names start) (sym c.as_slice.ensures.value) (read_since start now only names _ c.in-Ok.ensures.texts) in
    c.run_texts.ensures words start (record { scripted = scripted; files = read }) (asked_for_files _ _ _ _ only calls c.read_files.ensures.only counted)

pub returns-in-Err : goal.returns-in-Err
returns-in-Err g c = λ words start scripted only calls.
    let now = g.S.Shelf.store c.args.shelf.now in
    let names = map string_bytes c.args.asked.files.now in
    let counted = subst (λ count. (g.S.Shelf.store c.read_files.new.shelf).calls ≤ now.calls + count) (sym (length-map c.args.asked.files.now string_bytes)) c.read_files.ensures.counted in
    c.tell_unread.ensures words start (g.S.Shelf.store c.read_files.new.shelf) scripted (unread_since start now (g.S.Shelf.store c.read_files.new.shelf) only names _ c.in-Err.ensures.cause)
    (asked_for_files _ _ _ _ only calls c.read_files.ensures.only counted)
