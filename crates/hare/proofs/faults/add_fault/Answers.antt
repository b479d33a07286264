use Rattle.std.proofs.Common.{◌++◌, ◌∙◌, append_assoc, ap, arith, get_or, [], map, sym}
use Rattle.std.specs.Prelude.{codes}
use Rattle.std.specs.String.{string_bytes}
use Rattle.hare.specs.Report.{line, stayed_lines, write_line}
use Rattle.hare.proofs.Rooms.{no_files, some_files}
use Rattle.hare.proofs.faults.add_fault.Goals as goal

pub returns-in-empty : goal.returns-in-empty
returns-in-empty c =
    let names = map string_bytes c.args.files.now in
    let text = c.args.text.now.items in
    c.put_line-in-empty.ensures.items ∙ ap (λ front. front ++ line (codes "rolled back")) c.put_line.ensures.items
    ∙ append_assoc text (write_line c.name_at.result.now) (line (codes "rolled back"))
    ∙ ap (λ name. text ++ (write_line name ++ line (codes "rolled back"))) c.name_at.ensures
    ∙ ap (λ lines. text ++ (write_line (get_or names c.args.file []) ++ lines)) (sym (no_files names c.args.stayed.now (omega (arith, c.in-empty.len_below))))

pub returns-in-len1-up : goal.returns-in-len1-up
returns-in-len1-up c =
    let names = map string_bytes c.args.files.now in
    let text = c.args.text.now.items in
    let stayed = stayed_lines (map (λ file. get_or names file []) c.args.stayed.now) in
    c.put_stayed.ensures ∙ ap (λ front. front ++ stayed) c.put_line.ensures.items
    ∙ append_assoc text (write_line c.name_at.result.now) stayed
    ∙ ap (λ name. text ++ (write_line name ++ stayed)) c.name_at.ensures
    ∙ ap (λ lines. text ++ (write_line (get_or names c.args.file []) ++ lines)) (some_files names c.args.stayed.now (omega (arith, c.in-len1-up.len_at_least)))
