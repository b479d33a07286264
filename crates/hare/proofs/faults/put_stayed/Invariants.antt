use Rattle.std.proofs.Common.{◌≡◌, ◌++◌, ◌+◌, ◌≤◌, [], drop, length, map, get_or, vec_capacity, vec_len}
use Rattle.std.specs.String.{string_bytes}
use Rattle.hare.specs.Report.{stayed_lines}
use Rattle.hare.proofs.faults.put_stayed.Given as goal

abbrev pub invariant-loop-index : goal.invariant-loop-index
invariant-loop-index l =
    (l.text.items ++ stayed_lines (map (λ file. get_or (map string_bytes l.files) file []) (drop l.index l.stayed))
    ≡ l.initial.text.items ++ stayed_lines (map (λ file. get_or (map string_bytes l.files) file []) l.stayed))
    × (vec_len l.text + length (stayed_lines (map (λ file. get_or (map string_bytes l.files) file []) (drop l.index l.stayed))) ≤ vec_capacity l.text)
