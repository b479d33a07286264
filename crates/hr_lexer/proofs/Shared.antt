-- Parts of a text that stand before a given end of it.
use Rattle.std.proofs.Common.{◌≡◌, ℕ, ◌+◌, ◌-◌, ◌≤◌, List, ◌++◌, length, take, drop, sym, ap, ◌∙◌, arith, append_assoc, length-append}
use Rattle.std.proofs.lemmas.List.{take_at, drop_at}
use lib.Utf8.{encodes}
use Rattle.hr_lexer.specs.Spans.{EndsWith}
use Rattle.hr_lexer.proofs.Bytes.{parts_join}

-- an end of an end
pub ends_behind : (whole bytes rest : List ℕ) → EndsWith whole (bytes ++ rest) → EndsWith whole rest
ends_behind whole bytes rest e = (e.0 ++ bytes, e.1 ∙ sym (append_assoc e.0 bytes rest))

-- the first characters of what is left, and those behind them
pub ends_cut : (whole left text rest : List ℕ) (n : ℕ) (cs : List ℕ) → EndsWith whole left → left ≡ encodes cs
    → text ≡ encodes (take n cs) → rest ≡ encodes (drop n cs) → EndsWith whole (text ++ rest)
ends_cut whole left text rest n cs e spelled front back =
    (e.0, e.1 ∙ ap (λ l. e.0 ++ l) (spelled ∙ sym (parts_join n cs) ∙ (λ i. sym front i ++ sym back i)))

-- the characters behind those
pub ends_next : (whole left trivia rest text behind : List ℕ) (n m : ℕ) (cs ds : List ℕ) → EndsWith whole left → left ≡ encodes cs
    → trivia ≡ encodes (take n cs) → rest ≡ encodes (drop n cs) → ds ≡ drop n cs
    → text ≡ encodes (take m ds) → behind ≡ encodes (drop m ds) → EndsWith whole (text ++ behind)
ends_next whole left trivia rest text behind n m cs ds e spelled front back same first second =
    ends_cut whole rest text behind m ds (ends_behind whole trivia rest (ends_cut whole left trivia rest n cs e spelled front back)) (back ∙ ap encodes (sym same)) first second

-- where the part stands
pub fits_before : (whole bytes behind : List ℕ) → EndsWith whole (bytes ++ behind) → length bytes + length behind ≤ length whole
fits_before whole bytes behind e = omega (arith, ap length e.1, length-append e.0 (bytes ++ behind), length-append bytes behind)

pub part_before : (whole bytes behind : List ℕ) (start end : ℕ) → EndsWith whole (bytes ++ behind)
    → end ≡ length whole - length behind → start ≡ end - length bytes → take (end - start) (drop start whole) ≡ bytes
part_before whole bytes behind start end e is_end is_start =
    let long : length whole ≡ length e.0 + (length bytes + length behind) = omega (arith, ap length e.1, length-append e.0 (bytes ++ behind), length-append bytes behind) in
    let first : length e.0 ≡ start = omega arith in
    let some : length bytes ≡ end - start = omega arith in
    ap (λ l. take (end - start) (drop start l)) e.1 ∙ ap (take (end - start)) (drop_at e.0 (bytes ++ behind) start first) ∙ take_at bytes behind (end - start) some
