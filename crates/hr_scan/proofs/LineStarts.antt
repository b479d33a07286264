-- The starts of lines, one place further.
use Rattle.std.proofs.Common.{◌≡◌, ℕ, ◌+◌, ◌<◌, Bool, List, [], ◌∷◌, ◌++◌, length, drop, get_or, if◌then◌else◌, sym, ap, ◌∙◌, append_assoc, drop-cons, add-one}
use Rattle.hr_scan.specs.Lines.{ends_newline, behind_newlines}

-- the place behind a byte, where a newline ends with that byte
abbrev pub start_behind : Bool → ℕ → List ℕ
start_behind b place = if b then (place + 1) ∷ [] else []

behind_newlines_more : (place : ℕ) (bytes : List ℕ) → place < length bytes
    → behind_newlines place (drop place bytes) ≡ start_behind (ends_newline (drop place bytes)) place ++ behind_newlines (place + 1) (drop (place + 1) bytes)
behind_newlines_more place bytes h =
    let cut : drop place bytes ≡ get_or bytes place 0 ∷ drop (place + 1) bytes = rw (add-one place, drop-cons bytes place 0) in
    rw cut

pub starts_grow : (place : ℕ) (bytes before after all : List ℕ) (b : Bool) → place < length bytes → before ++ behind_newlines place (drop place bytes) ≡ all
    → ends_newline (drop place bytes) ≡ b → after ≡ before ++ start_behind b place
    → after ++ behind_newlines (place + 1) (drop (place + 1) bytes) ≡ all
starts_grow place bytes before after all b h e is grown =
    ap (λ l. l ++ behind_newlines (place + 1) (drop (place + 1) bytes)) (grown ∙ ap (λ t. before ++ start_behind t place) (sym is))
    ∙ append_assoc before _ _ ∙ ap (λ l. before ++ l) (sym (behind_newlines_more place bytes h)) ∙ e
