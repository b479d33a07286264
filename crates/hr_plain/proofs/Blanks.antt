-- Blanks and comments, byte by byte.
use Rattle.std.proofs.Common.{◌≡◌, ℕ, ◌+◌, ◌<◌, ◌≤◌, Bool, true, false, not, ◌&&◌, ◌||◌, ◌==◌, if◌then◌else◌, Option, Some, None, List, [], ◌∷◌, length, drop, get_or, refl, ap, ◌∙◌, add-one, drop-cons, drop_of_length-le}
use Rattle.hr_rules.specs.Letters.{is_newline}
use Rattle.hr_plain.specs.Form.{is_plain_trivia_where}
use Rattle.hr_plain.specs.Reading.{plain_behind}

abbrev pub goes_on : List ℕ → Option Bool → Bool
goes_on rest None = false
goes_on rest (Some inside) = is_plain_trivia_where inside rest

in_comment : (rest : List ℕ) (ends newline : Bool)
    → (if ends then is_plain_trivia_where false rest else not newline && is_plain_trivia_where true rest)
    ≡ goes_on rest (if ends then Some false else (if newline then None else Some true))
in_comment rest true newline = refl
in_comment rest false true = refl
in_comment rest false false = refl

outside : (rest : List ℕ) (begins blank : Bool)
    → (if begins then is_plain_trivia_where true rest else blank && is_plain_trivia_where false rest)
    ≡ goes_on rest (if begins then Some true else (if blank then Some false else None))
outside rest true blank = refl
outside rest false true = refl
outside rest false false = refl

pub plain_step : (inside : Bool) (c : ℕ) (rest : List ℕ) → is_plain_trivia_where inside (c ∷ rest) ≡ goes_on rest (plain_behind inside c)
unfolding is_plain_trivia_where
plain_step true c rest = in_comment rest (c == 10) (is_newline c)
plain_step false c rest = outside rest (c == 45) (c == 32 || c == 10)

at_byte : (bytes : List ℕ) (place : ℕ) (inside : Bool) → place < length bytes
    → is_plain_trivia_where inside (drop place bytes) ≡ goes_on (drop (place + 1) bytes) (plain_behind inside (get_or bytes place 0))
at_byte bytes place inside within =
    let here : drop place bytes ≡ get_or bytes place 0 ∷ drop (place + 1) bytes = rw (add-one, drop-cons bytes place 0) refl in
    ap (is_plain_trivia_where inside) here ∙ plain_step inside (get_or bytes place 0) (drop (place + 1) bytes)

pub plain_stop : (bytes : List ℕ) (place : ℕ) (inside : Bool) → place < length bytes → plain_behind inside (get_or bytes place 0) ≡ None
    → is_plain_trivia_where inside (drop place bytes) ≡ false
plain_stop bytes place inside within h = at_byte bytes place inside within ∙ ap (goes_on (drop (place + 1) bytes)) h

pub plain_go : (bytes : List ℕ) (place : ℕ) (inside next : Bool) → place < length bytes → plain_behind inside (get_or bytes place 0) ≡ Some next
    → is_plain_trivia_where inside (drop place bytes) ≡ is_plain_trivia_where next (drop (place + 1) bytes)
plain_go bytes place inside next within h = at_byte bytes place inside within ∙ ap (goes_on (drop (place + 1) bytes)) h

nothing_left : (inside : Bool) → is_plain_trivia_where inside [] ≡ true
unfolding is_plain_trivia_where
nothing_left inside = refl

pub plain_end : (bytes : List ℕ) (place : ℕ) (inside : Bool) → length bytes ≤ place → is_plain_trivia_where inside (drop place bytes) ≡ true
plain_end bytes place inside h = ap (is_plain_trivia_where inside) (drop_of_length-le bytes h) ∙ nothing_left inside
