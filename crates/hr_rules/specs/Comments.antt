-- Comments: the Haskell 98 Report, section 2.3.
use Rattle.std.specs.Prelude.{ℕ, zero, suc, Bool, true, false, not, ◌&&◌, ◌==◌, if◌then◌else◌, List, [], ◌∷◌, Option, Some, None, length}
use Rattle.std.specs.Option.{option_map}
use Rattle.hr_rules.specs.Letters.{is_newline, is_symbol}
use Rattle.hr_rules.specs.Operators.{is_dash}
use Rattle.hr_rules.specs.Runs.{is_run, begins_with}

-- behind two dashes: more dashes, and then a symbol, which makes an operator of them
abbrev pub goes_on : List ℕ → Bool
goes_on [] = false
goes_on (c ∷ rest) = if is_dash c then goes_on rest else is_symbol c

abbrev pub begins_line_comment : List ℕ → Bool
begins_line_comment [] = false
begins_line_comment (_ ∷ []) = false
begins_line_comment (a ∷ b ∷ rest) = (is_dash a && is_dash b) && not (goes_on rest)

abbrev pub is_in_line : ℕ → Bool
is_in_line c = not (is_newline c)

-- a line comment: it reaches to the next newline or the end
abbrev pub is_line_comment : List ℕ → List ℕ → Bool
is_line_comment text after = begins_line_comment text && is_run is_in_line text after

-- `{-` and `-}` begin a text
abbrev pub opens : ℕ → List ℕ → Bool
opens c rest = c == 123 && begins_with 45 rest

abbrev pub shuts : ℕ → List ℕ → Bool
shuts c rest = c == 45 && begins_with 125 rest

-- at a `-}`: the comment ends with it, or one inside does
abbrev pub shut : (ℕ → Option ℕ) → ℕ → Option ℕ
shut behind zero = Some 2
shut behind (suc d) = option_map suc (behind d)

-- behind `{-`: how far it is to the end of the first `-}` without a partner, where `depth` comments are open
-- inside and `half` says that the first character is the second one of a mark
abbrev pub closed_len : Bool → ℕ → List ℕ → Option ℕ
closed_len half depth [] = None
closed_len true depth (c ∷ rest) = option_map suc (closed_len false depth rest)
closed_len false depth (c ∷ rest) =
    if opens c rest then option_map suc (closed_len true (suc depth) rest)
    else (if shuts c rest then shut (λ d. closed_len true d rest) depth else option_map suc (closed_len false depth rest))

abbrev pub ends_there : Option ℕ → List ℕ → Bool
ends_there None rest = false
ends_there (Some n) rest = n == length rest

-- a nested comment: it reaches to the `-}` that closes it
abbrev pub is_nested_comment : List ℕ → Bool
is_nested_comment [] = false
is_nested_comment (_ ∷ []) = false
is_nested_comment (a ∷ b ∷ rest) = (a == 123 && b == 45) && ends_there (closed_len false 0 rest) rest
