-- Numbers and positions as words of a script have them.
use Rattle.std.specs.Prelude.{ℕ, ◌+◌, ◌-◌, ◌*◌, Bool, ◌&&◌, ◌==◌, nat_le, nat_lt, true, false, fold, List, [], ◌∷◌, Option, Some, None, cond}
use Rattle.std.specs.List.{list_all, slice_split}
use Rattle.std.specs.Char.{is_ascii_digit}
use Rattle.hr_base.specs.declared.place.Pos.{Pos}

-- the pieces between the separators
abbrev pub cut_at : ℕ → List ℕ → List (List ℕ)
cut_at separator text = slice_split (λ b. b == separator) text

abbrev pub when : {A : Type 0} → Bool → Option A → Option A
when test found = cond test found None

-- one digit, or more of which the first is not zero (48)
abbrev pub begins_number : List ℕ → Bool
begins_number [] = false
begins_number (c ∷ []) = true
begins_number (c ∷ d ∷ cs) = nat_lt 48 c

-- what decimal digits stand for
unfoldable pub decimal_value : List ℕ → ℕ
decimal_value digits = fold (λ n c. n * 10 + (c - 48)) 0 digits

-- a number of 32 bits
abbrev pub in_32_bits : ℕ → Option ℕ
in_32_bits n = when (nat_le n 4294967295) (Some n)

-- the decimal number that the text is, without leading zeros
unfoldable pub number_in : List ℕ → Option ℕ
number_in text = when (begins_number text && list_all is_ascii_digit text) (in_32_bits (decimal_value text))

-- a number from 1 on
abbrev pub from_one : Option ℕ → Option ℕ
from_one None = None
from_one (Some n) = when (nat_le 1 n) (Some n)

abbrev pub pos_from : Option ℕ → Option ℕ → Option Pos
pos_from (Some line) (Some col) = Some (record { line = line; col = col })
pos_from _ _ = None

abbrev pub pos_in : List (List ℕ) → Option Pos
pos_in (line ∷ col ∷ []) = pos_from (from_one (number_in line)) (from_one (number_in col))
pos_in _ = None

-- the position that the text is: two numbers with a colon (58) between
unfoldable pub position_in : List ℕ → Option Pos
position_in text = pos_in (cut_at 58 text)
