-- The definitions on small texts, each answer written by hand.
use Rattle.std.proofs.Common.{◌≡◌, [], ◌∷◌, None, refl}
use Rattle.std.specs.Char.{encode_utf8}
use Rattle.std.specs.Str.{chars, is_utf8}
use Rattle.hr_scan.specs.Characters.{char_at, wide_char_at}
use Rattle.hr_scan.specs.Columns.{columns_of}
use Rattle.hr_scan.specs.Lines.{starts_of_lines}
use Rattle.hr_scan.specs.Positions.{pos_at}

-- `a`, a return and a linefeed, `b`, a linefeed
two_newlines : starts_of_lines (97 ∷ 13 ∷ 10 ∷ 98 ∷ 10 ∷ []) ≡ 0 ∷ 3 ∷ 5 ∷ []
two_newlines = refl

-- two returns, a linefeed, a form feed
mixed_newlines : starts_of_lines (13 ∷ 13 ∷ 10 ∷ 12 ∷ []) ≡ 0 ∷ 1 ∷ 3 ∷ 4 ∷ []
mixed_newlines = refl

-- a tab and `x`
after_tab : columns_of (9 ∷ 120 ∷ []) ≡ 1 ∷ 9 ∷ []
after_tab = refl

-- U+00E9, a tab, a byte order mark, `x`
wide_columns : columns_of (0xC3 ∷ 0xA9 ∷ 9 ∷ 0xEF ∷ 0xBB ∷ 0xBF ∷ 120 ∷ []) ≡ 1 ∷ 1 ∷ 2 ∷ 9 ∷ 9 ∷ 9 ∷ 9 ∷ []
unfolding wide_char_at chars is_utf8 encode_utf8
wide_columns = refl

-- a character that is cut off, and then `x`
broken_columns : columns_of (0xE2 ∷ 0x82 ∷ 120 ∷ []) ≡ 1 ∷ 2 ∷ 3 ∷ []
unfolding wide_char_at chars is_utf8 encode_utf8
broken_columns = refl

-- a surrogate, and an overlong form
no_surrogate : char_at (0xED ∷ 0xA0 ∷ 0x80 ∷ []) ≡ None
unfolding wide_char_at chars is_utf8 encode_utf8
no_surrogate = refl

no_overlong_form : char_at (0xC1 ∷ 0xA1 ∷ []) ≡ None
unfolding wide_char_at chars is_utf8 encode_utf8
no_overlong_form = refl

-- `a`, a return and a linefeed, a tab, `b`: the linefeed, the tab, `b`, and behind the text
at_linefeed : pos_at (97 ∷ 13 ∷ 10 ∷ 9 ∷ 98 ∷ []) 2 ≡ (1, 3)
at_linefeed = refl

at_tab : pos_at (97 ∷ 13 ∷ 10 ∷ 9 ∷ 98 ∷ []) 3 ≡ (2, 1)
at_tab = refl

at_letter : pos_at (97 ∷ 13 ∷ 10 ∷ 9 ∷ 98 ∷ []) 4 ≡ (2, 9)
at_letter = refl

at_end : pos_at (97 ∷ 13 ∷ 10 ∷ 9 ∷ 98 ∷ []) 5 ≡ (2, 10)
at_end = refl
