-- The classes of bytes that runs are made of.
use Rattle.std.specs.Prelude.{ℕ, Bool, not, ◌||◌, ◌==◌}
use Rattle.std.specs.Char.{is_ascii_alphanumeric}
use Rattle.hr_scan.specs.declared.runs.ByteClass.{ByteClass}
use Rattle.hr_scan.specs.declared.runs.ByteClass.TheVariants.{Blank, Ident, LineBody, NestBody}

-- blanks are space (32) and tab (9); an identifier's bytes are ASCII letters, digits, `_` (95) and `'` (39);
-- a line's body has no LF (10), CR (13) and FF (12); a nested comment's body has no `{` (123) and `-` (45)
abbrev pub in_class : ByteClass → ℕ → Bool
in_class Blank b = b == 32 || b == 9
in_class Ident b = (is_ascii_alphanumeric b || b == 95) || b == 39
in_class LineBody b = not ((b == 10 || b == 13) || b == 12)
in_class NestBody b = not (b == 123 || b == 45)
