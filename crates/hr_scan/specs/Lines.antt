-- The lines of a text. A newline is a return and a linefeed together, a return, a linefeed or a
-- form feed (Haskell 98 Report, section 2.2).
use Rattle.std.specs.Prelude.{ℕ, ◌+◌, Bool, false, not, ◌&&◌, ◌||◌, ◌==◌, List, [], ◌∷◌, ◌++◌, if◌then◌else◌}

abbrev pub linefeed : ℕ
linefeed = 10

abbrev pub form_feed : ℕ
form_feed = 12

abbrev pub carriage_return : ℕ
carriage_return = 13

abbrev pub begins_with_linefeed : List ℕ → Bool
begins_with_linefeed [] = false
begins_with_linefeed (b ∷ rest) = b == linefeed

-- a newline ends with the first byte: a return does so where no linefeed follows it
abbrev pub ends_newline : List ℕ → Bool
ends_newline [] = false
ends_newline (b ∷ rest) = (b == linefeed || b == form_feed) || (b == carriage_return && not (begins_with_linefeed rest))

-- the places behind the newlines of a text that begins at this place
abbrev pub behind_newlines : ℕ → List ℕ → List ℕ
behind_newlines place [] = []
behind_newlines place (b ∷ rest) = (if ends_newline (b ∷ rest) then (place + 1) ∷ [] else []) ++ behind_newlines (place + 1) rest

-- where the lines of a text start: at its beginning, and behind each newline
abbrev pub starts_of_lines : List ℕ → List ℕ
starts_of_lines bytes = 0 ∷ behind_newlines 0 bytes
