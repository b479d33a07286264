-- Whole runs: as many characters of one sort as stand together.
use Rattle.std.specs.Prelude.{ℕ, Bool, true, false, not, ◌&&◌, ◌==◌, List, [], ◌∷◌}
use Rattle.std.specs.List.{list_all}

-- no run goes on into this text
abbrev pub ends_run : (ℕ → Bool) → List ℕ → Bool
ends_run p [] = true
ends_run p (c ∷ rest) = not (p c)

-- the first text is a run, and whole where the second one follows
abbrev pub is_run : (ℕ → Bool) → List ℕ → List ℕ → Bool
is_run p text after = list_all p text && ends_run p after

-- a character of the sort, or this character, begins a text
abbrev pub begins : (ℕ → Bool) → List ℕ → Bool
begins p [] = false
begins p (c ∷ rest) = p c

abbrev pub begins_with : ℕ → List ℕ → Bool
begins_with d text = begins (λ c. c == d) text

-- these characters begin the text
abbrev pub begins_word : List ℕ → List ℕ → Bool
begins_word [] text = true
begins_word (b ∷ word) [] = false
begins_word (b ∷ word) (c ∷ text) = c == b && begins_word word text
