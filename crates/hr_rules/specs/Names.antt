-- Identifiers: the Haskell 98 Report, section 2.4. A name is a whole run: none ends where it could go on.
use Rattle.std.specs.Prelude.{ℕ, Bool, ◌&&◌, ◌==◌, length, if◌then◌else◌, List, [], ◌∷◌, Option, Some, None}
use Rattle.std.specs.List.{list_any}
use lib.Chars.{codes}
use Rattle.hr_base.specs.declared.lexeme.Class.{Class}
use Rattle.hr_rules.specs.Letters.{is_in_name}
use Rattle.hr_rules.specs.Runs.{is_run, begins_word}

abbrev pub reserved_words : List (List ℕ)
reserved_words =
    codes "case" ∷ codes "class" ∷ codes "data" ∷ codes "default" ∷ codes "deriving" ∷ codes "do" ∷ codes "else"
    ∷ codes "if" ∷ codes "import" ∷ codes "in" ∷ codes "infix" ∷ codes "infixl" ∷ codes "infixr" ∷ codes "instance"
    ∷ codes "let" ∷ codes "module" ∷ codes "newtype" ∷ codes "of" ∷ codes "then" ∷ codes "type" ∷ codes "where"
    ∷ codes "_" ∷ []

-- the text is the word
abbrev pub is_spelled : List ℕ → List ℕ → Bool
is_spelled word text = length text == length word && begins_word word text

abbrev pub is_one_of : List (List ℕ) → List ℕ → Bool
is_one_of table text = list_any (λ word. is_spelled word text) table

unfoldable pub is_reserved_word : List ℕ → Bool
is_reserved_word text = is_one_of reserved_words text

-- of a text that begins with a small letter
abbrev pub word_class : List ℕ → Class
word_class text = if is_reserved_word text then Class.ReservedId else Class.VarId

-- a varid or reserved word: a small letter, and then what may stand in names
abbrev pub small_class : ℕ → List ℕ → List ℕ → Option Class
small_class c rest after = if is_run is_in_name rest after then Some (word_class (c ∷ rest)) else None

-- a conid: a large letter, and then what may stand in names
abbrev pub large_class : List ℕ → List ℕ → Option Class
large_class rest after = if is_run is_in_name rest after then Some Class.ConId else None
