-- What a word of a script may be, beside the words that name commands.
use Rattle.std.specs.Prelude.{ℕ, Bool, true, false, not, ◌&&◌, List, [], ◌∷◌, chars}
use Rattle.std.specs.List.{list_all, list_any}
use Rattle.std.specs.Str.{is_utf8}
use Rattle.hr_rules.specs.declared.character.Kind.{Kind}
use Rattle.hr_rules.specs.Letters.{kind_of, is_in_name, is_blank}

abbrev pub is_large_kind : Kind → Bool
is_large_kind Kind.Large = true
is_large_kind _ = false

abbrev pub begins_large : List ℕ → Bool
begins_large [] = false
begins_large (c ∷ cs) = is_large_kind (kind_of c)

-- A module's name is a conid of the lexical rules: a large letter, and then what may stand in names.
unfoldable pub is_module_name : List ℕ → Bool
is_module_name text = is_utf8 text && (begins_large (chars text) && list_all is_in_name (chars text))

abbrev pub is_some_text : List ℕ → Bool
is_some_text [] = false
is_some_text (c ∷ cs) = true

-- one character or more, none of them a blank of the lexical rules
unfoldable pub is_word : List ℕ → Bool
is_word text = is_utf8 text && (is_some_text text && not (list_any is_blank (chars text)))
