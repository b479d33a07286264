-- What is read of a text is the draft: the same lexemes in the same order.
use Rattle.std.specs.Prelude.{Bool, true, false, List, [], ◌∷◌, if◌then◌else◌}
use Rattle.hr_base.specs.declared.lexeme.Item.{Item}
use Rattle.hr_draft.specs.declared.draft.Drafted.{Drafted}
use Rattle.hr_draft.specs.Same.{same_lexeme}

abbrev pub are_read : List Drafted → List Item → Bool
are_read [] [] = true
are_read [] (item ∷ items) = false
are_read (drafted ∷ draft) [] = false
are_read (drafted ∷ draft) (item ∷ items) = if same_lexeme drafted.lexeme item.lexeme then are_read draft items else false
