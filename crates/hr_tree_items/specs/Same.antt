-- Items that are one: of the same class, with the same text behind the same blanks and comments.
use Rattle.std.specs.Prelude.{Bool, true, false, ◌&&◌, nat_eq, List, [], ◌∷◌, if◌then◌else◌}
use Rattle.std.specs.Cmp.Lexicographic.{pointwise}
use Rattle.hr_base.specs.declared.lexeme.Item.{Item}
use Rattle.hr_draft.specs.Same.{same_lexeme}

abbrev pub same_item : Item → Item → Bool
same_item left right = pointwise nat_eq left.trivia right.trivia && same_lexeme left.lexeme right.lexeme

abbrev pub same_items : List Item → List Item → Bool
same_items [] [] = true
same_items [] (right ∷ rights) = false
same_items (left ∷ lefts) [] = false
same_items (left ∷ lefts) (right ∷ rights) = if same_item left right then same_items lefts rights else false
