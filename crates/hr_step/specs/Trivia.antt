-- What it is for blanks and comments before a lexeme to stay.
use Rattle.std.specs.Prelude.{ℕ, ◌+◌, min, Bool, true, false, ◌&&◌, ◌||◌, ◌==◌, nat_eq, nat_lt, List, [], ◌∷◌, length, take, drop, slice_get, Option, Some, None, if◌then◌else◌}
use Rattle.std.specs.Cmp.Lexicographic.{pointwise}
use Rattle.hr_rules.specs.Counted.{greatest}
use Rattle.hr_rules.specs.Positions.{has_newline}
use Rattle.hr_base.specs.declared.lexeme.Item.{Item}
use Rattle.hr_base.specs.declared.lexeme.Items.{Items}
use Rattle.hr_draft.specs.declared.draft.Drafted.{Drafted}
use Rattle.hr_step.specs.Kept.{kept_number}

-- a space, a tab or a vertical tab
abbrev pub is_blank : ℕ → Bool
is_blank b = (b == 32 || b == 9) || b == 11

abbrev pub are_blanks : List ℕ → Bool
are_blanks [] = true
are_blanks (b ∷ bytes) = if is_blank b then are_blanks bytes else false

-- A byte that ends a line (10, 13, 12) or may end a comment (125, a brace). Blanks and comments have blanks alone behind
-- the last one, and those beyond ASCII are blanks too.
abbrev pub is_end : ℕ → Bool
is_end b = ((b == 10 || b == 13) || b == 12) || b == 125

-- where the front ends, behind one byte more at the place
abbrev pub front_behind : ℕ → ℕ → ℕ → ℕ
front_behind front place b = if is_end b then place + 1 else front

abbrev pub front_from : ℕ → ℕ → List ℕ → ℕ
front_from front place [] = front
front_from front place (b ∷ bytes) = front_from (front_behind front place b) (place + 1) bytes

-- the number of bytes before the blanks that blanks and comments end with
abbrev pub front_len : List ℕ → ℕ
front_len bytes = front_from 0 0 bytes

abbrev pub is_one_blank_more : List ℕ → List ℕ → Bool
is_one_blank_more old [] = false
is_one_blank_more old (b ∷ new) = b == 32 && pointwise nat_eq new old

abbrev pub behind_linefeed : List ℕ → List ℕ
behind_linefeed [] = []
behind_linefeed (c ∷ rest) = if c == 10 then rest else c ∷ rest

-- the bytes behind the newline that they begin with: 13 10, 13, 10 or 12
abbrev pub behind_newline : List ℕ → List ℕ
behind_newline [] = []
behind_newline (b ∷ bytes) =
    if b == 13 then behind_linefeed bytes else if b == 10 || b == 12 then bytes else b ∷ bytes

-- the bytes but for the blanks that they end with, and then a newline or none and blanks
abbrev pub may_be_indented : List ℕ → List ℕ → Bool
may_be_indented old new =
    if nat_lt (length new) (front_len old) then false
    else pointwise nat_eq (take (front_len old) new) (take (front_len old) old) && are_blanks (behind_newline (drop (front_len old) new))

-- byte for byte, or with one blank more in front (two lexemes would have been read as one); before a lexeme that is first
-- on its line the blanks of its own line may change, or become a newline and blanks (its block has moved)
abbrev pub may_stand_for : List ℕ → List ℕ → Bool → Bool
may_stand_for old new is_first =
    if pointwise nat_eq old new then true
    else if is_one_blank_more old new then true
    else if is_first then may_be_indented old new
    else has_newline old && may_be_indented old new

-- Below, `behind` is the number of the old lexeme that stood behind the last one of the draft; none where that isn't kept.

abbrev pub number_behind : Option ℕ → Option ℕ
number_behind None = None
number_behind (Some number) = Some (min greatest (number + 1))

abbrev pub is_number : Option ℕ → ℕ → Bool
is_number None number = false
is_number (Some behind) number = behind == number

abbrev pub stays_as : Option Item → ℕ → Item → Bool
stays_as None number new = false
stays_as (Some item) number new = may_stand_for item.trivia new.trivia (number == 0)

-- what stood before the old lexeme of the number stays before the new one
abbrev pub stays_at : List Item → ℕ → Item → Bool
stays_at old number new = stays_as (slice_get old number) number new

-- nothing is asked of a lexeme that isn't kept, nor where another one stands before it than did
abbrev pub stays_here : List Item → Option ℕ → Option ℕ → Item → Bool
stays_here old behind None new = true
stays_here old behind (Some number) new = if is_number behind number then stays_at old number new else true

abbrev pub may_end_for : List ℕ → List ℕ → Bool
may_end_for old new = if pointwise nat_eq old new then true else is_one_blank_more old new

-- what is behind the last lexeme stays, where that is the last one of the old text too
abbrev pub does_tail_stay : Items → Option ℕ → List ℕ → Bool
does_tail_stay old behind tail = if is_number behind (length old.list) then may_end_for old.tail tail else true

abbrev pub stays_from : Items → Option ℕ → List Drafted → List Item → List ℕ → Bool
stays_from old behind [] items tail = does_tail_stay old behind tail
stays_from old behind (drafted ∷ draft) [] tail = false
stays_from old behind (drafted ∷ draft) (item ∷ items) tail =
    if stays_here old.list behind (kept_number drafted) item
    then stays_from old (number_behind (kept_number drafted)) draft items tail
    else false

abbrev pub does_trivia_stay : Items → List Drafted → Items → Bool
does_trivia_stay old draft new = stays_from old (Some 0) draft new.list new.tail
