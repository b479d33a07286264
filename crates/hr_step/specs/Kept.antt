-- Which old lexemes a draft keeps, and how many kept ones stand before a place.
use Rattle.std.specs.Prelude.{ℕ, ◌+◌, min, Bool, true, false, nat_lt, List, [], ◌∷◌, length, map, replicate, set, Option, Some, None, if◌then◌else◌}
use Rattle.hr_rules.specs.Counted.{greatest}
use Rattle.hr_draft.specs.declared.draft.Origin.{Origin}
use Rattle.hr_draft.specs.declared.draft.Drafted.{Drafted}

abbrev pub kept_of : Origin → Option ℕ
kept_of (Origin.Kept spot) = Some spot.item
kept_of (Origin.Carried spot) = None
kept_of Origin.New = None

-- the number of the old lexeme that a lexeme of a draft is, if it is kept
abbrev pub kept_number : Drafted → Option ℕ
kept_number drafted = kept_of drafted.origin

abbrev pub is_number : Option ℕ → Bool
is_number None = false
is_number (Some number) = true

abbrev pub is_kept : Drafted → Bool
is_kept drafted = is_number (kept_number drafted)

-- the marks with that of the number set, if there is one
abbrev pub marked : List Bool → Option ℕ → List Bool
marked marks None = marks
marked marks (Some number) = if nat_lt number (length marks) then set marks number true else marks

abbrev pub marked_by : List Bool → List Drafted → List Bool
marked_by marks [] = marks
marked_by marks (drafted ∷ draft) = marked_by (marked marks (kept_number drafted)) draft

-- a mark for each of so many old lexemes, set where the draft keeps it
abbrev pub kept_marks : ℕ → List Drafted → List Bool
kept_marks lexemes draft = marked_by (replicate lexemes false) draft

abbrev pub count_behind : ℕ → Bool → ℕ
count_behind count mark = if mark then min greatest (count + 1) else count

-- at each place, and behind the last one, a count and the marks before it that are set
abbrev pub counts_from : ℕ → List Bool → List ℕ
counts_from count [] = count ∷ []
counts_from count (mark ∷ marks) = count ∷ counts_from (count_behind count mark) marks

abbrev pub kept_before_old : ℕ → List Drafted → List ℕ
kept_before_old lexemes draft = counts_from 0 (kept_marks lexemes draft)

abbrev pub kept_before_new : List Drafted → List ℕ
kept_before_new draft = counts_from 0 (map is_kept draft)
