-- What it is for blocks to stand where they stood: in the same braces or none, behind the same word, round the same
-- kept lexemes. A block whose word goes is gone with it.
use Rattle.std.specs.Prelude.{ℕ, Bool, true, false, ◌&&◌, ◌==◌, List, [], ◌∷◌, slice_get, Option, Some, None, if◌then◌else◌}
use Rattle.hr_draft.specs.declared.draft.Drafted.{Drafted}
use Rattle.hr_draft.specs.declared.blocks.BlockSpan.{BlockSpan}
use Rattle.hr_step.specs.Kept.{kept_before_new, kept_before_old, kept_marks, kept_number}

abbrev pub is_set : Option Bool → Bool
is_set None = false
is_set (Some mark) = mark

-- whether the word is kept that opens a block, if there is one
abbrev pub is_opening_kept : List Bool → Option ℕ → Bool
is_opening_kept marks None = true
is_opening_kept marks (Some item) = is_set (slice_get marks item)

abbrev pub number_of : Option Drafted → Option ℕ
number_of None = None
number_of (Some drafted) = kept_number drafted

-- the number of the old lexeme that the opening of a new block is
abbrev pub old_opening : List Drafted → Option ℕ → Option ℕ
old_opening draft None = None
old_opening draft (Some item) = number_of (slice_get draft item)

abbrev pub is_same_number : Option ℕ → Option ℕ → Bool
is_same_number None None = true
is_same_number None (Some b) = false
is_same_number (Some a) None = false
is_same_number (Some a) (Some b) = a == b

abbrev pub is_one_count : Option ℕ → Option ℕ → Bool
is_one_count None b = false
is_one_count (Some a) None = false
is_one_count (Some a) (Some b) = a == b

-- as many lexemes are kept before the place of the one list as before that of the other
abbrev pub is_same_place : List ℕ → ℕ → List ℕ → ℕ → Bool
is_same_place olds old news new = is_one_count (slice_get olds old) (slice_get news new)

abbrev pub is_same_braces : Bool → Bool → Bool
is_same_braces true true = true
is_same_braces false false = true
is_same_braces true false = false
is_same_braces false true = false

abbrev pub is_same_block : List Drafted → List ℕ → List ℕ → BlockSpan → BlockSpan → Bool
is_same_block draft olds news old new =
    if is_same_braces old.explicit new.explicit then
    (if is_same_number (old_opening draft new.opening) old.opening then
    is_same_place olds old.from news new.from && is_same_place olds old.to news new.to
    else false)
    else false

abbrev pub is_none : List BlockSpan → Bool
is_none [] = true
is_none (span ∷ spans) = false

abbrev pub blocks_from : List Drafted → List Bool → List ℕ → List ℕ → List BlockSpan → List BlockSpan → Bool
blocks_from draft marks olds news [] new = is_none new
blocks_from draft marks olds news (span ∷ old) [] =
    if is_opening_kept marks span.opening then false else blocks_from draft marks olds news old []
blocks_from draft marks olds news (span ∷ old) (found ∷ new) =
    if is_opening_kept marks span.opening then
    (if is_same_block draft olds news span found then blocks_from draft marks olds news old new else false)
    else blocks_from draft marks olds news old (found ∷ new)

-- of so many old lexemes and their blocks, and the blocks that were read of the draft
abbrev pub are_blocks_kept : ℕ → List BlockSpan → List Drafted → List BlockSpan → Bool
are_blocks_kept lexemes old draft new =
    blocks_from draft (kept_marks lexemes draft) (kept_before_old lexemes draft) (kept_before_new draft) old new
