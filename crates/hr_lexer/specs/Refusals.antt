-- When a text is refused, and where.
use Rattle.std.specs.Prelude.{◌≡◌, ◌<◌, ◌≤◌, ◌+◌, ℕ, Bool, true, false, if◌then◌else◌, List, [], ◌∷◌, length, drop, ⊤, Result, MatchResult}
use Rattle.std.specs.Str.{chars, IsUtf8, IsValidUpTo}
use Rattle.hr_base.specs.Limits.{module_limit}
use Rattle.hr_base.specs.declared.lexeme.Items.{Items}
use Rattle.hr_rules.specs.declared.character.Kind.{Kind}
use Rattle.hr_rules.specs.Letters.{kind_of}
use Rattle.hr_rules.specs.Comments.{opens}
use Rattle.hr_rules.specs.Numbers.{is_too_wide}
use Rattle.hr_rules.specs.Lexemes.{class_of, is_piece, bars}
use Rattle.hr_rules.specs.Stops.{Stops, StopsAt}
use Rattle.hr_lexer.specs.declared.error.LexError.{LexError}

-- a nested comment begins these characters
abbrev pub opens_comment : List ℕ → Bool
opens_comment [] = false
opens_comment (c ∷ rest) = opens c rest

abbrev pub wide_by : Kind → ℕ → List ℕ → Bool
wide_by Kind.Digit c rest = is_too_wide c rest
wide_by _ c rest = false

-- an integer that is too great begins these characters, and no float does
abbrev pub begins_wide : List ℕ → Bool
begins_wide [] = false
begins_wide (c ∷ rest) = wide_by (kind_of c) c rest

-- the text is UTF-8, and can't be lexed further than to the place, where these characters are left
abbrev pub Stuck : List ℕ → ℕ → (List ℕ → Type 0) → Type 0
Stuck bytes place Left = IsUtf8 bytes × StopsAt bytes place × Left (chars (drop place bytes))

-- why the text, of any length, has no items: its first byte that begins no character; or else the first place
-- where nothing fits, at a nested comment that never closes, at an integer that is too great, or at none of both
abbrev pub IsStop : List ℕ → LexError → Type 0
IsStop bytes LexError.TooLong = ⊥
IsStop bytes (LexError.BadUtf8 place) = IsValidUpTo bytes place
IsStop bytes (LexError.OpenComment place) = Stuck bytes place (λ left. opens_comment left ≡ true)
IsStop bytes (LexError.LiteralTooWide place) = Stuck bytes place (λ left. begins_wide left ≡ true)
IsStop bytes (LexError.BadLexeme place) = Stuck bytes place (λ left. (opens_comment left ≡ false) × (begins_wide left ≡ false))
IsStop bytes (LexError.Memory _) = ⊥

-- why a text is refused: it is too long; or else it has no items
abbrev pub IsCause : List ℕ → LexError → Type 0
IsCause bytes LexError.TooLong = module_limit < length bytes
IsCause bytes error = (length bytes ≤ module_limit) × IsStop bytes error

-- want of memory says nothing of the text
abbrev pub OrMemory : (LexError → Type 0) → LexError → Type 0
OrMemory Is (LexError.Memory _) = Unit {0}
OrMemory Is error = Is error

-- a call answers with this refusal, or has no memory
abbrev pub Refuses : LexError → Result Items LexError → Type 0
Refuses error answer = MatchResult answer (λ items. ⊥) (OrMemory (λ other. other ≡ error))

-- a call answers with these items, or has no memory
abbrev pub GivesItems : Items → Result Items LexError → Type 0
GivesItems items answer = MatchResult answer (λ others. others ≡ items) (OrMemory (λ error. ⊥))

-- why nothing fits where these characters are left
abbrev pub cause_by : Kind → ℕ → LexError
cause_by Kind.Digit place = LexError.LiteralTooWide place
cause_by _ place = LexError.BadLexeme place

abbrev pub cause_of : List ℕ → ℕ → LexError
cause_of [] place = LexError.BadLexeme place
cause_of (c ∷ rest) place = if opens c rest then LexError.OpenComment place else cause_by (kind_of c) place

-- the bytes, with which a text of this length ends, can't be lexed further than to the place
abbrev pub Halts : ℕ → List ℕ → ℕ → (List ℕ → Type 0) → Type 0
Halts len bytes place Left = (rest : List ℕ) × (place + length rest ≡ len) × Stops class_of is_piece bars bytes rest × Left (chars rest)

abbrev pub IsHalt : ℕ → List ℕ → LexError → Type 0
IsHalt len bytes LexError.TooLong = ⊥
IsHalt len bytes (LexError.BadUtf8 place) = ⊥
IsHalt len bytes (LexError.OpenComment place) = Halts len bytes place (λ left. opens_comment left ≡ true)
IsHalt len bytes (LexError.LiteralTooWide place) = Halts len bytes place (λ left. begins_wide left ≡ true)
IsHalt len bytes (LexError.BadLexeme place) = Halts len bytes place (λ left. (opens_comment left ≡ false) × (begins_wide left ≡ false))
IsHalt len bytes (LexError.Memory _) = ⊤
