-- Blocks in a stretch of a text, and what the text's own lexemes are at a number.
use Rattle.std.proofs.Common.{◌≡◌, ◌⊎◌, ◌≤◌, ◌<◌, ℕ, zero, suc, ◌+◌, ◌==◌, ◌||◌, ◌&&◌, Bool, true, false, if◌then◌else◌, List, [], ◌∷◌, ◌++◌, length, drop, refl, sym, ap, ap₂, ◌∙◌, subst, inl, inr, zero-add, add-zero, suc-add, add-suc, one-add, ltb-true, ltb-false, ne_eqb, drop-drop, nat_lt}
use Rattle.std.specs.List.{AllByRecursion, list_any}
use Rattle.std.proofs.lemmas.Bool.{and_right, or_right}
use Rattle.hr_base.specs.declared.lexeme.Ending.{Ending}
use Rattle.hr_base.specs.declared.lexeme.Item.{Item}
use Rattle.hr_rules.specs.declared.block.Placed.{Placed}
use Rattle.hr_rules.specs.Blocks.{mark}
use Rattle.hr_grammar.specs.Spans.{BlockSpan, Laid, blockless, one, ◌▷◌}
use Rattle.hr_grammar.specs.Offside.{is_left_empty, placed_among, Next}

-- one stretch behind another
abbrev pub beside : Laid → Laid → Laid
beside first second = first ▷ second

-- an item before others is a stretch of them all
pub bare_then : (item : Item) (items : List Item) → beside (one item) (blockless items) ≡ blockless (item ∷ items)
bare_then item items = (λ j. record { extent = one-add (length items) j; ending = either_way (length items == 0) j; blocks = λ m start. [] })
  where
    either_way : (b : Bool) → (if b then Ending.Applied true false else Ending.Applied true false) ≡ Ending.Applied true false
    either_way true = refl
    either_way false = refl

-- ---- blocks among others
abbrev pub Has : List BlockSpan → BlockSpan → Type 0
Has [] span = ⊥
Has (first ∷ rest) span = (first ≡ span) ⊎ Has rest span

pub has_either : (first second : List BlockSpan) (span : BlockSpan) → Has (first ++ second) span → Has first span ⊎ Has second span
has_either [] second span h = inr h
has_either (x ∷ first) second span (inl e) = inl (inl e)
has_either (x ∷ first) second span (inr h) = by (has_either first second span h)
  where
    by : Has first span ⊎ Has second span → Has (x ∷ first) span ⊎ Has second span
    by (inl a) = inl (inr a)
    by (inr a) = inr a

pub has_first : (first second : List BlockSpan) (span : BlockSpan) → Has first span → Has (first ++ second) span
has_first [] second span h = elim h [ ]
has_first (x ∷ first) second span (inl e) = inl e
has_first (x ∷ first) second span (inr h) = inr (has_first first second span h)

pub has_second : (first second : List BlockSpan) (span : BlockSpan) → Has second span → Has (first ++ second) span
has_second [] second span h = h
has_second (x ∷ first) second span h = inr (has_second first second span h)

pub all_are : (P : BlockSpan → Type 0) (spans : List BlockSpan) → ((span : BlockSpan) → Has spans span → P span) → AllByRecursion P spans
all_are P [] each = tt
all_are P (x ∷ spans) each = (each x (inl refl), all_are P spans (λ span h. each span (inr h)))

-- ---- blocks that are left empty
-- a block that is left empty starts there
abbrev pub is_empty_at : List BlockSpan → ℕ → Bool
is_empty_at spans i = list_any (λ (span : BlockSpan). is_left_empty span && (span.start == i)) spans

or_three : (a b c : Bool) → (a || (b || c)) ≡ ((a || b) || c)
or_three true b c = refl
or_three false b c = refl

empty_either : (first second : List BlockSpan) (i : ℕ) → is_empty_at (first ++ second) i ≡ (is_empty_at first i || is_empty_at second i)
empty_either [] second i = refl
empty_either (x ∷ first) second i =
    ap (λ t. (is_left_empty x && (x.start == i)) || t) (empty_either first second i) ∙ or_three (is_left_empty x && (x.start == i)) (is_empty_at first i) (is_empty_at second i)

pub or_false : (b : Bool) → (b || false) ≡ b
or_false true = refl
or_false false = refl

pub none_empty : (spans : List BlockSpan) (i : ℕ) → ((span : BlockSpan) → Has spans span → span.start ≡ i → ⊥) → is_empty_at spans i ≡ false
none_empty [] i apart = refl
none_empty (x ∷ spans) i apart =
    ap₂ (λ (s t : Bool). (is_left_empty x && s) || t) (ne_eqb x.start i (apart x (inl refl))) (none_empty spans i (λ span h. apart span (inr h)))
    ∙ ap (λ s. s || false) (and_right (is_left_empty x) false refl)

pub empty_first : (first second : List BlockSpan) (i : ℕ) → ((span : BlockSpan) → Has second span → span.start ≡ i → ⊥) → is_empty_at (first ++ second) i ≡ is_empty_at first i
empty_first first second i apart = empty_either first second i ∙ ap (λ t. is_empty_at first i || t) (none_empty second i apart) ∙ or_false (is_empty_at first i)

pub empty_second : (first second : List BlockSpan) (i : ℕ) → ((span : BlockSpan) → Has first span → span.start ≡ i → ⊥) → is_empty_at (first ++ second) i ≡ is_empty_at second i
empty_second first second i apart = empty_either first second i ∙ ap (λ t. t || is_empty_at second i) (none_empty first i apart)

-- ---- a text
-- the lexemes of a text with their places, and the blocks of its tree
pub record Text : Type 0 where
  pub placed : List Placed
  pub spans : List BlockSpan

abbrev pub lexemes : Text → List Placed
lexemes text = placed_among text.spans 0 text.placed

-- the next lexeme counts as first on its line if it is first, or stands behind a block that is left empty
abbrev pub mark_or : Bool → List Placed → List Placed
mark_or empty [] = []
mark_or empty (next ∷ rest) = record { item = next.item; pos = next.pos; first = next.first || empty } ∷ rest

-- the lexemes from a number on as a reading sees them; with which a part begins is not first on its line
abbrev pub seen : Text → Bool → ℕ → List Placed
seen text true i = mark false (drop i text.placed)
seen text false i = mark_or (is_empty_at text.spans i) (drop i text.placed)

drop_among : (spans : List BlockSpan) (i k : ℕ) (placed : List Placed) → drop i (placed_among spans k placed) ≡ placed_among spans (i + k) (drop i placed)
drop_among spans zero k placed = ap (λ j. placed_among spans j placed) (sym (zero-add k))
drop_among spans (suc i) k [] = refl
drop_among spans (suc i) k (next ∷ placed) = drop_among spans i (suc k) placed ∙ ap (λ j. placed_among spans j (drop i placed)) (add-suc i k ∙ sym (suc-add i k))

pub lexemes_at : (text : Text) (i : ℕ) → drop i (lexemes text) ≡ placed_among text.spans i (drop i text.placed)
lexemes_at text i = drop_among text.spans i 0 text.placed ∙ ap (λ j. placed_among text.spans j (drop i text.placed)) (add-zero i)

next_among : (P : Placed → Type 0) (spans : List BlockSpan) (i : ℕ) (placed : List Placed) → Next P (mark_or (is_empty_at spans i) placed) → Next P (placed_among spans i placed)
next_among P spans i [] h = h
next_among P spans i (next ∷ placed) h = h

-- what holds of the next lexeme as it is seen holds of it in the text
pub next_in : (P : Placed → Type 0) (text : Text) (i : ℕ) → Next P (seen text false i) → Next P (drop i (lexemes text))
next_in P text i h = subst (λ l. Next P l) (sym (lexemes_at text i)) (next_among P text.spans i (drop i text.placed) h)

mark_none : (placed : List Placed) → mark_or false placed ≡ placed
mark_none [] = refl
mark_none (next ∷ placed) = ap (λ (f : Bool). record { item = next.item; pos = next.pos; first = f } ∷ placed) (or_false next.first)

mark_some : (placed : List Placed) → mark_or true placed ≡ mark true placed
mark_some [] = refl
mark_some (next ∷ placed) = ap (λ (f : Bool). record { item = next.item; pos = next.pos; first = f } ∷ placed) (or_right next.first true refl)

mark_over : (first empty : Bool) (placed : List Placed) → mark first (mark_or empty placed) ≡ mark first placed
mark_over first empty [] = refl
mark_over first empty (next ∷ placed) = refl

-- where no block is left empty, where one is, and where a part begins
pub seen_plain : (text : Text) (i : ℕ) → is_empty_at text.spans i ≡ false → drop i text.placed ≡ seen text false i
seen_plain text i e = sym (ap (λ b. mark_or b (drop i text.placed)) e ∙ mark_none (drop i text.placed))

pub seen_empty : (text : Text) (i : ℕ) → is_empty_at text.spans i ≡ true → mark true (drop i text.placed) ≡ seen text false i
seen_empty text i e = sym (ap (λ b. mark_or b (drop i text.placed)) e ∙ mark_some (drop i text.placed))

pub seen_begun : (text : Text) (i : ℕ) → mark false (seen text false i) ≡ seen text true i
seen_begun text i = mark_over false (is_empty_at text.spans i) (drop i text.placed)

-- ---- the lexemes behind
behind_mark : (first : Bool) (placed : List Placed) → drop 1 (mark first placed) ≡ drop 1 placed
behind_mark first [] = refl
behind_mark first (next ∷ placed) = refl

behind_or : (empty : Bool) (placed : List Placed) → drop 1 (mark_or empty placed) ≡ drop 1 placed
behind_or empty [] = refl
behind_or empty (next ∷ placed) = refl

pub behind_seen : (text : Text) (begun : Bool) (i : ℕ) → drop 1 (seen text begun i) ≡ drop (i + 1) text.placed
behind_seen text true i = behind_mark false (drop i text.placed) ∙ drop-drop 1 i text.placed
behind_seen text false i = behind_or (is_empty_at text.spans i) (drop i text.placed) ∙ drop-drop 1 i text.placed

pub before_or_behind : (i k : ℕ) → (i < k) ⊎ (k ≤ i)
before_or_behind i k = by (nat_lt i k) refl
  where
    by : (t : Bool) → nat_lt i k ≡ t → (i < k) ⊎ (k ≤ i)
    by true e = inl (ltb-true i k e)
    by false e = inr (ltb-false i k e)
