-- Every text has items, or a cause for which it has none.
use Rattle.std.proofs.Common.{◌≡◌, ℕ, zero, suc, ◌+◌, ◌-◌, ◌<◌, ◌≤◌, Bool, true, false, cond, ◌⊎◌, inl, inr, List, [], ◌∷◌, ◌++◌, length, take, drop, Option, Some, None, refl, sym, ap, subst, ◌∙◌, true≢false, arith, length-drop}
use Rattle.std.proofs.lemmas.Bool.Decides.{leb_tells}
use Rattle.std.proofs.lemmas.List.{take_all}
use Rattle.std.proofs.lemmas.Str.{encodes-chars, scalars-chars, IsUtf8-from_is_utf8, IsUtf8-nil, is_utf8-from_IsUtf8}
use Rattle.std.specs.Str.{chars, is_utf8, IsUtf8, IsValidUpTo}
use Rattle.std.specs.declared.alloc.AllocError.{AllocError}
use Rattle.hr_base.specs.Limits.{module_limit}
use lib.Utf8.{scalars, encodes}
use Rattle.hr_base.specs.declared.lexeme.Item.{Item}
use Rattle.hr_base.specs.declared.lexeme.Items.{Items}
use Rattle.hr_rules.specs.declared.character.Kind.{Kind}
use Rattle.hr_rules.specs.Letters.{kind_of}
use Rattle.hr_rules.specs.Comments.{opens}
use Rattle.hr_rules.specs.Lexing.{Lexes}
use Rattle.hr_rules.specs.Lexemes.{class_of, is_piece, bars, led_by, mark_len, LexesText}
use Rattle.hr_lexer.specs.declared.error.LexError.{LexError}
use Rattle.hr_lexer.specs.declared.taken.Taken.{Taken}
use Rattle.hr_lexer.specs.LexemeReader.{lexeme_at}
use Rattle.hr_lexer.specs.TriviaReader.{trivia_len}
use Rattle.hr_lexer.specs.Marks.{mark_count}
use Rattle.hr_lexer.specs.Laws.{ReadOrRefused}
use Rattle.hr_lexer.specs.Refusals.{cause_by, cause_of, IsCause, IsHalt, IsStop}
use Rattle.hr_lexer.proofs.Bytes.{scalars_drop}
use Rattle.hr_lexer.proofs.Exactly.{but_memory}
use Rattle.hr_lexer.proofs.Instances.{readers}
use Rattle.hr_lexer.proofs.Marks.{mark_back}
use Rattle.hr_lexer.proofs.Progress.{Progress, start}
use Rattle.hr_lexer.proofs.Steps.{back_len, finished, halted, stepped}
use Rattle.hr_lexer.proofs.Whence.{refused}

-- no place is one for want of memory
abbrev IsSure : LexError → Type 0
IsSure error = (m : AllocError) → ¬ (error ≡ LexError.Memory m)

sure_by : (kind : Kind) (place : ℕ) → IsSure (cause_by kind place)
sure_by Kind.Digit place = λ m e. cc
sure_by Kind.Small place = λ m e. cc
sure_by Kind.Large place = λ m e. cc
sure_by Kind.Symbol place = λ m e. cc
sure_by Kind.Special place = λ m e. cc
sure_by Kind.Quote place = λ m e. cc
sure_by Kind.DoubleQuote place = λ m e. cc
sure_by Kind.Blank place = λ m e. cc
sure_by Kind.Newline place = λ m e. cc
sure_by Kind.WideDigit place = λ m e. cc
sure_by Kind.Other place = λ m e. cc

sure_if : (b : Bool) (place : ℕ) (error : LexError) → IsSure error → IsSure (cond b (LexError.OpenComment place) error)
sure_if true place error sure = λ m e. cc
sure_if false place error sure = sure

sure : (cs : List ℕ) (place : ℕ) → IsSure (cause_of cs place)
sure [] place = λ m e. cc
sure (c ∷ cs) place = sure_if (opens c cs) place (cause_by (kind_of c) place) (sure_by (kind_of c) place)

-- the characters have items, or can't be lexed any further
module _ (whole : List ℕ) (len : ℕ) where
  abbrev Answer : Type 0
  Answer = ((list : List Item) × (tail : List ℕ) × Lexes class_of is_piece bars whole list tail) ⊎ ((error : LexError) × IsHalt len whole error × IsSure error)

  -- so do those that are left behind some items, if fewer than a number are left
  abbrev Left : ℕ → Type 0
  Left fuel = (items : List Item) (cs : List ℕ) → length cs < fuel → length (encodes cs) ≤ len → Progress whole items (encodes cs) → scalars cs ≡ true → Answer

  module _ (fuel : ℕ) (next : Left fuel) (items : List Item) (cs : List ℕ) (short : length cs < suc fuel) (fits : length (encodes cs) ≤ len)
      (so_far : Progress whole items (encodes cs)) (s : scalars cs ≡ true) where
    by_taken : (c : ℕ) (rest : List ℕ) → c ∷ rest ≡ drop (trivia_len cs) cs → (taken : Option Taken) → lexeme_at (c ∷ rest) ≡ taken → Answer
    by_taken c rest e None h =
        let less : length (encodes (c ∷ rest)) ≤ length (encodes cs) = subst (λ x. length (encodes x) ≤ length (encodes cs)) (sym e) (back_len (trivia_len cs) cs) in
        let place : ℕ = len - length (encodes (c ∷ rest)) in
        let here : len - length (encodes (c ∷ rest)) + length (encodes (c ∷ rest)) ≡ len = omega arith in
        inr (cause_of (c ∷ rest) place, halted readers whole items cs so_far s (trivia_len cs) refl (c ∷ rest) e len place (λ none. omega arith) h here, sure (c ∷ rest) place)
    by_taken c rest e (Some taken) h =
        let right = readers.right (c ∷ rest) taken h in
        let some : 0 < taken.len = right.1 in
        let behind : List ℕ = drop taken.len (c ∷ rest) in
        let left : length (c ∷ rest) ≡ length cs - trivia_len cs = ap length e ∙ length-drop (trivia_len cs) cs in
        let fewer : length behind ≡ length (c ∷ rest) - taken.len = length-drop taken.len (c ∷ rest) in
        let less : length (encodes (c ∷ rest)) ≤ length (encodes cs) = subst (λ x. length (encodes x) ≤ length (encodes cs)) (sym e) (back_len (trivia_len cs) cs) in
        let less' : length (encodes behind) ≤ length (encodes (c ∷ rest)) = back_len taken.len (c ∷ rest) in
        let item : Item = record { trivia = encodes (take (trivia_len cs) cs); lexeme = record { class = taken.class; text = encodes (take taken.len (c ∷ rest)) } } in
        next (items ++ (item ∷ [])) behind (omega arith) (omega arith)
        (stepped readers whole items cs so_far s (trivia_len cs) refl (c ∷ rest) e taken item.trivia item.lexeme.text behind (items ++ (item ∷ [])) h refl refl refl refl)
        (scalars_drop taken.len (c ∷ rest) (ap scalars e ∙ scalars_drop (trivia_len cs) cs s))

    by_rest : (rest : List ℕ) → rest ≡ drop (trivia_len cs) cs → Answer
    by_rest [] e = inl (items, encodes (take (trivia_len cs) cs), finished readers whole items cs so_far s (trivia_len cs) refl [] e (encodes (take (trivia_len cs) cs)) refl refl)
    by_rest (c ∷ rest) e = by_taken c rest e (lexeme_at (c ∷ rest)) refl

  read_or_halt : (fuel : ℕ) → Left fuel
  read_or_halt zero items cs short fits so_far s = absurd (omega (arith, short))
  read_or_halt (suc fuel) items cs short fits so_far s = by_rest fuel (read_or_halt fuel) items cs short fits so_far s (drop (trivia_len cs) cs) refl

-- the longest front of bytes that is UTF-8
module _ (bytes : List ℕ) where
  record Front (n : ℕ) : Type 0 where
    pub place : ℕ
    pub within : place ≤ n
    pub front : IsUtf8 (take place bytes)
    pub longest : (m : ℕ) → place < m → ¬ (IsUtf8 (take m bytes))

  -- none is longer than the length below a front that isn't
  none_above : (n m : ℕ) → is_utf8 (take (suc n) bytes) ≡ false → ((m : ℕ) → suc n < m → ¬ (IsUtf8 (take m bytes))) → n < m → IsUtf8 (take m bytes)
      → (test : Bool) → ((test ≡ true) × (m ≤ suc n)) ⊎ ((test ≡ false) × (suc n < m)) → ⊥
  none_above n m bad above h is test (inl (_, le)) =
      let same : m ≡ suc n = omega (arith, le) in
      true≢false (sym (is_utf8-from_IsUtf8 (take (suc n) bytes) (subst (λ x. IsUtf8 (take x bytes)) same is)) ∙ bad)
  none_above n m bad above h is test (inr (_, more)) = above m more is

  by_last : (n : ℕ) → ((m : ℕ) → suc n < m → ¬ (IsUtf8 (take m bytes))) → (((m : ℕ) → n < m → ¬ (IsUtf8 (take m bytes))) → Front n)
      → (b : Bool) → is_utf8 (take (suc n) bytes) ≡ b → Front (suc n)
  by_last n above shorter true e = record { place = suc n; within = omega arith; front = IsUtf8-from_is_utf8 (take (suc n) bytes) e; longest = above }
  by_last n above shorter false e =
      let f : Front n = shorter (λ m h is. none_above n m e above h is _ (leb_tells m (suc n))) in
      record { place = f.place; within = omega (arith, f.within); front = f.front; longest = f.longest }

  front : (n : ℕ) → ((m : ℕ) → n < m → ¬ (IsUtf8 (take m bytes))) → Front n
  front zero above = record { place = 0; within = omega arith; front = IsUtf8-nil; longest = above }
  front (suc n) above = by_last n above (front n) (is_utf8 (take (suc n) bytes)) refl

  bad_place : is_utf8 bytes ≡ false → (place : ℕ) × IsValidUpTo bytes place
  bad_place bad =
      let f : Front (length bytes) = front (length bytes) (λ m h is. never (subst IsUtf8 (take_all m bytes (omega arith)) is)) in
      (f.place, record { short = shorter f _ (leb_tells (length bytes) f.place); front = f.front; longest = f.longest })
    where
      never : ¬ (IsUtf8 bytes)
      never is = true≢false (sym (is_utf8-from_IsUtf8 bytes is) ∙ bad)

      shorter : (f : Front (length bytes)) (test : Bool) → ((test ≡ true) × (length bytes ≤ f.place)) ⊎ ((test ≡ false) × (f.place < length bytes)) → f.place < length bytes
      shorter f test (inl (_, far)) = absurd (never (subst IsUtf8 (take_all f.place bytes far) f.front))
      shorter f test (inr (_, less)) = less

module _ (bytes : List ℕ) where
  abbrev pub ItemsOrStop : Type 0
  ItemsOrStop = ((items : Items) × LexesText bytes items) ⊎ ((error : LexError) × IsStop bytes error)

  module _ (valid : IsUtf8 bytes) where
    abbrev cs : List ℕ
    cs = chars bytes

    abbrev rest : List ℕ
    rest = drop (mark_count (chars bytes)) (chars bytes)

    behind : encodes rest ≡ drop (mark_len bytes) bytes
    behind = sym (mark_back (chars bytes) bytes (sym (encodes-chars bytes valid)))

    within : length (encodes rest) ≤ length bytes
    within = subst (λ x. length (encodes rest) ≤ length x) (encodes-chars bytes valid) (back_len (mark_count (chars bytes)) (chars bytes))

    answer : Answer (encodes rest) (length bytes) → ItemsOrStop
    answer (inl (list, tail, lexes)) =
        inl (led_by (take (mark_len bytes) bytes) list tail, (list, (tail, (subst (λ x. Lexes class_of is_piece bars x list tail) behind lexes, refl))))
    answer (inr (error, halt, is_sure)) = inr (error, but_memory (IsStop bytes) error is_sure (refused bytes (encodes rest) valid behind error halt))

    text_valid : ItemsOrStop
    text_valid =
        answer (read_or_halt (encodes rest) (length bytes) (suc (length rest)) [] rest (omega arith) within (start (encodes rest))
        (scalars_drop (mark_count (chars bytes)) (chars bytes) (scalars-chars bytes valid)))

  by_utf8 : (b : Bool) → is_utf8 bytes ≡ b → ItemsOrStop
  by_utf8 true e = text_valid (IsUtf8-from_is_utf8 bytes e)
  by_utf8 false e = let bad = bad_place bytes e in inr (LexError.BadUtf8 bad.0, bad.1)

  pub items_or_stop : ItemsOrStop
  items_or_stop = by_utf8 (is_utf8 bytes) refl

  cause_is : (error : LexError) → length bytes ≤ module_limit → IsStop bytes error → IsCause bytes error
  cause_is LexError.TooLong short stop = absurd stop
  cause_is (LexError.BadUtf8 place) short stop = (short, stop)
  cause_is (LexError.OpenComment place) short stop = (short, stop)
  cause_is (LexError.LiteralTooWide place) short stop = (short, stop)
  cause_is (LexError.BadLexeme place) short stop = (short, stop)
  cause_is (LexError.Memory m) short stop = absurd stop

  abbrev ReadOrNot : Type 0
  ReadOrNot = ((items : Items) × LexesText bytes items × (length bytes ≤ module_limit)) ⊎ ((error : LexError) × IsCause bytes error)

  of_short : length bytes ≤ module_limit → ItemsOrStop → ReadOrNot
  of_short short (inl (items, lexes)) = inl (items, lexes, short)
  of_short short (inr (error, stop)) = inr (error, cause_is error short stop)

  by_length : (test : Bool) → ((test ≡ true) × (length bytes ≤ module_limit)) ⊎ ((test ≡ false) × (module_limit < length bytes)) → ReadOrNot
  by_length test (inl (_, short)) = of_short short items_or_stop
  by_length test (inr (_, long)) = inr (LexError.TooLong, long)

pub read_or_refused_lem : ReadOrRefused
read_or_refused_lem bytes = by_length bytes _ (leb_tells (length bytes) module_limit)
