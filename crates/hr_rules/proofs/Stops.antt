-- A text that stops has no items, and stops at one place.
use Rattle.std.proofs.Common.{◌≡◌, ◌≢◌, ℕ, true, false, List, [], ◌++◌, refl, sym, ap, ◌∙◌, append_assoc, append-nil, true≢false, Some, None}
use Rattle.std.proofs.lemmas.List.{append_cancel_left}
use Rattle.hr_base.specs.declared.lexeme.Item.{Item}
use Rattle.hr_rules.specs.Lexing.{Classes, Pieces, Barriers, Trivia, Fits, Lexes, KeepApart}
use Rattle.hr_rules.specs.Lexing.Trivia.{none, more}
use Rattle.hr_rules.specs.Lexing.Lexes.{ends, goes}
use Rattle.hr_rules.specs.Lexemes.{is_piece}
use Rattle.hr_rules.specs.Stops.{Leads, NothingFits, StopsHaveNone, OneStop, StoppedHasNone}
use Rattle.hr_rules.specs.Stops.Leads.{here, past}
use Rattle.hr_rules.proofs.Lexing.{same_trivia, same_lexeme, no_front}
use Rattle.hr_rules.proofs.Apart.{rules_keep_apart}

-- no blank and no comment begins the text
unfoldable pub NoPiece : Pieces → List ℕ → Type 0
NoPiece is_piece rest = (piece after : List ℕ) → rest ≡ piece ++ after → is_piece piece after ≢ true

module _ {class_of : Classes} {is_piece : Pieces} {bars : Barriers} (laws : KeepApart class_of is_piece bars) where
  no_piece_free : (rest : List ℕ) → bars rest ≡ false → NoPiece is_piece rest
  unfolding NoPiece
  no_piece_free rest free piece after e is = true≢false (sym (laws.piece_bars piece after is) ∙ ap bars (sym e) ∙ free)

  -- the trivia before a place where no piece begins
  one_trivia : {t a u b : List ℕ} → Trivia is_piece t a → Trivia is_piece u b → t ++ a ≡ u ++ b → NoPiece is_piece a → NoPiece is_piece b → t ≡ u
  unfolding NoPiece
  one_trivia (none a) (none b) e p q = refl
  one_trivia (none a) (more piece u b is rest) e p q = absurd (p piece (u ++ b) (e ∙ append_assoc piece u b) is)
  one_trivia (more piece t a is rest) (none b) e p q = absurd (q piece (t ++ a) (sym e ∙ append_assoc piece t a) is)
  one_trivia (more piece t a is rest) (more other u b is' rest') e p q =
      let whole : piece ++ (t ++ a) ≡ other ++ (u ++ b) = sym (append_assoc piece t a) ∙ e ∙ append_assoc other u b in
      let same : piece ≡ other = laws.piece_is_one piece (t ++ a) other (u ++ b) is is' whole in
      let behind : t ++ a ≡ u ++ b = append_cancel_left other (t ++ a) (u ++ b) (ap (λ x. x ++ (t ++ a)) (sym same) ∙ whole) in
      λ k. same k ++ one_trivia rest rest' behind p q k

  behind_trivia : (t a u b : List ℕ) → t ++ a ≡ u ++ b → t ≡ u → a ≡ b
  behind_trivia t a u b e same = append_cancel_left u a b (ap (λ x. x ++ a) (sym same) ∙ e)

  no_piece_stop : (rest : List ℕ) → NothingFits class_of is_piece bars rest → NoPiece is_piece rest
  unfolding NoPiece
  no_piece_stop rest nothing = nothing.no_piece

  -- a place before which there is only trivia is no place with a lexeme
  ends_apart : (item : Item) (rest trivia left : List ℕ) → Trivia is_piece trivia left → NothingFits class_of is_piece bars left
      → Trivia is_piece item.trivia (item.lexeme.text ++ rest) → Fits class_of bars item.lexeme.class item.lexeme.text rest
      → trivia ++ left ≡ item.trivia ++ (item.lexeme.text ++ rest) → ⊥
  ends_apart item rest trivia left t nothing t' fits e =
      let same : trivia ≡ item.trivia = one_trivia t t' e (no_piece_stop left nothing) (no_piece_free (item.lexeme.text ++ rest) fits.begins) in
      nothing.no_lexeme item.lexeme.class item.lexeme.text rest (behind_trivia trivia left item.trivia (item.lexeme.text ++ rest) e same) fits

  at_end : (tail trivia left : List ℕ) → Trivia is_piece trivia left → NothingFits class_of is_piece bars left → Trivia is_piece tail [] → trivia ++ left ≡ tail → ⊥
  at_end tail trivia left t nothing t' e =
      let whole : trivia ++ left ≡ tail ++ [] = e ∙ sym (append-nil tail) in
      let same : trivia ≡ tail = one_trivia t t' whole (no_piece_stop left nothing) (no_piece_free [] laws.end_bars_nothing) in
      nothing.some (behind_trivia trivia left tail [] whole same)

  item_at_end : (item : Item) (rest tail : List ℕ) → Trivia is_piece tail [] → Trivia is_piece item.trivia (item.lexeme.text ++ rest) → Fits class_of bars item.lexeme.class item.lexeme.text rest → item.trivia ++ (item.lexeme.text ++ rest) ≡ tail → ⊥
  item_at_end item rest tail t t' fits e =
      let whole : tail ++ [] ≡ item.trivia ++ (item.lexeme.text ++ rest) = append-nil tail ∙ sym e in
      let trivia : tail ≡ item.trivia = same_trivia laws t t' whole laws.end_bars_nothing fits.begins in
      let behind : [] ≡ item.lexeme.text ++ rest = behind_trivia tail [] item.trivia (item.lexeme.text ++ rest) whole trivia in
      let empty : item.lexeme.text ≡ [] = no_front item.lexeme.text rest (sym behind) in
      let is : class_of [] rest ≡ Some item.lexeme.class = ap (λ x. class_of x rest) (sym empty) ∙ fits.is in
      none_some (sym (laws.lexeme_not_empty rest) ∙ is)
    where
      none_some : {A : Type 0} {x : A} → None ≡ Some x → ⊥
      none_some e = cc

  -- what is behind the first item
  left_of : (item item' : Item) (rest rest' : List ℕ) → Trivia is_piece item.trivia (item.lexeme.text ++ rest) → Fits class_of bars item.lexeme.class item.lexeme.text rest
      → Trivia is_piece item'.trivia (item'.lexeme.text ++ rest') → Fits class_of bars item'.lexeme.class item'.lexeme.text rest'
      → item.trivia ++ (item.lexeme.text ++ rest) ≡ item'.trivia ++ (item'.lexeme.text ++ rest') → rest ≡ rest'
  left_of item item' rest rest' t fits t' fits' e =
      let trivia : item.trivia ≡ item'.trivia = same_trivia laws t t' e fits.begins fits'.begins in
      let behind : item.lexeme.text ++ rest ≡ item'.lexeme.text ++ rest' = behind_trivia item.trivia (item.lexeme.text ++ rest) item'.trivia (item'.lexeme.text ++ rest') e trivia in
      let lexeme = same_lexeme laws item.lexeme.class item'.lexeme.class item.lexeme.text item'.lexeme.text rest rest' fits fits' behind in
      behind_trivia item.lexeme.text rest item'.lexeme.text rest' behind lexeme.0

  no_lexing : {bytes bytes' : List ℕ} {items others : List Item} {trivia left tail : List ℕ} → Leads class_of is_piece bars bytes items trivia left → NothingFits class_of is_piece bars left
      → Lexes class_of is_piece bars bytes' others tail → bytes ≡ bytes' → ⊥
  no_lexing (here trivia left t) nothing (ends tail t') e = at_end tail trivia left t nothing t' e
  no_lexing (here trivia left t) nothing (goes item rest items tail t' fits lexes) e = ends_apart item rest trivia left t nothing t' fits e
  no_lexing (past item rest items trivia left t fits leads) nothing (ends tail t') e = item_at_end item rest tail t' t fits e
  no_lexing (past item rest items trivia left t fits leads) nothing (goes item' rest' items' tail t' fits' lexes) e =
      no_lexing leads nothing lexes (left_of item item' rest rest' t fits t' fits' e)

  one_stop : {bytes bytes' : List ℕ} {items others : List Item} {trivia left trivia' left' : List ℕ} → Leads class_of is_piece bars bytes items trivia left → NothingFits class_of is_piece bars left
      → Leads class_of is_piece bars bytes' others trivia' left' → NothingFits class_of is_piece bars left' → bytes ≡ bytes' → left ≡ left'
  one_stop (here trivia left t) nothing (here trivia' left' t') nothing' e =
      behind_trivia trivia left trivia' left' e (one_trivia t t' e (no_piece_stop left nothing) (no_piece_stop left' nothing'))
  one_stop (here trivia left t) nothing (past item rest items trivia' left' t' fits leads) nothing' e = absurd (ends_apart item rest trivia left t nothing t' fits e)
  one_stop (past item rest items trivia left t fits leads) nothing (here trivia' left' t') nothing' e = absurd (ends_apart item rest trivia' left' t' nothing' t fits (sym e))
  one_stop (past item rest items trivia left t fits leads) nothing (past item' rest' items' trivia' left' t' fits' leads') nothing' e =
      one_stop leads nothing leads' nothing' (left_of item item' rest rest' t fits t' fits' e)

pub stops_have_none_lem : StopsHaveNone
stops_have_none_lem classes pieces barriers laws bytes rest stops items tail lexes = no_lexing laws stops.leads stops.nothing lexes refl

pub one_stop_lem : OneStop
one_stop_lem classes pieces barriers laws bytes rest other a b = one_stop laws a.leads a.nothing b.leads b.nothing refl

pub stopped_has_none_lem : StoppedHasNone
stopped_has_none_lem bytes place stopped items lexes = no_lexing rules_keep_apart stopped.stops.leads stopped.stops.nothing lexes.1.1.0 refl
