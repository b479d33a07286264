-- Where what is left of a text can't be lexed, the whole text is refused at that place.
use Rattle.std.proofs.Common.{◌≡◌, ℕ, ◌+◌, true, false, List, ◌++◌, length, take, drop, refl, sym, ap, subst, ◌∙◌, arith, append_assoc, length-append, take-append-drop}
use Rattle.std.proofs.Math.Seq.{drop-append_seam}
use Rattle.std.specs.Str.{chars, IsUtf8}
use Rattle.hr_base.specs.declared.lexeme.Item.{Item}
use Rattle.hr_rules.specs.Lexing.{Classes, Pieces, Barriers}
use Rattle.hr_rules.specs.Lexemes.{class_of, is_piece, bars, mark_len}
use Rattle.hr_rules.specs.Stops.{Leads, Stops}
use Rattle.hr_rules.specs.Stops.Leads.{here, past}
use Rattle.hr_lexer.specs.declared.error.LexError.{LexError}
use Rattle.hr_lexer.specs.Refusals.{opens_comment, begins_wide, Stuck, Halts, IsHalt, IsStop, OrMemory}

-- what is led to is the end of the text
led : {class_of : Classes} {is_piece : Pieces} {bars : Barriers} {bytes : List ℕ} {items : List Item} {trivia left : List ℕ} → Leads class_of is_piece bars bytes items trivia left → (front : List ℕ) × (bytes ≡ front ++ left)
led (here trivia rest t) = (trivia, refl)
led (past item rest items trivia left t fits leads) =
    let behind = led leads in (
      item.trivia ++ (item.lexeme.text ++ behind.0),
      ap (λ x. item.trivia ++ (item.lexeme.text ++ x)) behind.1 ∙ ap (λ x. item.trivia ++ x) (sym (append_assoc item.lexeme.text behind.0 left)) ∙ sym (append_assoc item.trivia (item.lexeme.text ++ behind.0) left),
    )

at_end : (bytes front left : List ℕ) (place : ℕ) → bytes ≡ front ++ left → place + length left ≡ length bytes → drop place bytes ≡ left
at_end bytes front left place e h =
    let all : length bytes ≡ length front + length left = ap length e ∙ length-append front left in
    let same : place ≡ length front = omega arith in
    (λ k. drop (same k) (e k)) ∙ drop-append_seam front left

module _ (bytes rest : List ℕ) (valid : IsUtf8 bytes) (behind : rest ≡ drop (mark_len bytes) bytes) where
  stuck_at : (place : ℕ) (Left : List ℕ → Type 0) → Halts (length bytes) rest place Left → Stuck bytes place Left
  stuck_at place Left h =
      let left : List ℕ = h.0 in
      let front = led h.2.leads in
      let all : bytes ≡ (take (mark_len bytes) bytes ++ front.0) ++ left =
      sym (take-append-drop (mark_len bytes) bytes) ∙ ap (λ x. take (mark_len bytes) bytes ++ x) (sym behind ∙ front.1) ∙ sym (append_assoc (take (mark_len bytes) bytes) front.0 left) in
      let end : drop place bytes ≡ left = at_end bytes (take (mark_len bytes) bytes ++ front.0) left place all h.1 in
      (valid, record { rest = left; here = h.1; stops = subst (λ x. Stops class_of is_piece bars x left) behind h.2 }, subst (λ x. Left (chars x)) (sym end) h.3)

  pub refused : (error : LexError) → IsHalt (length bytes) rest error → OrMemory (IsStop bytes) error
  refused LexError.TooLong h = absurd h
  refused (LexError.BadUtf8 place) h = absurd h
  refused (LexError.OpenComment place) h = stuck_at place (λ left. opens_comment left ≡ true) h
  refused (LexError.LiteralTooWide place) h = stuck_at place (λ left. begins_wide left ≡ true) h
  refused (LexError.BadLexeme place) h = stuck_at place (λ left. (opens_comment left ≡ false) × (begins_wide left ≡ false)) h
  refused (LexError.Memory m) h = tt
