-- How far a text is lexed, and that each step of the lexer keeps it.
use Rattle.std.proofs.Common.{◌≡◌, ◌≢◌, ℕ, true, List, [], ◌∷◌, ◌++◌, take, drop, Some, None, refl, sym, ap, subst, ◌∙◌, append_assoc, append-nil}
use lib.Utf8.{scalars, encodes}
use Rattle.hr_base.specs.declared.lexeme.Item.{Item}
use Rattle.hr_rules.specs.Lexemes.{class_of, is_piece, bars}
use Rattle.hr_rules.specs.Lexing.{Trivia, Fits, Lexes}
use Rattle.hr_rules.specs.Lexing.Lexes.{ends, goes}
use Rattle.hr_rules.specs.Stops.{Leads, NothingFits, Stops}
use Rattle.hr_rules.specs.Stops.Leads.{here, past}
use Rattle.hr_lexer.specs.declared.taken.Taken.{Taken}
use Rattle.hr_lexer.specs.LexemeReader.{lexeme_at}
use Rattle.hr_lexer.specs.TriviaReader.{piece_len, trivia_len}
use Rattle.hr_lexer.proofs.Statements.{LexemeRight, LexemeLongest, PieceRight, PieceFound}
use Rattle.hr_lexer.proofs.Bytes.{scalars_drop, parts_join, fits, nothing_fits}
use Rattle.hr_lexer.proofs.Pieces.{IsTrivia, trivia_is}

-- all that the readers of lexemes, blanks and comments meet
pub record Readers : Type 0 where
  pub right : LexemeRight
  pub longest : LexemeLongest
  pub piece_right : PieceRight
  pub piece_found : PieceFound

-- these items are read of a text, and this is left: what lexes it lexes the whole behind the items, and
-- where it stops the whole does
pub record Progress (whole : List ℕ) (items : List Item) (rest : List ℕ) : Type 0 where
  pub sound : (others : List Item) (tail : List ℕ) → Lexes class_of is_piece bars rest others tail → Lexes class_of is_piece bars whole (items ++ others) tail
  pub complete : (left : List ℕ) → Stops class_of is_piece bars rest left → Stops class_of is_piece bars whole left

pub start : (whole : List ℕ) → Progress whole [] whole
start whole = record { sound = λ others tail lexes. lexes; complete = λ left stops. stops }

forward : (whole : List ℕ) (items : List Item) (item : Item) (rest behind : List ℕ) → Progress whole items rest → rest ≡ item.trivia ++ (item.lexeme.text ++ behind)
    → Trivia is_piece item.trivia (item.lexeme.text ++ behind) → Fits class_of bars item.lexeme.class item.lexeme.text behind → Progress whole (items ++ (item ∷ [])) behind
forward whole items item rest behind so_far e trivia fit =
    record {
      sound = λ others tail lexes.
          let all : Lexes class_of is_piece bars rest (item ∷ others) tail = subst (λ x. Lexes class_of is_piece bars x (item ∷ others) tail) (sym e) (goes item behind others tail trivia fit lexes) in
          subst (λ x. Lexes class_of is_piece bars whole x tail) (sym (append_assoc items (item ∷ []) others)) (so_far.sound (item ∷ others) tail all);
      complete = λ left stops.
          let all : Leads class_of is_piece bars rest (item ∷ stops.items) stops.trivia left =
          subst (λ x. Leads class_of is_piece bars x (item ∷ stops.items) stops.trivia left) (sym e) (past item behind stops.items stops.trivia left trivia fit stops.leads) in
          so_far.complete left (record { items = item ∷ stops.items; trivia = stops.trivia; leads = all; nothing = stops.nothing });
    }

module _ (readers : Readers) (whole : List ℕ) (items : List Item) (cs : List ℕ) (so_far : Progress whole items (encodes cs)) (s : scalars cs ≡ true) where
  it_is : IsTrivia (trivia_len cs) cs
  it_is = trivia_is readers.piece_right cs s

  -- at the end
  pub done : drop (trivia_len cs) cs ≡ [] → Lexes class_of is_piece bars whole items (encodes (take (trivia_len cs) cs))
  done e =
      let n : ℕ = trivia_len cs in
      let last : Trivia is_piece (encodes (take n cs)) [] = subst (λ x. Trivia is_piece (encodes (take n cs)) (encodes x)) e it_is.is in
      let all : encodes (take n cs) ≡ encodes cs = sym (append-nil (encodes (take n cs))) ∙ ap (λ x. encodes (take n cs) ++ encodes x) (sym e) ∙ parts_join n cs in
      let lexes : Lexes class_of is_piece bars (encodes cs) [] (encodes (take n cs)) = subst (λ x. Lexes class_of is_piece bars x [] (encodes (take n cs))) all (ends (encodes (take n cs)) last) in
      subst (λ x. Lexes class_of is_piece bars whole x (encodes (take n cs))) (append-nil items) (so_far.sound [] (encodes (take n cs)) lexes)

  -- behind a lexeme
  pub next : (taken : Taken) → lexeme_at (drop (trivia_len cs) cs) ≡ Some taken
      → Progress whole (items ++ (record { trivia = encodes (take (trivia_len cs) cs); lexeme = record { class = taken.class; text = encodes (take taken.len (drop (trivia_len cs) cs)) } } ∷ []))
      (encodes (drop taken.len (drop (trivia_len cs) cs)))
  next taken e =
      let n : ℕ = trivia_len cs in
      let rest : List ℕ = drop n cs in
      let item : Item = record { trivia = encodes (take n cs); lexeme = record { class = taken.class; text = encodes (take taken.len rest) } } in
      let parts : encodes rest ≡ encodes (take taken.len rest) ++ encodes (drop taken.len rest) = sym (parts_join taken.len rest) in
      let all : encodes cs ≡ encodes (take n cs) ++ (encodes (take taken.len rest) ++ encodes (drop taken.len rest)) = sym (parts_join n cs) ∙ ap (λ x. encodes (take n cs) ++ x) parts in
      let trivia : Trivia is_piece (encodes (take n cs)) (encodes (take taken.len rest) ++ encodes (drop taken.len rest)) = subst (λ x. Trivia is_piece (encodes (take n cs)) x) parts it_is.is in
      forward whole items item (encodes cs) (encodes (drop taken.len rest)) so_far all trivia (fits readers.right readers.longest rest taken (scalars_drop n cs s) e)

  -- where no lexeme is read
  pub stuck : drop (trivia_len cs) cs ≢ [] → lexeme_at (drop (trivia_len cs) cs) ≡ None → Stops class_of is_piece bars whole (encodes (drop (trivia_len cs) cs))
  stuck some e =
      let n : ℕ = trivia_len cs in
      let leads : Leads class_of is_piece bars (encodes cs) [] (encodes (take n cs)) (encodes (drop n cs)) =
      subst (λ x. Leads class_of is_piece bars x [] (encodes (take n cs)) (encodes (drop n cs))) (parts_join n cs) (here (encodes (take n cs)) (encodes (drop n cs)) it_is.is) in
      so_far.complete (encodes (drop n cs))
      (record { items = []; trivia = encodes (take n cs); leads = leads; nothing = nothing (drop n cs) some (scalars_drop n cs s) it_is.ends e })
    where
      nothing : (left : List ℕ) → left ≢ [] → scalars left ≡ true → piece_len left ≡ None → lexeme_at left ≡ None → NothingFits class_of is_piece bars (encodes left)
      nothing [] some t p l = absurd (some refl)
      nothing (c ∷ left) some t p l = nothing_fits readers.right readers.longest readers.piece_found c left t p l
