-- The trivia that is read is blanks and comments, and none begins behind it.
use Rattle.std.proofs.Common.{◌≡◌, ℕ, zero, suc, ◌+◌, ◌≤◌, ◌<◌, true, List, [], ◌∷◌, ◌++◌, length, take, drop, Option, Some, None, refl, sym, ap, subst, ◌∙◌, arith, length-drop}
use Rattle.std.proofs.lemmas.Str.{encodes-append}
use Rattle.std.proofs.lemmas.List.{drop-drop}
use Rattle.std.proofs.Math.Seq.{take-add}
use lib.Utf8.{scalars, encodes}
use Rattle.hr_rules.specs.Lexemes.{spelled_piece, is_piece}
use Rattle.hr_rules.specs.Lexing.{Trivia}
use Rattle.hr_rules.specs.Lexing.Trivia.{none, more}
use Rattle.hr_lexer.specs.TriviaReader.{piece_len, with_piece, trivia_len_within, trivia_len}
use Rattle.hr_lexer.proofs.Statements.{PieceRight}
use Rattle.hr_lexer.proofs.Bytes.{scalars_take, scalars_drop, piece_bytes, parts_join}

-- the first n characters are the blanks and comments at the front of a text
pub record IsTrivia (n : ℕ) (cs : List ℕ) : Type 0 where
  pub within : n ≤ length cs
  pub is : Trivia is_piece (encodes (take n cs)) (encodes (drop n cs))
  pub ends : piece_len (drop n cs) ≡ None

one_more : (n k : ℕ) (cs : List ℕ) → scalars cs ≡ true → n ≤ length cs → spelled_piece (take n cs) (drop n cs) ≡ true → IsTrivia k (drop n cs) → IsTrivia (n + k) cs
one_more n k cs s h e later =
    let front : encodes (take n cs) ++ encodes (take k (drop n cs)) ≡ encodes (take (n + k) cs) = sym (encodes-append (take n cs) (take k (drop n cs))) ∙ ap encodes (sym (take-add n k cs)) in
    let back : drop k (drop n cs) ≡ drop (n + k) cs = drop-drop k n cs in
    let whole : encodes (drop n cs) ≡ encodes (take k (drop n cs)) ++ encodes (drop k (drop n cs)) = sym (parts_join k (drop n cs)) in
    let piece : is_piece (encodes (take n cs)) (encodes (drop n cs)) ≡ true = piece_bytes (take n cs) (drop n cs) (scalars_take n cs s) (scalars_drop n cs s) e in
    let first : is_piece (encodes (take n cs)) (encodes (take k (drop n cs)) ++ encodes (drop k (drop n cs))) ≡ true = subst (λ x. is_piece (encodes (take n cs)) x ≡ true) whole piece in
    let all : Trivia is_piece (encodes (take n cs) ++ encodes (take k (drop n cs))) (encodes (drop k (drop n cs))) =
    more (encodes (take n cs)) (encodes (take k (drop n cs))) (encodes (drop k (drop n cs))) first later.is in
    let all' : Trivia is_piece (encodes (take (n + k) cs)) (encodes (drop k (drop n cs))) = subst (λ x. Trivia is_piece x (encodes (drop k (drop n cs)))) front all in
    let within : n + k ≤ length cs = omega (arith, later.within, length-drop n cs) in
    record {
      within = within;
      is = subst (λ x. Trivia is_piece (encodes (take (n + k) cs)) (encodes x)) back all';
      ends = ap piece_len (sym back) ∙ later.ends;
    }

by_piece : PieceRight → (fuel : ℕ) (cs : List ℕ) → scalars cs ≡ true → length cs ≤ suc fuel → ((n : ℕ) → 0 < n → IsTrivia (trivia_len_within fuel (drop n cs)) (drop n cs))
    → (x : Option ℕ) → piece_len cs ≡ x → IsTrivia (with_piece (λ n. trivia_len_within fuel (drop n cs)) x) cs
by_piece right fuel cs s h later None e = record { within = omega arith; is = none (encodes cs); ends = e }
by_piece right fuel cs s h later (Some n) e =
    let is = right cs n e in
    one_more n (trivia_len_within fuel (drop n cs)) cs s is.1 is.2 (later n is.0)

trivia_within : PieceRight → (fuel : ℕ) (cs : List ℕ) → scalars cs ≡ true → length cs ≤ fuel → IsTrivia (trivia_len_within fuel cs) cs
trivia_within right zero [] s h = record { within = omega arith; is = none []; ends = refl }
trivia_within right zero (c ∷ cs) s h = absurd (omega arith)
trivia_within right (suc fuel) cs s h =
    by_piece right fuel cs s h (λ n some. trivia_within right fuel (drop n cs) (scalars_drop n cs s) (shorter n some)) (piece_len cs) refl
  where
    shorter : (n : ℕ) → 0 < n → length (drop n cs) ≤ fuel
    shorter n some = omega (arith, length-drop n cs)

pub trivia_is : PieceRight → (cs : List ℕ) → scalars cs ≡ true → IsTrivia (trivia_len cs) cs
trivia_is right cs s = trivia_within right (length cs) cs s (omega arith)
