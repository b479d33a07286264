-- Blanks and comments are read as many as stand together.
use Rattle.std.proofs.Common.{◌≡◌, ◌<◌, ◌≤◌, ℕ, zero, suc, ◌+◌, ◌-◌, true, List, [], ◌∷◌, ◌++◌, length, take, drop, Option, Some, None, refl, sym, ap, subst, ◌∙◌, arith, length-drop, take-append-drop, take-add, drop-drop}
use Rattle.hr_rules.specs.Lexing.{Trivia}
use Rattle.hr_rules.specs.Lexing.Trivia.{none, more}
use Rattle.hr_rules.specs.Lexemes.{spelled_piece}
use Rattle.hr_rules.proofs.Stops.{NoPiece}
use Rattle.hr_lexer.specs.TriviaReader.{piece_len, with_piece, trivia_len_within, trivia_len}
use Rattle.hr_lexer.proofs.PiecesRead.{piece_right, piece_found}

no_some : {A : Type 0} {n : ℕ} → None ≡ Some n → A
no_some e = cc

shorter : (m fuel : ℕ) (text : List ℕ) → 0 < m → m ≤ length text → length text ≤ suc fuel → length (drop m text) ≤ fuel
shorter m fuel text some within enough = omega (arith, length-drop m text)

-- enough is enough
same_fuel : (fuel other : ℕ) (text : List ℕ) → length text ≤ fuel → length text ≤ other → trivia_len_within fuel text ≡ trivia_len_within other text
same_fuel zero zero text p q = refl
same_fuel zero (suc other) [] p q = refl
same_fuel zero (suc other) (c ∷ text) p q = absurd (omega arith)
same_fuel (suc fuel) zero [] p q = refl
same_fuel (suc fuel) zero (c ∷ text) p q = absurd (omega arith)
same_fuel (suc fuel) (suc other) text p q = by (piece_len text) refl (λ m. same_fuel fuel other (drop m text))
  where
    by : (len : Option ℕ) → piece_len text ≡ len
        → ((m : ℕ) → length (drop m text) ≤ fuel → length (drop m text) ≤ other → trivia_len_within fuel (drop m text) ≡ trivia_len_within other (drop m text))
        → with_piece (λ n. trivia_len_within fuel (drop n text)) len ≡ with_piece (λ n. trivia_len_within other (drop n text)) len
    by None is behind = refl
    by (Some m) is behind =
        let right = piece_right text m is in
        ap (λ n. m + n) (behind m (shorter m fuel text right.0 right.1 p) (shorter m other text right.0 right.1 q))

-- a piece, and then the trivia behind it
pub trivia_past : (text : List ℕ) (m : ℕ) → piece_len text ≡ Some m → trivia_len text ≡ m + trivia_len (drop m text)
trivia_past [] m is = no_some is
trivia_past (c ∷ rest) m is =
    let text : List ℕ = c ∷ rest in
    let right = piece_right (c ∷ rest) m is in
    let less : length (drop m (c ∷ rest)) ≤ length rest = shorter m (length rest) (c ∷ rest) right.0 right.1 (omega arith) in
    ap (with_piece (λ n. trivia_len_within (length rest) (drop n (c ∷ rest)))) is
    ∙ ap (λ n. m + n) (same_fuel (length rest) (length (drop m (c ∷ rest))) (drop m (c ∷ rest)) less (omega arith))

-- as much as the number allows is trivia
abbrev Front : List ℕ → ℕ → Type 0
Front text n = (n ≤ length text) × Trivia spelled_piece (take n text) (drop n text)

front_within : (fuel : ℕ) (text : List ℕ) → Front text (trivia_len_within fuel text)
front_within zero text = (omega arith, none text)
front_within (suc fuel) text = by (piece_len text) refl (λ m. front_within fuel (drop m text))
  where
    by : (len : Option ℕ) → piece_len text ≡ len → ((m : ℕ) → Front (drop m text) (trivia_len_within fuel (drop m text))) → Front text (with_piece (λ n. trivia_len_within fuel (drop n text)) len)
    by None is each = (omega arith, none text)
    by (Some m) is each =
        let right = piece_right text m is in
        let k : ℕ = trivia_len_within fuel (drop m text) in
        let behind = each m in
        let some : m ≤ length text = right.1 in
        let within : k ≤ length (drop m text) = behind.0 in
        let piece : spelled_piece (take m text) (take k (drop m text) ++ drop k (drop m text)) ≡ true =
        ap (spelled_piece (take m text)) (take-append-drop k (drop m text)) ∙ right.2 in
        let whole : Trivia spelled_piece (take m text ++ take k (drop m text)) (drop k (drop m text)) =
        more (take m text) (take k (drop m text)) (drop k (drop m text)) piece behind.1 in
        let front : take m text ++ take k (drop m text) ≡ take (m + k) text = sym (take-add m k text) in
        let back : drop k (drop m text) ≡ drop (m + k) text = drop-drop k m text in
        (omega (arith, length-drop m text), subst (λ x. Trivia spelled_piece x (drop (m + k) text)) front (subst (λ y. Trivia spelled_piece (take m text ++ take k (drop m text)) y) back whole))

pub trivia_within : (text : List ℕ) → trivia_len text ≤ length text
trivia_within text = (front_within (length text) text).0

pub trivia_front : (text : List ℕ) → Trivia spelled_piece (take (trivia_len text) text) (drop (trivia_len text) text)
trivia_front text = (front_within (length text) text).1

-- behind it nothing is read
nothing_within : (fuel : ℕ) (text : List ℕ) → length text ≤ fuel → piece_len (drop (trivia_len_within fuel text) text) ≡ None
nothing_within zero [] enough = refl
nothing_within zero (c ∷ text) enough = absurd (omega arith)
nothing_within (suc fuel) text enough = by (piece_len text) refl (λ m. nothing_within fuel (drop m text))
  where
    by : (len : Option ℕ) → piece_len text ≡ len
        → ((m : ℕ) → length (drop m text) ≤ fuel → piece_len (drop (trivia_len_within fuel (drop m text)) (drop m text)) ≡ None)
        → piece_len (drop (with_piece (λ n. trivia_len_within fuel (drop n text)) len) text) ≡ None
    by None is behind = is
    by (Some m) is behind =
        let right = piece_right text m is in
        let k : ℕ = trivia_len_within fuel (drop m text) in
        ap piece_len (sym (drop-drop k m text)) ∙ behind m (shorter m fuel text right.0 right.1 enough)

-- and so no blank or comment begins
pub nothing_behind : (text : List ℕ) → NoPiece spelled_piece (drop (trivia_len text) text)
unfolding NoPiece
nothing_behind text piece after e is =
    let none : piece_len (drop (trivia_len text) text) ≡ None = nothing_within (length text) text (omega arith) in
    no_some (sym none ∙ ap piece_len e ∙ piece_found piece after is)

-- where the loop is that reads them
pub record LoopAt (text rest : List ℕ) : Type 0 where
  pub left : length rest ≤ length text
  pub same : trivia_len rest + (length text - length rest) ≡ trivia_len text

pub one_more : (text rest behind : List ℕ) (m : ℕ) → piece_len rest ≡ Some m → behind ≡ drop m rest → length rest ≤ length text
    → trivia_len rest + (length text - length rest) ≡ trivia_len text → LoopAt text behind
one_more text rest behind m is tail within same =
    let right = piece_right rest m is in
    let le : m ≤ length rest = right.1 in
    let past : trivia_len rest ≡ m + trivia_len (drop m rest) = trivia_past rest m is in
    let less : length (drop m rest) ≤ length text = omega (arith, length-drop m rest) in
    let whole : trivia_len (drop m rest) + (length text - length (drop m rest)) ≡ trivia_len text = omega (arith, length-drop m rest) in
    record {
      left = subst (λ x. length x ≤ length text) (sym tail) less;
      same = subst (λ x. trivia_len x + (length text - length x) ≡ trivia_len text) (sym tail) whole;
    }
