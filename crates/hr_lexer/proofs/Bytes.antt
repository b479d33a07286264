-- Classes, pieces and barriers on the bytes of characters are those on the characters.
use Rattle.std.proofs.Common.{◌≡◌, ℕ, ◌+◌, ◌-◌, ◌≤◌, Bool, true, false, cond, ◌&&◌, List, [], ◌∷◌, ◌++◌, length, take, drop, Option, Some, None, refl, sym, ap, subst, ◌∙◌, true≢false, arith, length-append, take-append-drop}
use Rattle.std.specs.Option.{IsSome, is_some}
use Rattle.std.specs.Str.{chars, is_utf8, IsUtf8}
use Rattle.std.proofs.lemmas.Str.{chars-append, chars-encodes, chars-nil, encodes-append, encodes-chars, IsUtf8-from_is_utf8, is_utf8-from_IsUtf8}
use Rattle.std.proofs.Math.Seq.{take-append-add}
use lib.Utf8.{scalar, scalars, encodes}
use Rattle.hr_base.specs.declared.lexeme.Class.{Class}
use Rattle.hr_rules.specs.Lexemes.{spelled_class, spelled_piece, spelled_bars, are_utf8, class_of, is_piece, bars}
use Rattle.hr_rules.specs.Lexing.{Fits}
use Rattle.hr_rules.specs.Stops.{NothingFits}
use Rattle.hr_lexer.specs.declared.taken.Taken.{Taken}
use Rattle.hr_lexer.specs.LexemeReader.{lexeme_at}
use Rattle.hr_lexer.specs.TriviaReader.{piece_len}
use Rattle.hr_lexer.proofs.Statements.{LexemeRight, LexemeLongest, PieceFound}

pub both_left : (a b : Bool) → (a && b) ≡ true → a ≡ true
both_left true b e = refl
both_left false b e = absurd (true≢false (sym e))

pub both_right : (a b : Bool) → (a && b) ≡ true → b ≡ true
both_right true b e = e
both_right false b e = absurd (true≢false (sym e))

pub both : (a b : Bool) → a ≡ true → b ≡ true → (a && b) ≡ true
both a b p q = ap (λ x. x && b) p ∙ q

pub none_some : {A : Type 0} {x : A} → None ≡ Some x → ⊥
none_some e = cc

-- parts of characters are characters
pub scalars_front : (xs ys : List ℕ) → scalars (xs ++ ys) ≡ true → scalars xs ≡ true
scalars_front [] ys e = refl
scalars_front (c ∷ xs) ys e = both (scalar c) (scalars xs) (both_left (scalar c) (scalars (xs ++ ys)) e) (scalars_front xs ys (both_right (scalar c) (scalars (xs ++ ys)) e))

pub scalars_back : (xs ys : List ℕ) → scalars (xs ++ ys) ≡ true → scalars ys ≡ true
scalars_back [] ys e = e
scalars_back (c ∷ xs) ys e = scalars_back xs ys (both_right (scalar c) (scalars (xs ++ ys)) e)

pub scalars_take : (n : ℕ) (cs : List ℕ) → scalars cs ≡ true → scalars (take n cs) ≡ true
scalars_take n cs e = scalars_front (take n cs) (drop n cs) (ap scalars (take-append-drop n cs) ∙ e)

pub scalars_drop : (n : ℕ) (cs : List ℕ) → scalars cs ≡ true → scalars (drop n cs) ≡ true
scalars_drop n cs e = scalars_back (take n cs) (drop n cs) (ap scalars (take-append-drop n cs) ∙ e)

-- their bytes
pub utf8_of : (cs : List ℕ) → scalars cs ≡ true → is_utf8 (encodes cs) ≡ true
utf8_of cs s = is_utf8-from_IsUtf8 (encodes cs) (cs, (s, refl))

pub are_utf8_of : (xs ys : List ℕ) → scalars xs ≡ true → scalars ys ≡ true → are_utf8 (encodes xs) (encodes ys) ≡ true
are_utf8_of xs ys s t = both (is_utf8 (encodes xs)) (is_utf8 (encodes ys)) (utf8_of xs s) (utf8_of ys t)

class_if : (b : Bool) (xs ys us vs : List ℕ) → b ≡ true → us ≡ xs → vs ≡ ys → cond b (spelled_class us vs) None ≡ spelled_class xs ys
class_if true xs ys us vs e p q = λ k. spelled_class (p k) (q k)
class_if false xs ys us vs e p q = absurd (true≢false (sym e))

pub class_bytes : (xs ys : List ℕ) → scalars xs ≡ true → scalars ys ≡ true → class_of (encodes xs) (encodes ys) ≡ spelled_class xs ys
unfolding class_of
class_bytes xs ys s t = class_if (are_utf8 (encodes xs) (encodes ys)) xs ys (chars (encodes xs)) (chars (encodes ys)) (are_utf8_of xs ys s t) (chars-encodes xs s) (chars-encodes ys t)

pub piece_bytes : (xs ys : List ℕ) → scalars xs ≡ true → scalars ys ≡ true → spelled_piece xs ys ≡ true → is_piece (encodes xs) (encodes ys) ≡ true
unfolding is_piece
piece_bytes xs ys s t e =
    let spelled : spelled_piece (chars (encodes xs)) (chars (encodes ys)) ≡ true = (λ k. spelled_piece (chars-encodes xs s k) (chars-encodes ys t k)) ∙ e in
    both (are_utf8 (encodes xs) (encodes ys)) (spelled_piece (chars (encodes xs)) (chars (encodes ys))) (are_utf8_of xs ys s t) spelled

pub bars_bytes : (cs : List ℕ) → scalars cs ≡ true → bars (encodes cs) ≡ spelled_bars cs
unfolding bars
bars_bytes cs s = ap spelled_bars (chars-encodes cs s)

-- two texts of characters, which together are the characters of the whole
pub record Spelled (text after cs : List ℕ) : Type 0 where
  pub front : encodes (chars text) ≡ text
  pub whole : cs ≡ chars text ++ chars after

spelled_by : (text after cs : List ℕ) → scalars cs ≡ true → encodes cs ≡ text ++ after → are_utf8 text after ≡ true → Spelled text after cs
spelled_by text after cs s e are =
    let left : IsUtf8 text = IsUtf8-from_is_utf8 text (both_left (is_utf8 text) (is_utf8 after) are) in
    record {
      front = encodes-chars text left;
      whole = sym (chars-encodes cs s) ∙ ap chars e ∙ chars-append text after left;
    }

pub class_are : (b : Bool) (x : Option Class) → IsSome (cond b x None) → b ≡ true
class_are true x e = refl
class_are false x e = absurd (true≢false (sym e))

class_is : (b : Bool) (x : Option Class) → b ≡ true → IsSome (cond b x None) → IsSome x
class_is true x p e = e
class_is false x p e = absurd (true≢false (sym e))

-- where bytes are a lexeme, their characters are
pub record Classed (text after cs : List ℕ) : Type 0 where
  pub spelled : Spelled text after cs
  pub some : IsSome (spelled_class (chars text) (chars after))

pub classed : (text after cs : List ℕ) → scalars cs ≡ true → encodes cs ≡ text ++ after → IsSome (class_of text after) → Classed text after cs
unfolding class_of
classed text after cs s e some =
    let are : are_utf8 text after ≡ true = class_are (are_utf8 text after) (spelled_class (chars text) (chars after)) some in
    record {
      spelled = spelled_by text after cs s e are;
      some = class_is (are_utf8 text after) (spelled_class (chars text) (chars after)) are some;
    }

-- where bytes are a blank or comment, their characters are
pub record Pieced (text after cs : List ℕ) : Type 0 where
  pub spelled : Spelled text after cs
  pub is : spelled_piece (chars text) (chars after) ≡ true

pub pieced : (text after cs : List ℕ) → scalars cs ≡ true → encodes cs ≡ text ++ after → is_piece text after ≡ true → Pieced text after cs
unfolding is_piece
pieced text after cs s e f =
    record {
      spelled = spelled_by text after cs s e (both_left (are_utf8 text after) (spelled_piece (chars text) (chars after)) f);
      is = both_right (are_utf8 text after) (spelled_piece (chars text) (chars after)) f;
    }

-- the bytes of a front of characters are no longer than those of a longer front
pub fronts : (n : ℕ) (xs ys : List ℕ) → length xs ≤ n → length (encodes xs) ≤ length (encodes (take n (xs ++ ys)))
fronts n xs ys h =
    let same : length xs + (n - length xs) ≡ n = omega arith in
    let cut : take n (xs ++ ys) ≡ xs ++ take (n - length xs) ys = ap (λ m. take m (xs ++ ys)) (sym same) ∙ take-append-add xs ys (n - length xs) in
    let all : length (encodes (take n (xs ++ ys))) ≡ length (encodes xs) + length (encodes (take (n - length xs) ys)) =
    ap (λ l. length (encodes l)) cut ∙ ap length (encodes-append xs (take (n - length xs) ys)) ∙ length-append (encodes xs) (encodes (take (n - length xs) ys)) in
    omega arith

same_taken : {x y : Taken} → ◌≡◌ {A = Option Taken} (Some x) (Some y) → x ≡ y
same_taken e = cc

pub parts_join : (n : ℕ) (cs : List ℕ) → encodes (take n cs) ++ encodes (drop n cs) ≡ encodes cs
parts_join n cs = sym (encodes-append (take n cs) (drop n cs)) ∙ ap encodes (take-append-drop n cs)

-- what is read is a lexeme, and the longest
module _ (right : LexemeRight) (longest : LexemeLongest) where
  no_longer : (cs : List ℕ) (taken : Taken) → scalars cs ≡ true → lexeme_at cs ≡ Some taken → (longer rest : List ℕ) → encodes cs ≡ longer ++ rest → IsSome (class_of longer rest)
      → length longer ≤ length (encodes (take taken.len cs))
  no_longer cs taken s e longer rest whole some =
      let is : Classed longer rest cs = classed longer rest cs s whole some in
      let free : spelled_bars (chars longer ++ chars rest) ≡ false = ap spelled_bars (sym is.spelled.whole) ∙ (right cs taken e).0 in
      let found = longest (chars longer) (chars rest) free is.some in
      let same : found.0 ≡ taken = same_taken (sym found.1 ∙ ap lexeme_at (sym is.spelled.whole) ∙ e) in
      let long : length (chars longer) ≤ taken.len = subst (λ t. length (chars longer) ≤ t.len) same found.2 in
      let bytes : length (encodes (chars longer)) ≤ length (encodes (take taken.len (chars longer ++ chars rest))) = fronts taken.len (chars longer) (chars rest) long in
      let bytes' : length (encodes (chars longer)) ≤ length (encodes (take taken.len cs)) = subst (λ l. length (encodes (chars longer)) ≤ length (encodes (take taken.len l))) (sym is.spelled.whole) bytes in
      subst (λ l. length l ≤ length (encodes (take taken.len cs))) is.spelled.front bytes'

  pub fits : (cs : List ℕ) (taken : Taken) → scalars cs ≡ true → lexeme_at cs ≡ Some taken → Fits class_of bars taken.class (encodes (take taken.len cs)) (encodes (drop taken.len cs))
  fits cs taken s e =
      let is = right cs taken e in
      record {
        is = class_bytes (take taken.len cs) (drop taken.len cs) (scalars_take taken.len cs s) (scalars_drop taken.len cs s) ∙ is.3;
        longest = λ longer rest whole some. no_longer cs taken s e longer rest (sym (parts_join taken.len cs) ∙ whole) some;
        begins = ap bars (parts_join taken.len cs) ∙ bars_bytes cs s ∙ is.0;
      }

  -- where no lexeme is read none fits
  pub no_lexeme : (cs : List ℕ) → scalars cs ≡ true → lexeme_at cs ≡ None → (class : Class) (text after : List ℕ) → encodes cs ≡ text ++ after → ¬ (Fits class_of bars class text after)
  no_lexeme cs s e class text after whole it =
      let is : Classed text after cs = classed text after cs s whole (ap is_some it.is) in
      let free : spelled_bars (chars text ++ chars after) ≡ false = ap spelled_bars (sym is.spelled.whole) ∙ sym (bars_bytes cs s) ∙ ap bars whole ∙ it.begins in
      let found = longest (chars text) (chars after) free is.some in
      none_some (sym e ∙ ap lexeme_at is.spelled.whole ∙ found.1)

  -- nothing fits where no blank, comment or lexeme is read
  pub nothing_fits : PieceFound → (c : ℕ) (cs : List ℕ) → scalars (c ∷ cs) ≡ true → piece_len (c ∷ cs) ≡ None → lexeme_at (c ∷ cs) ≡ None → NothingFits class_of is_piece bars (encodes (c ∷ cs))
  nothing_fits found c cs s no_piece no_text =
      record {
        some = λ e. nil_cons (sym (sym (chars-encodes (c ∷ cs) s) ∙ ap chars e ∙ chars-nil));
        no_piece = λ piece after e is.
            let it : Pieced piece after (c ∷ cs) = pieced piece after (c ∷ cs) s e is in
            none_some (sym no_piece ∙ ap piece_len it.spelled.whole ∙ found (chars piece) (chars after) it.is);
        no_lexeme = λ class text after e. no_lexeme (c ∷ cs) s no_text class text after e;
      }
    where
      nil_cons : {x : ℕ} {xs : List ℕ} → [] ≡ x ∷ xs → ⊥
      nil_cons e = cc
