-- Lexemes, blanks and comments keep apart: first on characters, then on the bytes that spell them.
use Rattle.std.proofs.Common.{◌≡◌, ◌≢◌, ℕ, zero, suc, Bool, true, false, cond, not, ◌&&◌, ◌||◌, ◌==◌, ◌⊎◌, inl, inr, List, [], ◌∷◌, ◌++◌, length, Option, Some, None, refl, sym, ap, subst, ◌∙◌, true≢false, arith}
use Rattle.std.specs.List.{list_all}
use Rattle.std.specs.Option.{option_map}
use Rattle.std.specs.Str.{chars, is_utf8, IsUtf8}
use Rattle.std.proofs.lemmas.Str.{chars-nil, chars-append, encodes-chars, IsUtf8-from_is_utf8}
use lib.Utf8.{encodes}
use Rattle.hr_rules.specs.declared.character.Kind.{Kind}
use Rattle.hr_rules.specs.Letters.{kind_of, is_newline, is_symbol}
use Rattle.hr_rules.specs.Operators.{is_dash}
use Rattle.hr_rules.specs.Runs.{is_run, ends_run}
use Rattle.hr_rules.specs.Comments.{goes_on, begins_line_comment, is_in_line, is_nested_comment, opens, shuts, shut, closed_len, ends_there}
use Rattle.hr_rules.specs.Lexemes.{is_empty, spelled_class, spelled_piece, spelled_piece_by, spelled_bars, spelled_bars_by, are_utf8, class_of, is_piece, bars}
use Rattle.hr_rules.specs.Lexing.{KeepApart}
use Rattle.hr_rules.proofs.Lexing.{same_front}

pub both_left : (a b : Bool) → (a && b) ≡ true → a ≡ true
both_left true b e = refl
both_left false b e = absurd (true≢false (sym e))

pub both_right : (a b : Bool) → (a && b) ≡ true → b ≡ true
both_right true b e = e
both_right false b e = absurd (true≢false (sym e))

pub both : (a b : Bool) → a ≡ true → b ≡ true → (a && b) ≡ true
both a b p q = ap (λ x. x && b) p ∙ q

pub and_false : (b : Bool) → (b && false) ≡ false
and_false true = refl
and_false false = refl

pub not_true : (b : Bool) → not b ≡ true → b ≡ false
not_true true e = absurd (true≢false (sym e))
not_true false e = refl

is_eq : (a b : ℕ) → (a == b) ≡ true → a ≡ b
is_eq a b e = grind arith

-- one run at the front of a text
pub one_run : (p : ℕ → Bool) (x a y b : List ℕ) → is_run p x a ≡ true → is_run p y b ≡ true → x ++ a ≡ y ++ b → x ≡ y
one_run p [] a [] b f g e = refl
one_run p [] a (d ∷ y) b f g e =
    let stop : not (p d) ≡ true = subst (λ z. ends_run p z ≡ true) e f in
    let goes : p d ≡ true = both_left (p d) (list_all p y) (both_left (list_all p (d ∷ y)) (ends_run p b) g) in
    absurd (true≢false (sym goes ∙ not_true (p d) stop))
one_run p (c ∷ x) a [] b f g e =
    let stop : not (p c) ≡ true = subst (λ z. ends_run p z ≡ true) (sym e) g in
    let goes : p c ≡ true = both_left (p c) (list_all p x) (both_left (list_all p (c ∷ x)) (ends_run p a) f) in
    absurd (true≢false (sym goes ∙ not_true (p c) stop))
one_run p (c ∷ x) a (d ∷ y) b f g e =
    let head : c ≡ d = cc in
    let tail : x ++ a ≡ y ++ b = cc in
    let f' : is_run p x a ≡ true = both (list_all p x) (ends_run p a)
    (both_right (p c) (list_all p x) (both_left (list_all p (c ∷ x)) (ends_run p a) f))
    (both_right (list_all p (c ∷ x)) (ends_run p a) f) in
    let g' : is_run p y b ≡ true = both (list_all p y) (ends_run p b)
    (both_right (p d) (list_all p y) (both_left (list_all p (d ∷ y)) (ends_run p b) g))
    (both_right (list_all p (d ∷ y)) (ends_run p b) g) in
    let rest : x ≡ y = one_run p x a y b f' g' tail in
    λ k. head k ∷ rest k

-- a newline makes no operator of dashes
newline_is : (d : ℕ) → is_newline d ≡ true → ((d ≡ 10) ⊎ (d ≡ 12)) ⊎ (d ≡ 13)
newline_is d e = split (d == 10) (d == 12) (d == 13) refl refl refl e
  where
    split : (a b c : Bool) → (d == 10) ≡ a → (d == 12) ≡ b → (d == 13) ≡ c → ((a || b) || c) ≡ true → ((d ≡ 10) ⊎ (d ≡ 12)) ⊎ (d ≡ 13)
    split true b c p q r h = inl (inl (is_eq d 10 p))
    split false true c p q r h = inl (inr (is_eq d 12 q))
    split false false true p q r h = inr (is_eq d 13 r)
    split false false false p q r h = absurd (true≢false (sym h))

not_on : (d : ℕ) (after : List ℕ) → is_newline d ≡ true → goes_on (d ∷ after) ≡ false
unfolding kind_of
not_on d after e = elim (newline_is d e) [
  | inl w ↦ elim w [
    | inl h ↦ subst (λ x. goes_on (x ∷ after) ≡ false) (sym h) refl
    | inr h ↦ subst (λ x. goes_on (x ∷ after) ≡ false) (sym h) refl
  ]
  | inr h ↦ subst (λ x. goes_on (x ∷ after) ≡ false) (sym h) refl
]

not_not : (b : Bool) → not (not b) ≡ true → b ≡ true
not_not true e = refl
not_not false e = absurd (true≢false (sym e))

pub goes_on_over : (rest after : List ℕ) → ends_run is_in_line after ≡ true → goes_on (rest ++ after) ≡ goes_on rest
goes_on_over [] [] e = refl
goes_on_over [] (d ∷ after) e = not_on d after (not_not (is_newline d) e)
goes_on_over (c ∷ rest) after e = ap (λ x. cond (is_dash c) x (is_symbol c)) (goes_on_over rest after e)

pub begins_over : (text after : List ℕ) → ends_run is_in_line after ≡ true → begins_line_comment text ≡ true → begins_line_comment (text ++ after) ≡ true
begins_over [] after e is = absurd (true≢false (sym is))
begins_over (a ∷ []) after e is = absurd (true≢false (sym is))
begins_over (a ∷ b ∷ rest) after e is = ap (λ x. (is_dash a && is_dash b) && not x) (goes_on_over rest after e) ∙ is

-- what a text answers, a longer one answers too
unfoldable pub Keeps : Option ℕ → Option ℕ → Type 0
Keeps x y = (m : ℕ) → x ≡ Some m → y ≡ Some m

pub keeps_map : (x y : Option ℕ) → Keeps x y → Keeps (option_map suc x) (option_map suc y)
unfolding Keeps
keeps_map None y k m e = cc
keeps_map (Some n) y k m e = ap (option_map suc) (k n refl) ∙ e

pub keeps_cond : (b : Bool) (x y u v : Option ℕ) → Keeps x u → Keeps y v → Keeps (cond b x y) (cond b u v)
keeps_cond true x y u v p q = p
keeps_cond false x y u v p q = q

keeps_shut : (f g : ℕ → Option ℕ) → ((d : ℕ) → Keeps (f d) (g d)) → (depth : ℕ) → Keeps (shut f depth) (shut g depth)
unfolding Keeps
keeps_shut f g k zero m e = e
keeps_shut f g k (suc d) m e = keeps_map (f d) (g d) (k d) m e

keeps_none : (o s : Bool) (x y : Option ℕ) → o ≡ false → s ≡ false → (z : Option ℕ) → Keeps (cond o x (cond s y None)) z
unfolding Keeps
keeps_none true s x y p q z m e = absurd (true≢false p)
keeps_none false true x y p q z m e = absurd (true≢false q)
keeps_none false false x y p q z m e = cc

-- one character more
more_closed : (c depth : ℕ) (rest after : List ℕ) → ((half : Bool) (d : ℕ) → Keeps (closed_len half d rest) (closed_len half d (rest ++ after)))
    → Keeps (closed_len false depth (c ∷ rest)) (closed_len false depth (c ∷ (rest ++ after)))
more_closed c depth [] after keeps =
    keeps_none (opens c []) (shuts c []) (option_map suc (closed_len true (suc depth) [])) (shut (λ d. closed_len true d []) depth)
    (and_false (c == 123)) (and_false (c == 45)) (closed_len false depth (c ∷ after))
more_closed c depth (b ∷ text) after keeps =
    let rest : List ℕ = b ∷ text in
    keeps_cond (opens c rest) (option_map suc (closed_len true (suc depth) rest)) (cond (shuts c rest) (shut (λ d. closed_len true d rest) depth) (option_map suc (closed_len false depth rest)))
    (option_map suc (closed_len true (suc depth) (rest ++ after))) (cond (shuts c rest) (shut (λ d. closed_len true d (rest ++ after)) depth) (option_map suc (closed_len false depth (rest ++ after))))
    (keeps_map (closed_len true (suc depth) rest) (closed_len true (suc depth) (rest ++ after)) (keeps true (suc depth)))
    (keeps_cond (shuts c rest) (shut (λ d. closed_len true d rest) depth) (option_map suc (closed_len false depth rest))
    (shut (λ d. closed_len true d (rest ++ after)) depth) (option_map suc (closed_len false depth (rest ++ after)))
    (keeps_shut (λ d. closed_len true d rest) (λ d. closed_len true d (rest ++ after)) (λ d. keeps true d) depth)
    (keeps_map (closed_len false depth rest) (closed_len false depth (rest ++ after)) (keeps false depth)))

pub closed_over : (half : Bool) (depth : ℕ) (text after : List ℕ) → Keeps (closed_len half depth text) (closed_len half depth (text ++ after))
unfolding Keeps
closed_over true depth [] after m e = cc
closed_over false depth [] after m e = cc
closed_over true depth (c ∷ text) after m e = keeps_map (closed_len false depth text) (closed_len false depth (text ++ after)) (closed_over false depth text after) m e
closed_over false depth (c ∷ text) after m e = more_closed c depth text after (λ half d. closed_over half d text after) m e

pub ends : (len : Option ℕ) (text : List ℕ) → ends_there len text ≡ true → len ≡ Some (length text)
ends None text e = absurd (true≢false (sym e))
ends (Some n) text e = ap Some (is_eq n (length text) e)

one_closed : (x a y b : List ℕ) → ends_there (closed_len false 0 x) x ≡ true → ends_there (closed_len false 0 y) y ≡ true → x ++ a ≡ y ++ b → x ≡ y
unfolding Keeps
one_closed x a y b f g e =
    let left : closed_len false 0 (x ++ a) ≡ Some (length x) = closed_over false 0 x a (length x) (ends (closed_len false 0 x) x f) in
    let right : closed_len false 0 (y ++ b) ≡ Some (length y) = closed_over false 0 y b (length y) (ends (closed_len false 0 y) y g) in
    let some : ◌≡◌ {A = Option ℕ} (Some (length x)) (Some (length y)) = sym left ∙ ap (closed_len false 0) e ∙ right in
    let same : length x ≡ length y = cc in
    same_front x y a b e same

one_nested : (x a y b : List ℕ) → is_nested_comment x ≡ true → is_nested_comment y ≡ true → x ++ a ≡ y ++ b → x ≡ y
one_nested [] a y b f g e = absurd (true≢false (sym f))
one_nested (c ∷ []) a y b f g e = absurd (true≢false (sym f))
one_nested (c ∷ d ∷ x) a [] b f g e = absurd (true≢false (sym g))
one_nested (c ∷ d ∷ x) a (c' ∷ []) b f g e = absurd (true≢false (sym g))
one_nested (c ∷ d ∷ x) a (c' ∷ d' ∷ y) b f g e =
    let first : c ≡ c' = cc in
    let second : d ≡ d' = cc in
    let behind : x ++ a ≡ y ++ b = cc in
    let rest : x ≡ y = one_closed x a y b (both_right (c == 123 && d == 45) (ends_there (closed_len false 0 x) x) f) (both_right (c' == 123 && d' == 45) (ends_there (closed_len false 0 y) y) g) behind in
    λ k. first k ∷ (second k ∷ rest k)

one_empty : (x y : List ℕ) → is_empty x ≡ true → is_empty y ≡ true → x ≡ y
one_empty [] [] f g = refl
one_empty [] (d ∷ y) f g = absurd (true≢false (sym g))
one_empty (c ∷ x) y f g = absurd (true≢false (sym f))

-- on characters
one_by : (k : Kind) (c : ℕ) (x a y b : List ℕ) → spelled_piece_by k c x a ≡ true → spelled_piece_by k c y b ≡ true → x ++ a ≡ y ++ b → c ∷ x ≡ c ∷ y
one_by Kind.Blank c x a y b f g e = ap (λ z. c ∷ z) (one_empty x y f g)
one_by Kind.Newline c x a y b f g e = ap (λ z. c ∷ z) (one_empty x y f g)
one_by Kind.Symbol c x a y b f g e =
    one_run is_in_line (c ∷ x) a (c ∷ y) b
    (both_right (begins_line_comment (c ∷ x)) (is_run is_in_line (c ∷ x) a) f)
    (both_right (begins_line_comment (c ∷ y)) (is_run is_in_line (c ∷ y) b) g) (ap (λ z. c ∷ z) e)
one_by Kind.Special c x a y b f g e = one_nested (c ∷ x) a (c ∷ y) b f g (ap (λ z. c ∷ z) e)
one_by Kind.Small c x a y b f g e = absurd (true≢false (sym f))
one_by Kind.Large c x a y b f g e = absurd (true≢false (sym f))
one_by Kind.Digit c x a y b f g e = absurd (true≢false (sym f))
one_by Kind.WideDigit c x a y b f g e = absurd (true≢false (sym f))
one_by Kind.Quote c x a y b f g e = absurd (true≢false (sym f))
one_by Kind.DoubleQuote c x a y b f g e = absurd (true≢false (sym f))
one_by Kind.Other c x a y b f g e = absurd (true≢false (sym f))

one_spelled : (x a y b : List ℕ) → spelled_piece x a ≡ true → spelled_piece y b ≡ true → x ++ a ≡ y ++ b → x ≡ y
one_spelled [] a y b f g e = absurd (true≢false (sym f))
one_spelled (c ∷ x) a [] b f g e = absurd (true≢false (sym g))
one_spelled (c ∷ x) a (d ∷ y) b f g e =
    let first : c ≡ d = cc in
    let behind : x ++ a ≡ y ++ b = cc in
    let g' : spelled_piece_by (kind_of c) c y b ≡ true = subst (λ z. spelled_piece_by (kind_of z) z y b ≡ true) (sym first) g in
    one_by (kind_of c) c x a y b f g' behind ∙ ap (λ z. z ∷ y) first

opens_over : (c : ℕ) (x after : List ℕ) → is_nested_comment (c ∷ x) ≡ true → opens c (x ++ after) ≡ true
opens_over c [] after f = absurd (true≢false (sym f))
opens_over c (d ∷ x) after f = both_left (c == 123 && d == 45) (ends_there (closed_len false 0 x) x) f

bars_by : (k : Kind) (c : ℕ) (x after : List ℕ) → spelled_piece_by k c x after ≡ true → spelled_bars_by k c (x ++ after) ≡ true
bars_by Kind.Blank c x after f = refl
bars_by Kind.Newline c x after f = refl
bars_by Kind.Symbol c x after f =
    let run : is_run is_in_line (c ∷ x) after ≡ true = both_right (begins_line_comment (c ∷ x)) (is_run is_in_line (c ∷ x) after) f in
    begins_over (c ∷ x) after (both_right (list_all is_in_line (c ∷ x)) (ends_run is_in_line after) run) (both_left (begins_line_comment (c ∷ x)) (is_run is_in_line (c ∷ x) after) f)
bars_by Kind.Special c x after f = opens_over c x after f
bars_by Kind.Small c x after f = absurd (true≢false (sym f))
bars_by Kind.Large c x after f = absurd (true≢false (sym f))
bars_by Kind.Digit c x after f = absurd (true≢false (sym f))
bars_by Kind.WideDigit c x after f = absurd (true≢false (sym f))
bars_by Kind.Quote c x after f = absurd (true≢false (sym f))
bars_by Kind.DoubleQuote c x after f = absurd (true≢false (sym f))
bars_by Kind.Other c x after f = absurd (true≢false (sym f))

bars_spelled : (x after : List ℕ) → spelled_piece x after ≡ true → spelled_bars (x ++ after) ≡ true
bars_spelled [] after f = absurd (true≢false (sym f))
bars_spelled (c ∷ x) after f = bars_by (kind_of c) c x after f

-- on bytes
pub piece_text : (text after : List ℕ) → is_piece text after ≡ true → IsUtf8 text
unfolding is_piece
piece_text text after f = IsUtf8-from_is_utf8 text (both_left (is_utf8 text) (is_utf8 after) (both_left (are_utf8 text after) (spelled_piece (chars text) (chars after)) f))

pub piece_spelled : (text after : List ℕ) → is_piece text after ≡ true → spelled_piece (chars text) (chars after) ≡ true
unfolding is_piece
piece_spelled text after f = both_right (are_utf8 text after) (spelled_piece (chars text) (chars after)) f

no_class : (b : Bool) (cs after : List ℕ) → cs ≡ [] → cond b (spelled_class cs after) None ≡ None
no_class true cs after e = ap (λ x. spelled_class x after) e
no_class false cs after e = refl

nothing_empty : (after : List ℕ) → class_of [] after ≡ None
unfolding class_of
nothing_empty after = no_class (are_utf8 [] after) (chars []) (chars after) chars-nil

not_empty : (piece after : List ℕ) → is_piece piece after ≡ true → piece ≢ []
not_empty piece after f e =
    let spelled : spelled_piece (chars piece) (chars after) ≡ true = piece_spelled piece after f in
    let none : chars piece ≡ [] = ap chars e ∙ chars-nil in
    true≢false (sym spelled ∙ ap (λ x. spelled_piece x (chars after)) none)

piece_bars : (piece after : List ℕ) → is_piece piece after ≡ true → bars (piece ++ after) ≡ true
unfolding bars
piece_bars piece after f =
    ap spelled_bars (chars-append piece after (piece_text piece after f)) ∙ bars_spelled (chars piece) (chars after) (piece_spelled piece after f)

one_piece : (piece after other rest : List ℕ) → is_piece piece after ≡ true → is_piece other rest ≡ true → piece ++ after ≡ other ++ rest → piece ≡ other
one_piece piece after other rest f g e =
    let left : IsUtf8 piece = piece_text piece after f in
    let right : IsUtf8 other = piece_text other rest g in
    let whole : chars piece ++ chars after ≡ chars other ++ chars rest = sym (chars-append piece after left) ∙ ap chars e ∙ chars-append other rest right in
    let same : chars piece ≡ chars other = one_spelled (chars piece) (chars after) (chars other) (chars rest) (piece_spelled piece after f) (piece_spelled other rest g) whole in
    sym (encodes-chars piece left) ∙ ap encodes same ∙ encodes-chars other right

end_bars_nothing : bars [] ≡ false
unfolding bars
end_bars_nothing = ap spelled_bars chars-nil

pub rules_keep_apart : KeepApart class_of is_piece bars
rules_keep_apart = record {
  lexeme_not_empty = nothing_empty;
  piece_not_empty = not_empty;
  piece_bars = piece_bars;
  piece_is_one = one_piece;
  end_bars_nothing = end_bars_nothing;
}
