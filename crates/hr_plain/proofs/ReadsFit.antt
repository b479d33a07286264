-- A lexeme fits where it is what is read, on the characters of the two texts.
use Rattle.std.proofs.Common.{◌≡◌, ℕ, ◌≤◌, Bool, true, false, cond, ◌&&◌, List, ◌++◌, length, take, drop, Option, Some, None, refl, sym, ap, subst, ◌∙◌, length-take-le}
use Rattle.std.specs.Option.{is_some}
use Rattle.std.specs.Str.{chars, is_utf8, IsUtf8}
use Rattle.std.proofs.Math.Seq.{take-append_seam, drop-append_seam}
use Rattle.std.proofs.lemmas.Str.{chars-append, chars-encodes, encodes-chars, scalars-chars, IsUtf8-append, IsUtf8-from_is_utf8, is_utf8-from_IsUtf8}
use lib.Utf8.{scalars, encodes}
use Rattle.hr_base.specs.declared.lexeme.Class.{Class}
use Rattle.hr_rules.specs.Lexemes.{spelled_class, spelled_bars, are_utf8, class_of, bars}
use Rattle.hr_rules.specs.Lexing.{Fits}
use Rattle.hr_rules.proofs.Apart.{both_left, both_right, rules_keep_apart}
use Rattle.hr_rules.proofs.Lexing.{same_lexeme}
use Rattle.hr_lexer.specs.declared.taken.Taken.{Taken}
use Rattle.hr_lexer.specs.LexemeReader.{lexeme_at}
use Rattle.hr_lexer.proofs.Bytes.{fits, none_some, parts_join, scalars_take}
use Rattle.hr_lexer.proofs.Instances.{readers}

-- these characters are what is read where the others follow, a lexeme of the class
abbrev pub IsTaken : Class → List ℕ → List ℕ → Type 0
IsTaken class cs after = lexeme_at (cs ++ after) ≡ Some (record { class = class; len = length cs })

-- where bytes are a lexeme, their characters are
pub record Spelled (class : Class) (text after : List ℕ) : Type 0 where
  pub front : IsUtf8 text
  pub back : IsUtf8 after
  pub is : spelled_class (chars text) (chars after) ≡ Some class

some_if : (b : Bool) (x : Option Class) (class : Class) → cond b x None ≡ Some class → (b ≡ true) × (x ≡ Some class)
some_if true x class e = (refl, e)
some_if false x class e = absurd (none_some e)

pub spelled_in_class : (class : Class) (text after : List ℕ) → class_of text after ≡ Some class → Spelled class text after
unfolding class_of
spelled_in_class class text after e =
    let parts : (are_utf8 text after ≡ true) × (spelled_class (chars text) (chars after) ≡ Some class) = some_if (are_utf8 text after) (spelled_class (chars text) (chars after)) class e in
    record {
      front = IsUtf8-from_is_utf8 text (both_left (is_utf8 text) (is_utf8 after) parts.0);
      back = IsUtf8-from_is_utf8 after (both_right (is_utf8 text) (is_utf8 after) parts.0);
      is = parts.1;
    }

if_some : (b : Bool) (x : Option Class) (class : Class) → b ≡ true → x ≡ Some class → cond b x None ≡ Some class
if_some b x class p q = ap (λ t. cond t x None) p ∙ q

pub unspelled : (class : Class) (text after : List ℕ) → IsUtf8 text → IsUtf8 after → spelled_class (chars text) (chars after) ≡ Some class → class_of text after ≡ Some class
unfolding class_of
unspelled class text after u v e =
    let are : are_utf8 text after ≡ true = ap (λ b. b && is_utf8 after) (is_utf8-from_IsUtf8 text u) ∙ is_utf8-from_IsUtf8 after v in
    if_some (are_utf8 text after) (spelled_class (chars text) (chars after)) class are e

pub bars_spelled : (text : List ℕ) → bars text ≡ spelled_bars (chars text)
unfolding bars
bars_spelled text = refl

scalar_parts : (text after : List ℕ) → IsUtf8 text → IsUtf8 after → scalars (chars text ++ chars after) ≡ true
scalar_parts text after u v = ap scalars (sym (chars-append text after u)) ∙ scalars-chars (text ++ after) (IsUtf8-append text after u v)

-- what is read fits
pub fits_read : (class : Class) (text after : List ℕ) → IsUtf8 text → IsUtf8 after → IsTaken class (chars text) (chars after) → Fits class_of bars class text after
fits_read class text after u v e =
    let cs : List ℕ = chars text ++ chars after in
    let n : ℕ = length (chars text) in
    let front : encodes (take n cs) ≡ text = ap encodes (take-append_seam (chars text) (chars after)) ∙ encodes-chars text u in
    let back : encodes (drop n cs) ≡ after = ap encodes (drop-append_seam (chars text) (chars after)) ∙ encodes-chars after v in
    let it : Fits class_of bars class (encodes (take n cs)) (encodes (drop n cs)) = fits readers.right readers.longest cs (record { class = class; len = n }) (scalar_parts text after u v) e in
    subst (λ x. Fits class_of bars class x after) front (subst (λ y. Fits class_of bars class (encodes (take n cs)) y) back it)

same_taken : (class other : Class) (n m : ℕ) → class ≡ other → n ≡ m → ◌≡◌ {A = Taken} (record { class = other; len = m }) (record { class = class; len = n })
same_taken class other n m e f = λ k. record { class = sym e k; len = sym f k }

-- what fits is read
pub read_fits : (class : Class) (text after : List ℕ) → Fits class_of bars class text after → IsTaken class (chars text) (chars after)
read_fits class text after f =
    let s : Spelled class text after = spelled_in_class class text after f.is in
    let cs : List ℕ = chars text ++ chars after in
    let all : scalars cs ≡ true = scalar_parts text after s.front s.back in
    let join : cs ≡ chars (text ++ after) = sym (chars-append text after s.front) in
    let free : spelled_bars cs ≡ false = ap spelled_bars join ∙ sym (bars_spelled (text ++ after)) ∙ f.begins in
    let found = readers.longest (chars text) (chars after) free (ap is_some s.is) in
    let n : ℕ = found.0.len in
    let long : length (chars text) ≤ n = found.2 in
    let it : Fits class_of bars found.0.class (encodes (take n cs)) (encodes (drop n cs)) = fits readers.right readers.longest cs found.0 all found.1 in
    let bytes : encodes cs ≡ text ++ after = ap encodes join ∙ encodes-chars (text ++ after) (IsUtf8-append text after s.front s.back) in
    let whole : text ++ after ≡ encodes (take n cs) ++ encodes (drop n cs) = sym (parts_join n cs ∙ bytes) in
    let same = same_lexeme rules_keep_apart class found.0.class text (encodes (take n cs)) after (encodes (drop n cs)) f it whole in
    let front : chars text ≡ take n cs = ap chars same.0 ∙ chars-encodes (take n cs) (scalars_take n cs all) in
    let within : n ≤ length cs = (readers.right cs found.0 found.1).2 in
    let len : length (chars text) ≡ n = ap length front ∙ length-take-le n cs within in
    found.1 ∙ ap Some (same_taken class found.0.class (length (chars text)) n same.1 len)
