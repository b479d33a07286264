-- No blank stands in a word or in a module's name, not even as a byte.
use Rattle.std.proofs.Common.{◌≡◌, ℕ, ◌<◌, Bool, true, false, not, ◌&&◌, ◌||◌, List, [], ◌∷◌, refl, sym, ap, ◌∙◌, true≢false, arith}
use Rattle.std.specs.List.{list_all, list_any}
use Rattle.std.specs.Str.{chars, is_utf8, NonePass}
use Rattle.std.proofs.lemmas.Str.{NoCharPasses-byte, IsUtf8-from_is_utf8, encodes-chars}
use Rattle.hr_rules.specs.declared.character.Kind.{Kind}
use Rattle.hr_rules.specs.Letters.{kind_of, is_in_name, is_blank, is_blank_kind, continues_name}
use Rattle.hr_script.specs.Texts.{is_module_name, is_word, is_some_text, begins_large}
use Rattle.hr_script.proofs.Pieces.{Lacks, lacks_at}

pub both_left : (a b : Bool) → (a && b) ≡ true → a ≡ true
both_left true b e = refl
both_left false b e = e

pub both_right : (a b : Bool) → (a && b) ≡ true → b ≡ true
both_right true b e = e
both_right false b e = absurd (true≢false (sym e))

pub both : (a b : Bool) → a ≡ true → b ≡ true → (a && b) ≡ true
both a b e f = rw (e, f) refl

named_not_blank : (k : Kind) → continues_name k ≡ true → is_blank_kind k ≡ false
named_not_blank Kind.Small e = refl
named_not_blank Kind.Large e = refl
named_not_blank Kind.Digit e = refl
named_not_blank Kind.WideDigit e = refl
named_not_blank Kind.Quote e = refl
named_not_blank Kind.Symbol e = refl
named_not_blank Kind.Special e = refl
named_not_blank Kind.DoubleQuote e = refl
named_not_blank Kind.Other e = refl
named_not_blank Kind.Blank e = absurd (true≢false (sym e))
named_not_blank Kind.Newline e = absurd (true≢false (sym e))

none_blank : (cs : List ℕ) → list_all is_in_name cs ≡ true → NonePass is_blank cs
none_blank [] e = tt
none_blank (c ∷ cs) e =
    (named_not_blank (kind_of c) (both_left (is_in_name c) (list_all is_in_name cs) e), none_blank cs (both_right (is_in_name c) (list_all is_in_name cs) e))

either_not : (a b : Bool) → not (a || b) ≡ true → (a ≡ false) × (not b ≡ true)
either_not true b e = absurd (true≢false (sym e))
either_not false b e = (refl, e)

none_any : (cs : List ℕ) → not (list_any is_blank cs) ≡ true → NonePass is_blank cs
none_any [] e = tt
none_any (c ∷ cs) e = let p = either_not (is_blank c) (list_any is_blank cs) e in (p.0, none_any cs p.1)

no_blank_byte : (text : List ℕ) → is_utf8 text ≡ true → NonePass is_blank (chars text) → (c : ℕ) → c < 128 → is_blank c ≡ true → Lacks c text
no_blank_byte text utf8 none c small blank =
    lacks_at c text (λ i within same.
    true≢false (sym blank ∙ ap is_blank (sym same) ∙ NoCharPasses-byte is_blank text i (chars text, encodes-chars text (IsUtf8-from_is_utf8 text utf8), none) within (omega arith)))

-- a blank of ASCII stands in no word
pub word_lacks : (text : List ℕ) → is_word text ≡ true → (c : ℕ) → c < 128 → is_blank c ≡ true → Lacks c text
unfolding is_word
word_lacks text is c small blank =
    let rest = both_right (is_utf8 text) (is_some_text text && not (list_any is_blank (chars text))) is in
    no_blank_byte text (both_left (is_utf8 text) (is_some_text text && not (list_any is_blank (chars text))) is)
    (none_any (chars text) (both_right (is_some_text text) (not (list_any is_blank (chars text))) rest)) c small blank

pub module_lacks : (text : List ℕ) → is_module_name text ≡ true → (c : ℕ) → c < 128 → is_blank c ≡ true → Lacks c text
unfolding is_module_name
module_lacks text is c small blank =
    let rest = both_right (is_utf8 text) (begins_large (chars text) && list_all is_in_name (chars text)) is in
    no_blank_byte text (both_left (is_utf8 text) (begins_large (chars text) && list_all is_in_name (chars text)) is)
    (none_blank (chars text) (both_right (begins_large (chars text)) (list_all is_in_name (chars text)) rest)) c small blank
