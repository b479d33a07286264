-- What a lexeme looks at behind it stays where items are respelled.
use Rattle.std.proofs.Common.{◌≡◌, ◌≢◌, ℕ, Bool, true, false, not, List, [], ◌∷◌, ◌++◌, Option, Some, refl, sym, ap, subst, ◌∙◌, true≢false}
use Rattle.std.specs.Prelude.{⊤}
use Rattle.std.specs.Str.{chars, IsUtf8}
use Rattle.std.proofs.lemmas.Str.{IsUtf8-append, IsUtf8-nil, chars-nil}
use Rattle.hr_base.specs.declared.lexeme.Class.{Class}
use Rattle.hr_base.specs.declared.lexeme.Item.{Item}
use Rattle.hr_base.specs.declared.lexeme.Items.{Items}
use Rattle.hr_rules.specs.Letters.{kind_of, is_in_name, is_symbol}
use Rattle.hr_rules.specs.Runs.{ends_run}
use Rattle.hr_rules.specs.Lexemes.{class_of, is_piece, bars, led_by}
use Rattle.hr_rules.specs.Lexing.{Trivia, Fits, joined}
use Rattle.hr_lexer.specs.Words.{AreApart, IsVarId}
use Rattle.hr_plain.specs.Form.{is_plain_trivia, is_plain_trivia_where}
use Rattle.hr_plain.specs.Target.{IsParted, AllRespell}
use Rattle.hr_plain.specs.Target.IsParted.{first, kept, apart, put}
use Rattle.hr_plain.specs.Target.AllRespell.{none, more}
use Rattle.hr_plain.proofs.ReadsAlone.{Quiet, quiet_stops}
use Rattle.hr_plain.proofs.ReadsAlone.Quiet.{nothing}
use Rattle.hr_plain.proofs.ReadsFit.{spelled_in_class}
use Rattle.hr_plain.proofs.ReadsLexed.{IsPlainLexeme, IsPlainItem, ArePlain, Lexed, lexed, lexed_utf8, quiet_left, quiet_right, quiet_equals, ahead}
use Rattle.hr_plain.proofs.ReadsLexed.IsPlainLexeme.{variable, integer, left, right, equals}
use Rattle.hr_plain.proofs.ReadsNames.{word_stops, word_begins, byte_first, space_byte}
use Rattle.hr_plain.proofs.ReadsNumbers.{number_quiet, number_word, number_digits, integer_anywhere}
use Rattle.hr_plain.proofs.ReadsTrivia.{trivia_utf8, same_begin, not_empty, quiet_blank, quiet_trivia}

-- each marked lexeme is a variable
abbrev pub OnlyVariables : List Bool → List Item → Type 0
OnlyVariables [] items = ⊤
OnlyVariables (mark ∷ marks) [] = ⊤
OnlyVariables (mark ∷ marks) (item ∷ items) = (mark ≡ true → item.lexeme.class ≡ Class.VarId) × OnlyVariables marks items

-- behind a lexeme of this text one text stands for another: whether names and operators go on stays, and an
-- integer that is read stays one
pub record Link (w rest other : List ℕ) : Type 0 where
  pub names : ends_run is_in_name (chars rest) ≡ true → ends_run is_in_name (chars other) ≡ true
  pub symbols : ends_run is_symbol (chars rest) ≡ true → ends_run is_symbol (chars other) ≡ true
  pub numbers : Fits class_of bars Class.Integer w rest → Fits class_of bars Class.Integer w other

-- both begin alike, and no number goes on into the other
alike : (w t a b : List ℕ) → IsUtf8 t → t ≢ [] → (Fits class_of bars Class.Integer w (t ++ a) → Fits class_of bars Class.Integer w (t ++ b)) → Link w (t ++ a) (t ++ b)
alike w t a b u some numbers = record {
  names = λ e. sym (same_begin is_in_name t a b u some) ∙ e;
  symbols = λ e. sym (same_begin is_symbol t a b u some) ∙ e;
  numbers = numbers;
}

behind_trivia : (w : List ℕ) (c : ℕ) (t a b : List ℕ) → Trivia is_piece (c ∷ t) b → is_plain_trivia (c ∷ t) ≡ true → IsUtf8 b → Link w ((c ∷ t) ++ a) ((c ∷ t) ++ b)
behind_trivia w c t a b is plain v =
    let u : IsUtf8 (c ∷ t) = trivia_utf8 is in
    alike w (c ∷ t) a b u some (λ f. number_quiet w ((c ∷ t) ++ a) ((c ∷ t) ++ b) f (IsUtf8-append (c ∷ t) b u v) (quiet_trivia is plain some))
  where
    some : (c ∷ t) ≢ []
    some e = cc

-- behind the lexeme no number goes on, unless a name does
abbrev Ahead : List ℕ → Type 0
Ahead rest = ends_run is_in_name (chars rest) ≡ true → Quiet (chars rest)

class_is : {class other : Class} (x rest : List ℕ) → Fits class_of bars class x rest → class ≡ other → class_of x rest ≡ Some other
class_is x rest fits e = fits.is ∙ ap Some e

-- a lexeme that stays, directly behind
numbers_kept : (w : List ℕ) (item : Item) (a b : List ℕ) → IsPlainLexeme item → Fits class_of bars item.lexeme.class item.lexeme.text a → Fits class_of bars item.lexeme.class item.lexeme.text b
    → Ahead a → Ahead b → IsUtf8 item.lexeme.text → IsUtf8 b → Fits class_of bars Class.Integer w (item.lexeme.text ++ a) → Fits class_of bars Class.Integer w (item.lexeme.text ++ b)
numbers_kept w item a b (variable e) f g p q u v n =
    number_word w item.lexeme.text a b n u v (p (word_stops item.lexeme.text a (class_is item.lexeme.text a f e))) (q (word_stops item.lexeme.text b (class_is item.lexeme.text b g e)))
numbers_kept w item a b (integer e) f g p q u v n = number_digits w item.lexeme.text a b n (subst (λ class. Fits class_of bars class item.lexeme.text a) e f) v
numbers_kept w item a b (left e) f g p q u v n = number_quiet w (item.lexeme.text ++ a) (item.lexeme.text ++ b) n (IsUtf8-append item.lexeme.text b u v) (quiet_left item.lexeme.text b e)
numbers_kept w item a b (right e) f g p q u v n = number_quiet w (item.lexeme.text ++ a) (item.lexeme.text ++ b) n (IsUtf8-append item.lexeme.text b u v) (quiet_right item.lexeme.text b e)
numbers_kept w item a b (equals e) f g p q u v n = number_quiet w (item.lexeme.text ++ a) (item.lexeme.text ++ b) n (IsUtf8-append item.lexeme.text b u v) (quiet_equals item.lexeme.text b e)

-- an item that stays
stays : (w t : List ℕ) (item : Item) (a b : List ℕ) → IsPlainLexeme item → is_plain_trivia t ≡ true → Trivia is_piece t (item.lexeme.text ++ b)
    → Fits class_of bars item.lexeme.class item.lexeme.text a → Fits class_of bars item.lexeme.class item.lexeme.text b → Ahead a → Ahead b → IsUtf8 b
    → Link w (t ++ (item.lexeme.text ++ a)) (t ++ (item.lexeme.text ++ b))
stays w [] item a b lexeme plain is f g p q v =
    let u : IsUtf8 item.lexeme.text = (spelled_in_class item.lexeme.class item.lexeme.text a f.is).front in
    alike w item.lexeme.text a b u (not_empty item.lexeme.class item.lexeme.text a f.is) (numbers_kept w item a b lexeme f g p q u v)
stays w (c ∷ t) item a b lexeme plain is f g p q v =
    let u : IsUtf8 item.lexeme.text = (spelled_in_class item.lexeme.class item.lexeme.text a f.is).front in
    behind_trivia w c t (item.lexeme.text ++ a) (item.lexeme.text ++ b) is plain (IsUtf8-append item.lexeme.text b u v)

-- two lexemes that are read apart: the first one fits
abbrev class_first : List Item → Class
class_first [] = Class.Special
class_first (item ∷ items) = item.lexeme.class

abbrev text_first : List Item → List ℕ
text_first [] = []
text_first (item ∷ items) = item.lexeme.text

abbrev left_behind : List Item → List ℕ → List ℕ
left_behind [] tail = []
left_behind (item ∷ items) tail = joined items tail

abbrev pair_of : Class → Class → List ℕ → List ℕ → Items
pair_of class other w new = record {
  list = record { trivia = []; lexeme = record { class = class; text = w } } ∷ record { trivia = []; lexeme = record { class = other; text = new } } ∷ [];
  tail = [];
}

first_fits : (class other : Class) (w new mark : List ℕ) (list : List Item) (tail : List ℕ) → w ≢ [] → Lexed list tail → pair_of class other w new ≡ led_by mark list tail
    → Fits class_of bars class w (new ++ [])
first_fits class other w new mark [] tail some l e = absurd (some (ap (λ (x : Items). text_first x.list) e))
first_fits class other w new mark (item ∷ list) tail some l e =
    let text : w ≡ item.lexeme.text = ap (λ (x : Items). text_first x.list) e in
    let class_same : class ≡ item.lexeme.class = ap (λ (x : Items). class_first x.list) e in
    let behind : new ++ [] ≡ joined list tail = ap (λ (x : Items). left_behind x.list x.tail) e in
    subst (λ y. Fits class_of bars class w y) (sym behind)
    (subst (λ y. Fits class_of bars class y (joined list tail)) (sym text)
    (subst (λ y. Fits class_of bars y item.lexeme.text (joined list tail)) (sym class_same) l.1.0))

some_is : (a b : Class) → ◌≡◌ {A = Option Class} (Some a) (Some b) → a ≡ b
some_is a b e = cc

apart_fits : (w rest new : List ℕ) → w ≢ [] → IsUtf8 new → Fits class_of bars Class.Integer w rest → AreApart w new → Fits class_of bars Class.Integer w (new ++ [])
apart_fits w rest new some u f a =
    let text = a.2 in
    let fits : Fits class_of bars a.0 w (new ++ []) = first_fits a.0 a.1 w new _ text.0 text.1.0 some (lexed text.1.1.0) text.1.1.1 in
    let class : a.0 ≡ Class.Integer = some_is a.0 Class.Integer (sym fits.is ∙ integer_anywhere w rest (new ++ []) f.is (IsUtf8-append new [] u IsUtf8-nil)) in
    subst (λ y. Fits class_of bars y w (new ++ [])) class fits

-- an item that is respelled
no_symbol : is_symbol 32 ≡ false
unfolding kind_of
no_symbol = refl

blank_no_symbol : (rest : List ℕ) → ends_run is_symbol (chars (32 ∷ rest)) ≡ true
blank_no_symbol rest = ap (ends_run is_symbol) (byte_first 32 rest space_byte) ∙ ap not no_symbol

changes : (w new t t' x a b : List ℕ) → IsVarId new → w ≢ [] → IsParted new w t t' → class_of x a ≡ Some Class.VarId → Trivia is_piece t' (new ++ b) → is_plain_trivia t' ≡ true
    → Fits class_of bars Class.VarId new b → Ahead b → IsUtf8 b → Link w (t ++ (x ++ a)) (t' ++ (new ++ b))
changes w new t t' x a b new_is some (first old) e is plain g q v = absurd (some refl)
changes w new t t' x a b new_is some (kept before c old) e is plain g q v =
    behind_trivia w c old (x ++ a) (new ++ b) is plain (IsUtf8-append new b (spelled_in_class Class.VarId new [] new_is).front v)
changes w new t t' x a b new_is some (apart before are) e is plain g q v =
    let u : IsUtf8 new = (spelled_in_class Class.VarId new [] new_is).front in
    record {
      names = λ stop. absurd (true≢false (sym stop ∙ (word_begins x a a e).0));
      symbols = λ stop. (word_begins new [] b new_is).1;
      numbers = λ f. number_word w new [] b (apart_fits w (x ++ a) new some u f are) u v (subst Quiet (sym chars-nil) nothing) (q (word_stops new b g.is));
    }
changes w new t t' x a b new_is some (put c before not_apart) e is plain g q v =
    let u : IsUtf8 (new ++ b) = IsUtf8-append new b (spelled_in_class Class.VarId new [] new_is).front v in
    let blank : Quiet (chars (32 ∷ (new ++ b))) = quiet_blank (new ++ b) in
    record {
      names = λ stop. quiet_stops is_in_name (chars (32 ∷ (new ++ b))) blank (λ c k. k.name);
      symbols = λ stop. blank_no_symbol (new ++ b);
      numbers = λ f. number_quiet w (x ++ a) (32 ∷ (new ++ b)) f (IsUtf8-append (32 ∷ []) (new ++ b) (trivia_utf8 is) u) blank;
    }

-- the items that come out are of the plain form
blank_plain : is_plain_trivia (32 ∷ []) ≡ true
unfolding is_plain_trivia_where
blank_plain = refl

parted_plain : {new before old trivia : List ℕ} → IsParted new before old trivia → is_plain_trivia old ≡ true → is_plain_trivia trivia ≡ true
parted_plain (first old) e = e
parted_plain (kept before c old) e = e
parted_plain (apart before are) e = e
parted_plain (put c before not_apart) e = blank_plain

pub plain_again : {new before : List ℕ} {marks : List Bool} {olds items : List Item} → AllRespell new before marks olds items → ArePlain olds → OnlyVariables marks olds → ArePlain items
plain_again (none before) p o = tt
plain_again (more before false marks old item olds items r rest) p o = (subst IsPlainItem (sym r) p.0, plain_again rest p.1 o.1)
plain_again (more before true marks old item olds items r rest) p o =
    let class : item.lexeme.class ≡ Class.VarId = ap (λ l. l.class) r.0 ∙ o.0 refl in
    (record { lexeme = variable class; trivia = parted_plain r.1 p.0.trivia }, plain_again rest p.1 o.1)

-- and each lexeme finds behind it what it looks at
pub linked : {new w : List ℕ} {marks : List Bool} {olds items : List Item} (tail : List ℕ) → IsVarId new → is_plain_trivia tail ≡ true → AllRespell new w marks olds items → w ≢ []
    → Lexed olds tail → Lexed items tail → ArePlain olds → OnlyVariables marks olds → Link w (joined olds tail) (joined items tail)
linked tail new_is plain (none before) some l l' p o = record { names = λ e. e; symbols = λ e. e; numbers = λ f. f }
linked {new} {w} tail new_is plain (more before false marks old item olds items r rest) some l l' p o =
    let a : List ℕ = joined olds tail in
    let b : List ℕ = joined items tail in
    let there : Lexed (old ∷ items) tail = subst (λ i. Lexed (i ∷ items) tail) r l' in
    subst (λ i. Link before (joined (old ∷ olds) tail) (joined (i ∷ items) tail)) (sym r)
    (stays before old.trivia old a b p.0.lexeme p.0.trivia there.0 l.1.0 there.1.0 (ahead olds tail l.1.1 p.1 plain) (ahead items tail l'.1.1 (plain_again rest p.1 o.1) plain) (lexed_utf8 items tail l'.1.1))
linked {new} {w} tail new_is plain (more before true marks old item olds items r rest) some l l' p o =
    let a : List ℕ = joined olds tail in
    let b : List ℕ = joined items tail in
    let text : item.lexeme.text ≡ new = ap (λ l. l.text) r.0 in
    let class : item.lexeme.class ≡ Class.VarId = ap (λ l. l.class) r.0 ∙ o.0 refl in
    let is : Trivia is_piece item.trivia (new ++ b) = subst (λ x. Trivia is_piece item.trivia (x ++ b)) text l'.0 in
    let fits : Fits class_of bars Class.VarId new b = subst (λ x. Fits class_of bars Class.VarId x b) text (subst (λ k. Fits class_of bars k item.lexeme.text b) class l'.1.0) in
    let old_is : class_of old.lexeme.text a ≡ Some Class.VarId = class_is old.lexeme.text a l.1.0 (o.0 refl) in
    subst (λ x. Link before (joined (old ∷ olds) tail) (item.trivia ++ (x ++ b))) (sym text)
    (changes before new old.trivia item.trivia old.lexeme.text a b new_is some r.1 old_is is (parted_plain r.1 p.0.trivia) fits (ahead items tail l'.1.1 (plain_again rest p.1 o.1) plain) (lexed_utf8 items tail l'.1.1))
