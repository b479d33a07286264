-- Characters and strings are read by their rules.
use Rattle.std.proofs.Common.{◌≡◌, ◌<◌, ◌≤◌, ℕ, zero, suc, ◌+◌, Bool, true, false, cond, ◌==◌, List, [], ◌∷◌, ◌++◌, length, take, drop, Option, Some, None, refl, sym, ap, subst, ◌∙◌, true≢false, arith, length-drop, length-take-le, take-append-drop}
use Rattle.std.specs.Option.{IsSome, option_map}
use Rattle.std.proofs.lemmas.List.{drop-append-le}
use Rattle.hr_base.specs.declared.lexeme.Class.{Class}
use Rattle.hr_rules.specs.declared.character.Kind.{Kind}
use Rattle.hr_rules.specs.Lexemes.{spelled_class, spelled_class_by}
use Rattle.hr_rules.specs.Quotes.{backslash, quote, double_quote, is_plain, is_closed, closed_behind, escape_len, char_len, string_escape_len, behind_escape, string_len_past, string_len, literal_class}
use Rattle.hr_lexer.specs.declared.taken.Taken.{Taken}
use Rattle.hr_lexer.specs.QuoteReader.{literal}
use Rattle.hr_lexer.proofs.Statements.{KindReads}
use Rattle.hr_lexer.proofs.PiecesRead.{some_if, some_suc}
use Rattle.hr_lexer.proofs.Agreeing.{Agree, agree_same, agree_cond, agree_map}
use Rattle.hr_lexer.proofs.EscapesRead.{escape_agree, string_escape_agree}

no_some : {A : Type 0} {n : ℕ} → None ≡ Some n → A
no_some e = cc

-- a length of a literal behind its first quote: within the text, and not for the text behind it to change
pub record Measures (len : List ℕ → Option ℕ) : Type 0 where
  pub within : (text : List ℕ) (n : ℕ) → len text ≡ Some n → n ≤ length text
  pub agree : (x after : List ℕ) (n : ℕ) → n ≤ length x → Agree n (len x) (len (x ++ after))

-- the closing quote of a character
closed_some : (y : List ℕ) → is_closed y ≡ true → 0 < length y
closed_some [] is = absurd (true≢false (sym is))
closed_some (c ∷ y) is = omega arith

closed_over : (y after : List ℕ) → 0 < length y → is_closed (y ++ after) ≡ is_closed y
closed_over [] after some = absurd (omega arith)
closed_over (c ∷ y) after some = refl

behind_is : (x : List ℕ) (k n : ℕ) → closed_behind x (Some k) ≡ Some n → (k + 2 ≡ n) × (k < length x)
behind_is x k n e =
    let read = some_if (is_closed (drop k x)) (Some (k + 2)) n e in
    let some : ◌≡◌ {A = Option ℕ} (Some (k + 2)) (Some n) = read.1 in
    let left : 0 < length (drop k x) = closed_some (drop k x) read.0 in
    (cc, omega (arith, length-drop k x))

behind_over : (x after : List ℕ) (k : ℕ) → k < length x → closed_behind (x ++ after) (Some k) ≡ closed_behind x (Some k)
behind_over x after k less =
    let le : k ≤ length x = omega arith in
    let some : 0 < length (drop k x) = omega (arith, length-drop k x) in
    ap (λ y. cond (is_closed y) (Some (k + 2)) None) (drop-append-le k x after le) ∙ ap (λ b. cond b (Some (k + 2)) None) (closed_over (drop k x) after some)

behind_agree : (x after : List ℕ) (k n : ℕ) → n ≤ suc (length x) → Agree n (closed_behind x (Some k)) (closed_behind (x ++ after) (Some k))
behind_agree x after k n le = (
  (λ e. let is = behind_is x k n e in behind_over x after k is.1 ∙ e),
  (λ e.
      let is = behind_is (x ++ after) k n e in
      let size : k + 2 ≡ n = is.0 in
      sym (behind_over x after k (omega arith)) ∙ e),
)

escaped_over : (x after : List ℕ) (n : ℕ) (o : Option ℕ) → escape_len x ≡ o → closed_behind x o ≡ Some n → closed_behind (x ++ after) (escape_len (x ++ after)) ≡ Some n
escaped_over x after n None is e = no_some e
escaped_over x after n (Some k) is e =
    let here = behind_is x k n e in
    ap (closed_behind (x ++ after)) ((escape_agree x after k here.1).0 is) ∙ behind_over x after k here.1 ∙ e

escaped_under : (x after : List ℕ) (n : ℕ) (o : Option ℕ) → n ≤ suc (length x) → escape_len (x ++ after) ≡ o → closed_behind (x ++ after) o ≡ Some n → closed_behind x (escape_len x) ≡ Some n
escaped_under x after n None le is e = no_some e
escaped_under x after n (Some k) le is e =
    let here = behind_is (x ++ after) k n e in
    let size : k + 2 ≡ n = here.0 in
    let less : k < length x = omega arith in
    ap (closed_behind x) ((escape_agree x after k less).1 is) ∙ sym (behind_over x after k less) ∙ e

escaped_agree : (x after : List ℕ) (n : ℕ) → n ≤ suc (length x) → Agree n (closed_behind x (escape_len x)) (closed_behind (x ++ after) (escape_len (x ++ after)))
escaped_agree x after n le =
    ((λ e. escaped_over x after n (escape_len x) refl e), (λ e. escaped_under x after n (escape_len (x ++ after)) le refl e))

behind_size : (o : Option ℕ) (x : List ℕ) (n : ℕ) → closed_behind x o ≡ Some n → (0 < n) × (n ≤ suc (length x))
behind_size None x n e = no_some e
behind_size (Some k) x n e =
    let here = behind_is x k n e in
    let size : k + 2 ≡ n = here.0 in
    let less : k < length x = here.1 in
    (omega arith, omega arith)

char_by : (s t : Bool) (x : List ℕ) (n : ℕ) → cond s (closed_behind x (Some 0)) (cond t (closed_behind x (escape_len x)) None) ≡ Some n → (0 < n) × (n ≤ suc (length x))
char_by true t x n e = behind_size (Some 0) x n e
char_by false true x n e = behind_size (escape_len x) x n e
char_by false false x n e = no_some e

char_size : (text : List ℕ) (n : ℕ) → char_len text ≡ Some n → (0 < n) × (n ≤ length text)
char_size [] n e = no_some e
char_size (c ∷ x) n e = char_by (is_plain quote c) (c == backslash) x n e

char_agree : (x after : List ℕ) (n : ℕ) → n ≤ length x → Agree n (char_len x) (char_len (x ++ after))
char_agree [] after n le = ((λ e. no_some e), (λ e. let size : 0 < n = (char_size after n e).0 in absurd (omega arith)))
char_agree (c ∷ x) after n le =
    agree_cond (is_plain quote c) n (closed_behind x (Some 0)) (cond (c == backslash) (closed_behind x (escape_len x)) None)
    (closed_behind (x ++ after) (Some 0)) (cond (c == backslash) (closed_behind (x ++ after) (escape_len (x ++ after))) None)
    (behind_agree x after 0 n le)
    (agree_cond (c == backslash) n (closed_behind x (escape_len x)) None (closed_behind (x ++ after) (escape_len (x ++ after))) None
    (escaped_agree x after n le) (agree_same n None None refl))

char_measures : Measures char_len
char_measures = record { within = λ text n e. (char_size text n e).1; agree = char_agree }

-- a string: where it ends is behind the escape that it begins in
abbrev Sized : ℕ → List ℕ → Type 0
Sized past text = (n : ℕ) → string_len_past past text ≡ Some n → (past < n) × (n ≤ length text)

abbrev begun : Bool → Bool → Bool → Option ℕ → List ℕ → Option ℕ
begun s t u o x = cond s (Some 1) (cond t (option_map suc (string_len_past 0 x)) (cond u (behind_escape (λ n. string_len_past n x) o) None))

mapped_size : (past : ℕ) (x : List ℕ) (n : ℕ) → Sized past x → option_map suc (string_len_past past x) ≡ Some n → (suc past < n) × (n ≤ suc (length x))
mapped_size past x n each e =
    let read = some_suc (string_len_past past x) n e in
    let m : ℕ = read.0 in
    let whole : n ≡ suc m = read.1 in
    let size = each m read.2 in
    let less : past < m = size.0 in
    let le : m ≤ length x = size.1 in
    (omega arith, omega arith)

begun_size : (s t u : Bool) (o : Option ℕ) (x : List ℕ) (n : ℕ) → ((past : ℕ) → Sized past x) → begun s t u o x ≡ Some n → (0 < n) × (n ≤ suc (length x))
begun_size true t u o x n each e = let same : 1 ≡ n = cc in (omega arith, omega arith)
begun_size false true u o x n each e =
    let size = mapped_size 0 x n (each 0) e in
    let less : 1 < n = size.0 in
    (omega arith, size.1)
begun_size false false true None x n each e = no_some e
begun_size false false true (Some k) x n each e =
    let size = mapped_size k x n (each k) e in
    let less : suc k < n = size.0 in
    (omega arith, size.1)
begun_size false false false o x n each e = no_some e

string_size : (past : ℕ) (text : List ℕ) → Sized past text
string_size zero [] n e = no_some e
string_size (suc past) [] n e = no_some e
string_size zero (c ∷ x) n e = begun_size (c == double_quote) (is_plain double_quote c) (c == backslash) (string_escape_len x) x n (λ past. string_size past x) e
string_size (suc past) (c ∷ x) n e = mapped_size past x n (string_size past x) e

abbrev Agrees : List ℕ → List ℕ → Type 0
Agrees x after = (past m : ℕ) → m ≤ length x → Agree m (string_len_past past x) (string_len_past past (x ++ after))

gone_over : (x after : List ℕ) (n : ℕ) (o : Option ℕ) → n ≤ suc (length x) → Agrees x after → string_escape_len x ≡ o → behind_escape (λ n. string_len_past n x) o ≡ Some n
    → behind_escape (λ n. string_len_past n (x ++ after)) (string_escape_len (x ++ after)) ≡ Some n
gone_over x after n None le each is e = no_some e
gone_over x after n (Some k) le each is e =
    let read = some_suc (string_len_past k x) n e in
    let m : ℕ = read.0 in
    let whole : n ≡ suc m = read.1 in
    let less : k < m = (string_size k x m read.2).0 in
    let within : m ≤ length x = omega arith in
    ap (behind_escape (λ n. string_len_past n (x ++ after))) ((string_escape_agree x after k (omega arith)).0 is)
    ∙ ap (option_map suc) ((each k m within).0 read.2) ∙ ap Some (sym whole)

gone_under : (x after : List ℕ) (n : ℕ) (o : Option ℕ) → n ≤ suc (length x) → Agrees x after → string_escape_len (x ++ after) ≡ o → behind_escape (λ n. string_len_past n (x ++ after)) o ≡ Some n
    → behind_escape (λ n. string_len_past n x) (string_escape_len x) ≡ Some n
gone_under x after n None le each is e = no_some e
gone_under x after n (Some k) le each is e =
    let read = some_suc (string_len_past k (x ++ after)) n e in
    let m : ℕ = read.0 in
    let whole : n ≡ suc m = read.1 in
    let less : k < m = (string_size k (x ++ after) m read.2).0 in
    let within : m ≤ length x = omega arith in
    ap (behind_escape (λ n. string_len_past n x)) ((string_escape_agree x after k (omega arith)).1 is)
    ∙ ap (option_map suc) ((each k m within).1 read.2) ∙ ap Some (sym whole)

mapped_agree : (past : ℕ) (x after : List ℕ) (n : ℕ) → n ≤ suc (length x) → Agrees x after → Agree n (option_map suc (string_len_past past x)) (option_map suc (string_len_past past (x ++ after)))
mapped_agree past x after n le each = agree_map n (string_len_past past x) (string_len_past past (x ++ after)) (λ m e. each past m (omega arith))

string_agree : (x after : List ℕ) → Agrees x after
string_agree [] after zero n le = ((λ e. no_some e), (λ e. let size : 0 < n = (string_size 0 after n e).0 in absurd (omega arith)))
string_agree [] after (suc past) n le = ((λ e. no_some e), (λ e. let size : suc past < n = (string_size (suc past) after n e).0 in absurd (omega arith)))
string_agree (c ∷ x) after (suc past) n le = mapped_agree past x after n le (string_agree x after)
string_agree (c ∷ x) after zero n le =
    let each : Agrees x after = string_agree x after in
    let plain : List ℕ → Option ℕ = λ (y : List ℕ). option_map suc (string_len_past 0 y) in
    let gone : List ℕ → Option ℕ = λ (y : List ℕ). behind_escape (λ n. string_len_past n y) (string_escape_len y) in
    agree_cond (c == double_quote) n (Some 1) (cond (is_plain double_quote c) (plain x) (cond (c == backslash) (gone x) None))
    (Some 1) (cond (is_plain double_quote c) (plain (x ++ after)) (cond (c == backslash) (gone (x ++ after)) None))
    (agree_same n (Some 1) (Some 1) refl)
    (agree_cond (is_plain double_quote c) n (plain x) (cond (c == backslash) (gone x) None) (plain (x ++ after)) (cond (c == backslash) (gone (x ++ after)) None)
    (mapped_agree 0 x after n le each)
    (agree_cond (c == backslash) n (gone x) None (gone (x ++ after)) None
    ((λ e. gone_over x after n (string_escape_len x) le each refl e), (λ e. gone_under x after n (string_escape_len (x ++ after)) le each refl e))
    (agree_same n None None refl)))

string_measures : Measures string_len
string_measures = record { within = λ text n e. (string_size 0 text n e).1; agree = λ x after n le. string_agree x after 0 n le }

-- a literal whose length is measured
equal_self : (n : ℕ) → (n == n) ≡ true
equal_self n = grind arith

whole_literal : (class : Class) (n : ℕ) (rest : List ℕ) → n ≤ length rest → literal_class class (Some n) (take n rest) ≡ Some class
whole_literal class n rest le = ap (λ b. cond b (Some class) None) (ap (λ k. n == k) (length-take-le n rest le) ∙ equal_self n)

literal_cut : (class : Class) (len : List ℕ → Option ℕ) → Measures len → (rest : List ℕ) (o : Option ℕ) (taken : Taken) → len rest ≡ o → literal class o ≡ Some taken
    → (n : ℕ) × (record { class = class; len = suc n } ≡ taken) × (n ≤ length rest) × (literal_class class (len (take n rest)) (take n rest) ≡ Some class)
literal_cut class len laws rest None taken is e = absurd (none_some e)
  where
    none_some : None ≡ Some taken → ⊥
    none_some e = cc
literal_cut class len laws rest (Some n) taken is e =
    let le : n ≤ length rest = laws.within rest n is in
    let size : length (take n rest) ≡ n = length-take-le n rest le in
    let some : len (take n rest ++ drop n rest) ≡ Some n = ap len (take-append-drop n rest) ∙ is in
    let cut : len (take n rest) ≡ Some n = (laws.agree (take n rest) (drop n rest) n (omega arith)).1 some in
    (n, cc, le, ap (λ x. literal_class class x (take n rest)) cut ∙ whole_literal class n rest le)

literal_is : (class : Class) (o : Option ℕ) (front : List ℕ) → IsSome (literal_class class o front) → o ≡ Some (length front)
literal_is class None front some = absurd (true≢false (sym some))
literal_is class (Some n) front some = by (n == length front) refl some
  where
    by : (b : Bool) → (n == length front) ≡ b → IsSome (cond b (Some class) None) → Some n ≡ Some (length front)
    by true e some = let same : n ≡ length front = grind arith in ap Some same
    by false e some = absurd (true≢false (sym some))

literal_long : (class : Class) (len : List ℕ → Option ℕ) → Measures len → (front after : List ℕ) → IsSome (literal_class class (len front) front)
    → literal class (len (front ++ after)) ≡ Some (record { class = class; len = suc (length front) })
literal_long class len laws front after some =
    ap (literal class) ((laws.agree front after (length front) (omega arith)).0 (literal_is class (len front) front some))

pub quote_reads : KindReads Kind.Quote
quote_reads = record {
  right = λ c rest taken k e.
      let cut = literal_cut Class.Char char_len char_measures rest (char_len rest) taken refl e in
      let n : ℕ = cut.0 in
      let le : n ≤ length rest = cut.2 in
      let spelled : spelled_class (c ∷ take n rest) (drop n rest) ≡ Some Class.Char = ap (λ x. spelled_class_by x c (take n rest) (drop n rest)) k ∙ cut.3 in
      let all = subst (λ (t : Taken). (0 < t.len) × (t.len ≤ length (c ∷ rest)) × (spelled_class (take t.len (c ∷ rest)) (drop t.len (c ∷ rest)) ≡ Some t.class)) cut.1 (omega arith, omega arith, spelled) in
      (refl, all.0, all.1, all.2);
  longest = λ c front after k free some.
      (record { class = Class.Char; len = suc (length front) }, literal_long Class.Char char_len char_measures front after some, omega arith);
}

pub double_quote_reads : KindReads Kind.DoubleQuote
double_quote_reads = record {
  right = λ c rest taken k e.
      let cut = literal_cut Class.Str string_len string_measures rest (string_len rest) taken refl e in
      let n : ℕ = cut.0 in
      let le : n ≤ length rest = cut.2 in
      let spelled : spelled_class (c ∷ take n rest) (drop n rest) ≡ Some Class.Str = ap (λ x. spelled_class_by x c (take n rest) (drop n rest)) k ∙ cut.3 in
      let all = subst (λ (t : Taken). (0 < t.len) × (t.len ≤ length (c ∷ rest)) × (spelled_class (take t.len (c ∷ rest)) (drop t.len (c ∷ rest)) ≡ Some t.class)) cut.1 (omega arith, omega arith, spelled) in
      (refl, all.0, all.1, all.2);
  longest = λ c front after k free some.
      (record { class = Class.Str; len = suc (length front) }, literal_long Class.Str string_len string_measures front after some, omega arith);
}
