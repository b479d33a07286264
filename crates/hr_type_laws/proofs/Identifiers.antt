-- A variable identifier or a conid is read whole before a blank, a bracket, a comma or the end.
use Rattle.std.proofs.Common.{◌≡◌, ◌⊎◌, inl, inr, ℕ, suc, ◌+◌, Bool, true, false, cond, not, ◌&&◌, ◌==◌, List, [], ◌∷◌, ◌++◌, length, take, Option, Some, None, refl, sym, ap, ◌∙◌, true≢false, arith, append_assoc, length-append}
use Rattle.std.specs.List.{list_all, prefix_len}
use Rattle.std.specs.Prelude.{nat_le}
use Rattle.std.proofs.lemmas.Bool.{eqb-true}
use Rattle.std.proofs.Math.Seq.{take-append_seam}
use Rattle.hr_base.specs.declared.lexeme.Class.{Class}
use Rattle.hr_rules.specs.declared.character.Kind.{Kind}
use Rattle.hr_rules.specs.Letters.{kind_of, continues_name, is_symbol_kind, is_in_name, is_symbol}
use Rattle.hr_rules.specs.Names.{word_class, is_reserved_word}
use Rattle.hr_rules.specs.Numbers.{ends_float, integer_class, integer_value, greatest_integer}
use Rattle.hr_rules.specs.Operators.{is_dashes, is_reserved_operator}
use Rattle.hr_rules.specs.Quotes.{literal_class, char_len, string_len}
use Rattle.hr_rules.specs.Qualified.{qualified, name_class, name_class_by, conid_class}
use Rattle.hr_rules.specs.Runs.{is_run, ends_run, begins_with}
use Rattle.hr_rules.specs.Lexemes.{is_empty, spelled_class, spelled_class_by}
use Rattle.hr_rules.proofs.Apart.{both_left}
use Rattle.hr_lexer.specs.LexemeReader.{lexeme_at, lexeme_at_by}
use Rattle.hr_lexer.specs.NameReader.{name_at, name_at_by, behind_dot, with_qualifier, conid_at}
use Rattle.hr_lexer.proofs.RunsRead.{one_more, run_len, some_is, none_some}
use Rattle.hr_lexer.proofs.QualifiedRead.{conid_by_run}

-- a variable identifier or a conid
abbrev pub is_identifier : Option Class → Bool
is_identifier (Some Class.VarId) = true
is_identifier (Some Class.ConId) = true
is_identifier (Some Class.QConId) = true
is_identifier _ = false

-- no name, operator or qualified name goes on into this text
abbrev pub ends_kind : Kind → Bool
ends_kind Kind.Blank = true
ends_kind Kind.Special = true
ends_kind _ = false

abbrev pub ends_identifier : List ℕ → Bool
ends_identifier [] = true
ends_identifier (c ∷ rest) = ends_kind (kind_of c)

no_name_kind : (k : Kind) → ends_kind k ≡ true → not (continues_name k) ≡ true
no_name_kind Kind.Blank e = refl
no_name_kind Kind.Special e = refl
no_name_kind _ e = absurd (true≢false (sym e))

no_symbol_kind : (k : Kind) → ends_kind k ≡ true → not (is_symbol_kind k) ≡ true
no_symbol_kind Kind.Blank e = refl
no_symbol_kind Kind.Special e = refl
no_symbol_kind _ e = absurd (true≢false (sym e))

pub ends_names : (text : List ℕ) → ends_identifier text ≡ true → ends_run is_in_name text ≡ true
ends_names [] e = refl
ends_names (c ∷ rest) e = no_name_kind (kind_of c) e

pub ends_symbols : (text : List ℕ) → ends_identifier text ≡ true → ends_run is_symbol text ≡ true
ends_symbols [] e = refl
ends_symbols (c ∷ rest) e = no_symbol_kind (kind_of c) e

dot_kind : kind_of 46 ≡ Kind.Symbol
unfolding kind_of
dot_kind = refl

no_dot : (text : List ℕ) → ends_identifier text ≡ true → behind_dot text ≡ None
no_dot [] e = refl
no_dot (c ∷ rest) e = by (c == 46) refl
  where
    by : (dot : Bool) → (c == 46) ≡ dot → cond dot (name_at rest) None ≡ None
    by false d = refl
    by true d = absurd (true≢false (sym e ∙ (ap (λ x. ends_kind (kind_of x)) (eqb-true c 46 d) ∙ ap ends_kind dot_kind)))

-- what is there where a test has passed
passed : {A : Type 0} (b : Bool) (x y : A) → cond b (Some x) None ≡ Some y → (b ≡ true) × (x ≡ y)
passed true x y e = (refl, some_is x y e)
passed false x y e = absurd (none_some e)

-- nothing but a letter begins an identifier
either : (b : Bool) (x y : Option Class) → is_identifier x ≡ false → is_identifier y ≡ false → is_identifier (cond b x y) ≡ false
either true x y p q = p
either false x y p q = q

no_integer : (x : Option ℕ) → is_identifier (integer_class x) ≡ false
no_integer None = refl
no_integer (Some n) = either (nat_le n greatest_integer) (Some Class.Integer) None refl refl

no_literal : (class : Class) (len : Option ℕ) (rest : List ℕ) → is_identifier (Some class) ≡ false → is_identifier (literal_class class len rest) ≡ false
no_literal class None rest e = refl
no_literal class (Some n) rest e = either (n == length rest) (Some class) None e refl

no_operator : (a b c : Bool) → is_identifier (cond a (Some (cond b Class.ReservedOp (cond c Class.ConSym Class.VarSym))) None) ≡ false
no_operator true true c = refl
no_operator true false true = refl
no_operator true false false = refl
no_operator false b c = refl

clash : (x : Option Class) (class : Class) → is_identifier (Some class) ≡ true → x ≡ Some class → is_identifier x ≡ false → ⊥
clash x class is e never = true≢false (sym is ∙ (sym (ap is_identifier e) ∙ never))

-- a conid behind a dot
record Named (text : List ℕ) : Type 0 where
  first : ℕ
  behind : List ℕ
  is : text ≡ first ∷ behind
  kind : kind_of first ≡ Kind.Large
  all : list_all is_in_name behind ≡ true

no_small : (run reserved : Bool) → cond run (Some (cond reserved Class.ReservedId Class.VarId)) None ≡ Some Class.ConId → ⊥
no_small true true e = cc
no_small true false e = cc
no_small false reserved e = none_some e

name_conid : (text : List ℕ) → name_class text [] ≡ Some Class.ConId → Named text
name_conid [] e = absurd (none_some e)
name_conid (c ∷ rest) e = by (kind_of c) refl e
  where
    by : (k : Kind) → kind_of c ≡ k → name_class_by k c rest [] ≡ Some Class.ConId → Named (c ∷ rest)
    by Kind.Small k e = absurd (no_small (is_run is_in_name rest []) (is_reserved_word (c ∷ rest)) e)
    by Kind.Large k e =
        record {
          first = c;
          behind = rest;
          is = refl;
          kind = k;
          all = both_left (list_all is_in_name rest) (ends_run is_in_name []) (passed (is_run is_in_name rest []) Class.ConId Class.ConId e).0;
        }
    by Kind.Symbol k e =
        absurd (clash _ Class.ConId refl e (no_operator (is_run is_symbol rest [] && not (is_dashes (c ∷ rest))) (is_reserved_operator (c ∷ rest)) (begins_with 58 (c ∷ rest))))
    by _ k e = absurd (none_some e)

-- behind its large letter a conid has what may stand in names, and a qualified one a dot and a conid more
record Dotted (rest : List ℕ) : Type 0 where
  run : List ℕ
  tail : List ℕ
  is : rest ≡ run ++ 46 ∷ tail
  all : list_all is_in_name run ≡ true
  named : Named tail

abbrev Split : List ℕ → Class → Type 0
Split rest class = ((class ≡ Class.ConId) × (list_all is_in_name rest ≡ true)) ⊎ ((class ≡ Class.QConId) × Dotted rest)

qualified_conid : (o : Option Class) (class : Class) → qualified o ≡ Some class → is_identifier (Some class) ≡ true → (o ≡ Some Class.ConId) × (class ≡ Class.QConId)
qualified_conid None class e is = absurd (none_some e)
qualified_conid (Some Class.ConId) class e is = (refl, sym (some_is Class.QConId class e))
qualified_conid (Some Class.VarId) class e is = absurd (clash (Some Class.QVarId) class is e refl)
qualified_conid (Some Class.VarSym) class e is = absurd (clash (Some Class.QVarSym) class is e refl)
qualified_conid (Some Class.ConSym) class e is = absurd (clash (Some Class.QConSym) class is e refl)
qualified_conid (Some _) class e is = absurd (none_some e)

one_further : (c : ℕ) (rest : List ℕ) (class : Class) → is_in_name c ≡ true → Split rest class → Split (c ∷ rest) class
one_further c rest class n (inl s) = inl (s.0, ap (λ b. b && list_all is_in_name rest) n ∙ s.1)
one_further c rest class n (inr s) =
    inr (
      s.0,
      record {
        run = c ∷ s.1.run;
        tail = s.1.tail;
        is = ap (λ xs. c ∷ xs) s.1.is;
        all = ap (λ b. b && list_all is_in_name s.1.run) n ∙ s.1.all;
        named = s.1.named;
      },
    )

conid_split : (rest : List ℕ) (class : Class) → conid_class rest [] ≡ Some class → is_identifier (Some class) ≡ true → Split rest class
conid_split [] class e is = inl (sym (some_is Class.ConId class e), refl)
conid_split (c ∷ rest) class e is = by (is_in_name c) refl (c == 46) refl (λ f. conid_split rest class f is) e
  where
    by : (b : Bool) → is_in_name c ≡ b → (dot : Bool) → (c == 46) ≡ dot → (conid_class rest [] ≡ Some class → Split rest class)
        → cond b (conid_class rest []) (cond dot (qualified (name_class rest [])) None) ≡ Some class → Split (c ∷ rest) class
    by true n dot d further e = one_further c rest class n (further e)
    by false n false d further e = absurd (none_some e)
    by false n true d further e =
        let parts = qualified_conid (name_class rest []) class e is in
        inr (parts.1, record { run = []; tail = rest; is = ap (λ x. x ∷ rest) (eqb-true c 46 d); all = refl; named = name_conid rest parts.0 })

abbrev IsTaken : Class → List ℕ → List ℕ → Type 0
IsTaken class text after = lexeme_at (text ++ after) ≡ Some (record { class = class; len = length text })

-- the length of a name with a first letter
name_len : (c : ℕ) (rest after : List ℕ) → is_in_name c ≡ true → list_all is_in_name rest ≡ true → ends_identifier after ≡ true → prefix_len is_in_name (c ∷ (rest ++ after)) ≡ suc (length rest)
name_len c rest after n all stop = one_more is_in_name c (rest ++ after) n ∙ ap suc (run_len is_in_name rest after all (ends_names after stop))

small_taken : (c : ℕ) (rest after : List ℕ) (class : Class) → kind_of c ≡ Kind.Small → spelled_class_by Kind.Small c rest [] ≡ Some class → ends_identifier after ≡ true
    → lexeme_at_by Kind.Small c (rest ++ after) ≡ Some (record { class = class; len = suc (length rest) })
small_taken c rest after class k e stop =
    let parts = passed (is_run is_in_name rest []) (word_class (c ∷ rest)) class e in
    let all : list_all is_in_name rest ≡ true = both_left (list_all is_in_name rest) (ends_run is_in_name []) parts.0 in
    let is : word_class (c ∷ take (length rest) (rest ++ after)) ≡ class = ap (λ t. word_class (c ∷ t)) (take-append_seam rest after) ∙ parts.1 in
    ap (λ n. Some (record { class = word_class (take n (c ∷ (rest ++ after))); len = n })) (name_len c rest after (ap continues_name k) all stop)
    ∙ ap (λ x. Some (record { class = x; len = suc (length rest) })) is

dot_ends : (rest : List ℕ) → ends_run is_in_name (46 ∷ rest) ≡ true
unfolding kind_of
dot_ends rest = refl

behind_taken : (tail after : List ℕ) → (named : Named tail) → ends_identifier after ≡ true → behind_dot (46 ∷ (tail ++ after)) ≡ Some (record { class = Class.ConId; len = length tail })
behind_taken tail after named stop =
    let f : ℕ = named.first in
    let w : List ℕ = named.behind in
    ap (λ x. name_at (x ++ after)) named.is
    ∙ (ap (λ k. name_at_by k (f ∷ (w ++ after))) named.kind
    ∙ (ap (λ n. Some (record { class = Class.ConId; len = n })) (name_len f w after (ap continues_name named.kind) named.all stop)
    ∙ ap (λ x. Some (record { class = Class.ConId; len = length x })) (sym named.is)))

large_taken : (c : ℕ) (rest after : List ℕ) (class : Class) → kind_of c ≡ Kind.Large → Split rest class → ends_identifier after ≡ true
    → lexeme_at_by Kind.Large c (rest ++ after) ≡ Some (record { class = class; len = suc (length rest) })
large_taken c rest after class k (inl s) stop =
    conid_by_run c rest after (ap continues_name k) s.1 (ends_names after stop)
    ∙ (ap (with_qualifier (suc (length rest))) (no_dot after stop) ∙ ap (λ x. Some (record { class = x; len = suc (length rest) })) (sym s.0))
large_taken c rest after class k (inr s) stop =
    let d = s.1 in
    let whole : rest ++ after ≡ d.run ++ (46 ∷ (d.tail ++ after)) = ap (λ x. x ++ after) d.is ∙ append_assoc d.run (46 ∷ d.tail) after in
    let size : length rest ≡ length d.run + suc (length d.tail) = ap length d.is ∙ length-append d.run (46 ∷ d.tail) in
    let len : suc (length d.run) + 1 + length d.tail ≡ suc (length rest) = omega (arith, size) in
    ap (λ x. conid_at (c ∷ x)) whole
    ∙ (conid_by_run c d.run (46 ∷ (d.tail ++ after)) (ap continues_name k) d.all (dot_ends (d.tail ++ after))
    ∙ (ap (with_qualifier (suc (length d.run))) (behind_taken d.tail after d.named stop)
    ∙ ((λ i. Some (record { class = sym s.0 i; len = len i })))))

-- an identifier is read where nothing goes on
pub identifier_taken : (text after : List ℕ) (class : Class) → is_identifier (Some class) ≡ true → spelled_class text [] ≡ Some class → ends_identifier after ≡ true → IsTaken class text after
identifier_taken [] after class is e stop = absurd (none_some e)
identifier_taken (c ∷ rest) after class is e stop = by (kind_of c) refl e
  where
    by : (k : Kind) → kind_of c ≡ k → spelled_class_by k c rest [] ≡ Some class → lexeme_at_by k c (rest ++ after) ≡ Some (record { class = class; len = suc (length rest) })
    by Kind.Small k e = small_taken c rest after class k e stop
    by Kind.Large k e = large_taken c rest after class k (conid_split rest class e is) stop
    by Kind.Symbol k e = absurd (clash _ class is e (no_operator (is_run is_symbol rest [] && not (is_dashes (c ∷ rest))) (is_reserved_operator (c ∷ rest)) (begins_with 58 (c ∷ rest))))
    by Kind.Special k e = absurd (clash _ class is e (either (is_empty rest) (Some Class.Special) None refl refl))
    by Kind.Digit k e = absurd (clash _ class is e (either (ends_float rest) (Some Class.Float) (integer_class (integer_value c rest)) refl (no_integer (integer_value c rest))))
    by Kind.Quote k e = absurd (clash _ class is e (no_literal Class.Char (char_len rest) rest refl))
    by Kind.DoubleQuote k e = absurd (clash _ class is e (no_literal Class.Str (string_len rest) rest refl))
    by _ k e = absurd (none_some e)
