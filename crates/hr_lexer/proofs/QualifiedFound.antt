-- Conids and qualified names are read whole, where they may begin.
use Rattle.std.proofs.Common.{◌≡◌, ◌≤◌, ℕ, suc, ◌+◌, Bool, true, false, cond, not, ◌&&◌, ◌==◌, List, [], ◌∷◌, ◌++◌, length, take, drop, Option, Some, None, refl, sym, ap, subst, ◌∙◌, true≢false, arith, length-append, take-append-drop, append_assoc}
use Rattle.std.proofs.Math.Seq.{take-append_seam}
use Rattle.std.specs.List.{list_all, prefix_len}
use Rattle.std.specs.Option.{IsSome, is_some}
use Rattle.hr_base.specs.declared.lexeme.Class.{Class}
use Rattle.hr_rules.specs.declared.character.Kind.{Kind}
use Rattle.hr_rules.specs.Letters.{kind_of, continues_name, is_symbol_kind, is_in_name, is_symbol}
use Rattle.hr_rules.specs.Runs.{begins_with, is_run, ends_run}
use Rattle.hr_rules.specs.Names.{is_reserved_word, word_class, small_class, large_class}
use Rattle.hr_rules.specs.Operators.{is_dashes, is_reserved_operator, run_class, symbol_class}
use Rattle.hr_rules.specs.Qualified.{qualified, name_class, name_class_by, conid_class, qualifies_reserved}
use Rattle.hr_rules.proofs.Apart.{not_true}
use Rattle.hr_lexer.specs.declared.taken.Taken.{Taken}
use Rattle.hr_lexer.specs.NameReader.{word_at, symbols_at, name_at, name_at_by, behind_dot, with_qualifier, with_qualifier_by, conid_at}
use Rattle.hr_lexer.proofs.Statements.{KindReads, ReadsLongest}
use Rattle.hr_lexer.proofs.NamesRead.{kept, symbols_are}
use Rattle.hr_lexer.proofs.RunsRead.{one_more, run_all, run_stops, whole_run_len, none_some, some_is}
use Rattle.hr_lexer.proofs.QualifiedRead.{word, conid_over, reserved_over, conid_by_run, large_right}

-- the class of reserved words
abbrev is_reserved_class : Class → Bool
is_reserved_class Class.ReservedId = true
is_reserved_class _ = false

reserved_test : (b : Bool) → is_reserved_class (cond b Class.ReservedId Class.VarId) ≡ true → b ≡ true
reserved_test true e = refl
reserved_test false e = absurd (true≢false (sym e))

no_operator : (r k : Bool) → is_reserved_class (cond r Class.ReservedOp (cond k Class.ConSym Class.VarSym)) ≡ false
no_operator true k = refl
no_operator false true = refl
no_operator false false = refl

no_symbols : (text : List ℕ) (taken : Taken) → symbols_at text ≡ Some taken → is_reserved_class taken.class ≡ false
no_symbols text taken e =
    let n : ℕ = prefix_len is_symbol text in
    let parts = kept (is_dashes (take n text)) (record { class = run_class (take n text); len = n }) taken e in
    sym (ap (λ (t : Taken). is_reserved_class t.class) parts.1) ∙ no_operator (is_reserved_operator (take n text)) (begins_with 58 (take n text))

word_by : (kind : Kind) (text : List ℕ) (taken : Taken) → name_at_by kind text ≡ Some taken → is_reserved_class taken.class ≡ true → is_reserved_word (word text) ≡ true
word_by Kind.Small text taken e is =
    let same : word_at text ≡ taken = some_is (word_at text) taken e in
    reserved_test (is_reserved_word (word text)) (ap (λ (t : Taken). is_reserved_class t.class) same ∙ is)
word_by Kind.Large text taken e is =
    let same : ◌≡◌ {A = Taken} (record { class = Class.ConId; len = prefix_len is_in_name text }) taken = some_is (record { class = Class.ConId; len = prefix_len is_in_name text }) taken e in
    absurd (true≢false (sym is ∙ sym (ap (λ (t : Taken). is_reserved_class t.class) same)))
word_by Kind.Symbol text taken e is = absurd (true≢false (sym is ∙ no_symbols text taken e))
word_by Kind.Special text taken e is = absurd (none_some e)
word_by Kind.Digit text taken e is = absurd (none_some e)
word_by Kind.WideDigit text taken e is = absurd (none_some e)
word_by Kind.Quote text taken e is = absurd (none_some e)
word_by Kind.DoubleQuote text taken e is = absurd (none_some e)
word_by Kind.Blank text taken e is = absurd (none_some e)
word_by Kind.Newline text taken e is = absurd (none_some e)
word_by Kind.Other text taken e is = absurd (none_some e)

-- where a reserved word is read, it begins the text
read_reserved : (tail : List ℕ) (taken : Taken) → name_at tail ≡ Some taken → is_reserved_class taken.class ≡ true → is_reserved_word (word tail) ≡ true
read_reserved [] taken e is = absurd (none_some e)
read_reserved (c ∷ rest) taken e is = word_by (kind_of c) (c ∷ rest) taken e is

-- a conid of n characters is read, and maybe more, unless a reserved word is behind its dot
abbrev LongAs : ℕ → Option Taken → Type 0
LongAs n answer = (taken : Taken) × (answer ≡ Some taken) × (n ≤ taken.len)

long_by : (class : Class) (n m : ℕ) → is_reserved_class class ≡ false → LongAs n (with_qualifier_by class n m)
long_by Class.VarId n m plain = (record { class = Class.QVarId; len = n + 1 + m }, refl, omega arith)
long_by Class.ConId n m plain = (record { class = Class.QConId; len = n + 1 + m }, refl, omega arith)
long_by Class.VarSym n m plain = (record { class = Class.QVarSym; len = n + 1 + m }, refl, omega arith)
long_by Class.ConSym n m plain = (record { class = Class.QConSym; len = n + 1 + m }, refl, omega arith)
long_by Class.ReservedId n m plain = absurd (true≢false plain)
long_by _ n m plain = (record { class = Class.ConId; len = n }, refl, omega arith)

long_name : (n : ℕ) (name : Option Taken) → ((taken : Taken) → name ≡ Some taken → is_reserved_class taken.class ≡ false) → LongAs n (with_qualifier n name)
long_name n None plain = (record { class = Class.ConId; len = n }, refl, omega arith)
long_name n (Some taken) plain = long_by taken.class n taken.len (plain taken refl)

not_reserved : (tail : List ℕ) (taken : Taken) (b : Bool) → is_reserved_word (word tail) ≡ false → name_at tail ≡ Some taken → is_reserved_class taken.class ≡ b → b ≡ false
not_reserved tail taken true free e is = absurd (true≢false (sym (read_reserved tail taken e is) ∙ free))
not_reserved tail taken false free e is = refl

long_dot : (n : ℕ) (tail : List ℕ) (dot : Bool) → (dot && is_reserved_word (word tail)) ≡ false → LongAs n (with_qualifier n (cond dot (name_at tail) None))
long_dot n tail true free = long_name n (name_at tail) (λ taken e. not_reserved tail taken (is_reserved_class taken.class) free e refl)
long_dot n tail false free = (record { class = Class.ConId; len = n }, refl, omega arith)

long_conid : (n : ℕ) (after : List ℕ) → ends_run is_in_name after ≡ true → qualifies_reserved after ≡ false → LongAs n (with_qualifier n (behind_dot after))
long_conid n [] stop free = (record { class = Class.ConId; len = n }, refl, omega arith)
long_conid n (d ∷ tail) stop free =
    long_dot n tail (d == 46) (sym (ap (λ b. cond b (qualifies_reserved tail) (d == 46 && is_reserved_word (word tail))) (not_true (is_in_name d) stop)) ∙ free)

-- a name without a qualifier is read whole
some_kept : {A : Type 0} (b : Bool) (x y : A) → cond b (Some x) None ≡ Some y → (b ≡ true) × (x ≡ y)
some_kept true x y e = (refl, some_is x y e)
some_kept false x y e = absurd (none_some e)

word_found : (c : ℕ) (front after : List ℕ) → is_in_name c ≡ true → is_run is_in_name front after ≡ true
    → (prefix_len is_in_name (c ∷ (front ++ after)) ≡ suc (length front)) × (word (c ∷ (front ++ after)) ≡ c ∷ front)
word_found c front after named run =
    let len : prefix_len is_in_name (c ∷ (front ++ after)) ≡ suc (length front) = one_more is_in_name c (front ++ after) named ∙ ap suc (whole_run_len is_in_name front after run) in
    (len, ap (λ n. take n (c ∷ (front ++ after))) len ∙ ap (λ t. c ∷ t) (take-append_seam front after))

abbrev Found : Kind → ℕ → List ℕ → List ℕ → Class → Type 0
Found kind c front after class = name_at_by kind (c ∷ (front ++ after)) ≡ Some (record { class = class; len = suc (length front) })

small_found : (c : ℕ) (front after : List ℕ) (class : Class) → kind_of c ≡ Kind.Small → small_class c front after ≡ Some class → Found Kind.Small c front after class
small_found c front after class k e =
    let parts = some_kept (is_run is_in_name front after) (word_class (c ∷ front)) class e in
    let found = word_found c front after (ap continues_name k) parts.0 in
    ap (λ t. Some (record { class = word_class t; len = prefix_len is_in_name (c ∷ (front ++ after)) })) found.1
    ∙ (ap (λ n. Some (record { class = word_class (c ∷ front); len = n })) found.0
    ∙ ap (λ x. Some (record { class = x; len = suc (length front) })) parts.1)

large_found : (c : ℕ) (front after : List ℕ) (class : Class) → kind_of c ≡ Kind.Large → large_class front after ≡ Some class → Found Kind.Large c front after class
large_found c front after class k e =
    let parts = some_kept (is_run is_in_name front after) Class.ConId class e in
    let found = word_found c front after (ap continues_name k) parts.0 in
    ap (λ n. Some (record { class = Class.ConId; len = n })) found.0 ∙ ap (λ x. Some (record { class = x; len = suc (length front) })) parts.1

symbol_found : (c : ℕ) (front after : List ℕ) (class : Class) → kind_of c ≡ Kind.Symbol → symbol_class c front after ≡ Some class → Found Kind.Symbol c front after class
symbol_found c front after class k e =
    let parts = some_kept (is_run is_symbol front after && not (is_dashes (c ∷ front))) (run_class (c ∷ front)) class e in
    symbols_are c front after (ap is_symbol_kind k) parts.0 ∙ ap (λ x. Some (record { class = x; len = suc (length front) })) parts.1

found_by : (kind : Kind) (c : ℕ) (front after : List ℕ) (class : Class) → kind_of c ≡ kind → name_class_by kind c front after ≡ Some class → Found kind c front after class
found_by Kind.Small c front after class k e = small_found c front after class k e
found_by Kind.Large c front after class k e = large_found c front after class k e
found_by Kind.Symbol c front after class k e = symbol_found c front after class k e
found_by Kind.Special c front after class k e = absurd (none_some e)
found_by Kind.Digit c front after class k e = absurd (none_some e)
found_by Kind.WideDigit c front after class k e = absurd (none_some e)
found_by Kind.Quote c front after class k e = absurd (none_some e)
found_by Kind.DoubleQuote c front after class k e = absurd (none_some e)
found_by Kind.Blank c front after class k e = absurd (none_some e)
found_by Kind.Newline c front after class k e = absurd (none_some e)
found_by Kind.Other c front after class k e = absurd (none_some e)

name_found : (tail after : List ℕ) (class : Class) → name_class tail after ≡ Some class → name_at (tail ++ after) ≡ Some (record { class = class; len = length tail })
name_found [] after class e = absurd (none_some e)
name_found (c ∷ front) after class e = found_by (kind_of c) c front after class refl e

-- what may have a qualifier is read behind it
qualified_by : (class : Class) (n m : ℕ) → IsSome (qualified (Some class)) → (taken : Taken) × (with_qualifier_by class n m ≡ Some taken) × (n + 1 + m ≤ taken.len)
qualified_by Class.VarId n m some = (record { class = Class.QVarId; len = n + 1 + m }, refl, omega arith)
qualified_by Class.ConId n m some = (record { class = Class.QConId; len = n + 1 + m }, refl, omega arith)
qualified_by Class.VarSym n m some = (record { class = Class.QVarSym; len = n + 1 + m }, refl, omega arith)
qualified_by Class.ConSym n m some = (record { class = Class.QConSym; len = n + 1 + m }, refl, omega arith)
qualified_by _ n m some = absurd (true≢false (sym some))

qualified_found : (n : ℕ) (tail after : List ℕ) (o : Option Class) → name_class tail after ≡ o → IsSome (qualified o) → LongAs (n + 1 + length tail) (with_qualifier n (name_at (tail ++ after)))
qualified_found n tail after None e some = absurd (true≢false (sym some))
qualified_found n tail after (Some class) e some =
    let long = qualified_by class n (length tail) some in
    (long.0, ap (with_qualifier n) (name_found tail after class e) ∙ long.1, long.2)

dot_found : (n : ℕ) (tail after : List ℕ) (dot : Bool) → IsSome (cond dot (qualified (name_class tail after)) None) → LongAs (n + 1 + length tail) (with_qualifier n (cond dot (name_at (tail ++ after)) None))
dot_found n tail after true some = qualified_found n tail after (name_class tail after) refl some
dot_found n tail after false some = absurd (true≢false (sym some))

-- behind the run of a conid its end, or a dot and a name
stop_of : (b : Bool) → IsSome (cond b (Some Class.ConId) None) → b ≡ true
stop_of true some = refl
stop_of false some = absurd (true≢false (sym some))

split_found : (c : ℕ) (run behind after : List ℕ) → is_in_name c ≡ true → list_all is_in_name run ≡ true → ends_run is_in_name behind ≡ true → qualifies_reserved ((run ++ behind) ++ after) ≡ false
    → IsSome (conid_class (run ++ behind) after) → LongAs (length (c ∷ (run ++ behind))) (conid_at (c ∷ ((run ++ behind) ++ after)))
split_found c run [] after named all stop free some =
    let ends : ends_run is_in_name after ≡ true = stop_of (ends_run is_in_name after) (sym (ap is_some (conid_over run [] after all)) ∙ some) in
    let none : qualifies_reserved after ≡ false = sym (ap qualifies_reserved (append_assoc run [] after) ∙ reserved_over run after all) ∙ free in
    let long = long_conid (suc (length run)) after ends none in
    let size : length (run ++ []) ≡ length run + 0 = length-append run [] in
    let le : suc (length run) ≤ long.0.len = long.2 in
    let whole : suc (length (run ++ [])) ≤ long.0.len = omega (arith, size, le) in
    (long.0, ap (λ x. conid_at (c ∷ x)) (append_assoc run [] after) ∙ (conid_by_run c run after named all ends ∙ long.1), whole)
split_found c run (d ∷ tail) after named all stop free some =
    let other : is_in_name d ≡ false = not_true (is_in_name d) stop in
    let some' : IsSome (cond (d == 46) (qualified (name_class tail after)) None) =
    sym (ap is_some (conid_over run (d ∷ tail) after all ∙ ap (λ b. cond b (conid_class tail after) (cond (d == 46) (qualified (name_class tail after)) None)) other)) ∙ some in
    let long = dot_found (suc (length run)) tail after (d == 46) some' in
    let size : length (run ++ (d ∷ tail)) ≡ length run + suc (length tail) = length-append run (d ∷ tail) in
    let le : suc (length run) + 1 + length tail ≤ long.0.len = long.2 in
    let whole : suc (length (run ++ (d ∷ tail))) ≤ long.0.len = omega (arith, size, le) in
    (long.0, ap (λ x. conid_at (c ∷ x)) (append_assoc run (d ∷ tail) after) ∙ (conid_by_run c run (d ∷ (tail ++ after)) named all stop ∙ long.1), whole)

large_longest : ReadsLongest Kind.Large
large_longest c front after k free some =
    let n : ℕ = prefix_len is_in_name front in
    subst (λ x. qualifies_reserved (x ++ after) ≡ false → IsSome (conid_class x after) → LongAs (length (c ∷ x)) (conid_at (c ∷ (x ++ after)))) (take-append-drop n front)
    (split_found c (take n front) (drop n front) after (ap continues_name k) (run_all is_in_name front) (run_stops is_in_name front)) free some

pub large_reads : KindReads Kind.Large
large_reads = record { right = large_right; longest = large_longest }
