-- Names, operators and special characters are read as the rules say.
use Rattle.std.proofs.Common.{◌≡◌, ◌≤◌, ℕ, suc, Bool, true, false, cond, not, ◌&&◌, ◌==◌, nat_lt, List, [], ◌∷◌, ◌++◌, length, take, drop, Some, None, refl, sym, ap, subst, ◌∙◌, true≢false, arith}
use Rattle.std.specs.List.{list_all, prefix_len}
use Rattle.std.proofs.lemmas.List.Sums.{prefix_len-le-length}
use Rattle.std.proofs.Math.Seq.{take-append_seam}
use Rattle.hr_base.specs.declared.lexeme.Class.{Class}
use Rattle.hr_rules.specs.declared.character.Kind.{Kind}
use Rattle.hr_rules.specs.Letters.{kind_of, continues_name, is_symbol_kind, is_in_name, is_symbol}
use Rattle.hr_rules.specs.Runs.{is_run}
use Rattle.hr_rules.specs.Names.{word_class, small_class}
use Rattle.hr_rules.specs.Operators.{is_dash, is_dashes, run_class, symbol_class}
use Rattle.hr_rules.specs.Comments.{goes_on, begins_line_comment, opens}
use Rattle.hr_rules.proofs.Apart.{both, both_left, both_right, not_true, and_false}
use Rattle.hr_lexer.specs.declared.taken.Taken.{Taken}
use Rattle.hr_lexer.specs.NameReader.{word_at, symbols_at}
use Rattle.hr_lexer.proofs.Statements.{KindReads, ReadsRight, ReadsLongest}
use Rattle.hr_lexer.proofs.RunsRead.{one_more, no_run, run_more, whole_run, whole_run_len, some_is, none_some, some_test, len_of, class_in, taken_right, ReadParts}

-- words
pub small_parts : (c : ℕ) (rest : List ℕ) (taken : Taken) → kind_of c ≡ Kind.Small → Some (word_at (c ∷ rest)) ≡ Some taken → ReadParts (small_class c) rest taken
small_parts c rest taken k e =
    let is : word_at (c ∷ rest) ≡ taken = some_is (word_at (c ∷ rest)) taken e in
    let named : is_in_name c ≡ true = ap continues_name k in
    let m : ℕ = prefix_len is_in_name rest in
    let len : taken.len ≡ suc m = sym (ap len_of is) ∙ one_more is_in_name c rest named in
    let class : word_class (c ∷ take m rest) ≡ taken.class = sym (ap word_class (run_more is_in_name c rest named)) ∙ ap class_in is in
    (m, len, prefix_len-le-length is_in_name rest, ap (λ b. cond b (Some (word_class (c ∷ take m rest))) None) (whole_run is_in_name rest) ∙ ap Some class)

small_right : ReadsRight Kind.Small
small_right c rest taken k e =
    let parts : ReadParts (small_class c) rest taken = small_parts c rest taken k e in
    taken_right Kind.Small c rest parts.0 taken k refl parts.1 parts.2 parts.3

small_longest : ReadsLongest Kind.Small
small_longest c front after k free some =
    let run : is_run is_in_name front after ≡ true = some_test (is_run is_in_name front after) (word_class (c ∷ front)) some in
    let len : prefix_len is_in_name (c ∷ (front ++ after)) ≡ suc (length front) =
    one_more is_in_name c (front ++ after) (ap continues_name k) ∙ ap suc (whole_run_len is_in_name front after run) in
    (word_at (c ∷ (front ++ after)), refl, omega (arith, len))

pub small : KindReads Kind.Small
small = record { right = small_right; longest = small_longest }

-- what is one where a test fails
pub kept : {A : Type 0} (b : Bool) (x y : A) → cond b None (Some x) ≡ Some y → (b ≡ false) × (x ≡ y)
kept true x y e = absurd (none_some e)
kept false x y e = (refl, some_is x y e)

-- operators
is_eq : (a b : ℕ) → (a == b) ≡ true → a ≡ b
is_eq a b e = grind arith

dash_symbol : (c : ℕ) → is_dash c ≡ true → is_symbol c ≡ true
unfolding kind_of
dash_symbol c e = subst (λ x. is_symbol x ≡ true) (sym (is_eq c 45 e)) refl

goes_by : (c : ℕ) (rest : List ℕ) → not (goes_on rest) ≡ list_all is_dash (take (prefix_len is_symbol rest) rest) → (b : Bool) → is_dash c ≡ b → (s : Bool) → is_symbol c ≡ s
    → not (goes_on (c ∷ rest)) ≡ list_all is_dash (take (prefix_len is_symbol (c ∷ rest)) (c ∷ rest))
goes_by c rest so true e s f =
    ap (λ b. not (cond b (goes_on rest) (is_symbol c))) e ∙ (so ∙ sym (ap (list_all is_dash) (run_more is_symbol c rest (dash_symbol c e)) ∙ ap (λ b. b && list_all is_dash (take (prefix_len is_symbol rest) rest)) e))
goes_by c rest so false e true f =
    ap (λ b. not (cond b (goes_on rest) (is_symbol c))) e ∙ (ap not f ∙ sym (ap (list_all is_dash) (run_more is_symbol c rest f) ∙ ap (λ b. b && list_all is_dash (take (prefix_len is_symbol rest) rest)) e))
goes_by c rest so false e false f =
    ap (λ b. not (cond b (goes_on rest) (is_symbol c))) e ∙ (ap not f ∙ sym (ap (λ n. list_all is_dash (take n (c ∷ rest))) (no_run is_symbol c rest f)))

-- behind dashes no operator goes on where the run of symbols is dashes
pub goes_not : (rest : List ℕ) → not (goes_on rest) ≡ list_all is_dash (take (prefix_len is_symbol rest) rest)
goes_not [] = refl
goes_not (c ∷ rest) = goes_by c rest (goes_not rest) (is_dash c) refl (is_symbol c) refl

and_assoc : (a b l : Bool) → ((a && b) && l) ≡ (a && (b && l))
and_assoc true b l = refl
and_assoc false b l = refl

two : (n : ℕ) → nat_lt 1 (suc (suc n)) ≡ true
two n = grind arith

no_dash : (c : ℕ) → is_symbol c ≡ false → (b : Bool) → is_dash c ≡ b → is_dash c ≡ false
no_dash c f true e = absurd (true≢false (sym (dash_symbol c e) ∙ f))
no_dash c f false e = e

dashes_by : (c b : ℕ) (rest : List ℕ) (s : Bool) → is_symbol b ≡ s
    → begins_line_comment (c ∷ b ∷ rest) ≡ is_dashes (c ∷ take (prefix_len is_symbol (b ∷ rest)) (b ∷ rest))
dashes_by c b rest true f =
    let run : List ℕ = take (prefix_len is_symbol rest) rest in
    let all : begins_line_comment (c ∷ b ∷ rest) ≡ (is_dash c && (is_dash b && list_all is_dash run)) =
    ap (λ x. (is_dash c && is_dash b) && x) (goes_not rest) ∙ and_assoc (is_dash c) (is_dash b) (list_all is_dash run) in
    let two_more : is_dashes (c ∷ b ∷ run) ≡ (is_dash c && (is_dash b && list_all is_dash run)) = ap (λ x. x && (is_dash c && (is_dash b && list_all is_dash run))) (two (length run)) in
    all ∙ sym (ap (λ t. is_dashes (c ∷ t)) (run_more is_symbol b rest f) ∙ two_more)
dashes_by c b rest false f =
    let no : begins_line_comment (c ∷ b ∷ rest) ≡ false =
    ap (λ x. (is_dash c && x) && not (goes_on rest)) (no_dash b f (is_dash b) refl) ∙ ap (λ x. x && not (goes_on rest)) (and_false (is_dash c)) in
    no ∙ sym (ap (λ n. is_dashes (c ∷ take n (b ∷ rest))) (no_run is_symbol b rest f))

-- a line comment begins where the run of symbols is dashes
pub dashes_are : (c : ℕ) (rest : List ℕ) → begins_line_comment (c ∷ rest) ≡ is_dashes (c ∷ take (prefix_len is_symbol rest) rest)
dashes_are c [] = refl
dashes_are c (b ∷ rest) = dashes_by c b rest (is_symbol b) refl

pub symbol_parts : (c : ℕ) (rest : List ℕ) (taken : Taken) → kind_of c ≡ Kind.Symbol → symbols_at (c ∷ rest) ≡ Some taken
    → (begins_line_comment (c ∷ rest) ≡ false) × ReadParts (symbol_class c) rest taken
symbol_parts c rest taken k e =
    let s : is_symbol c ≡ true = ap is_symbol_kind k in
    let n : ℕ = prefix_len is_symbol (c ∷ rest) in
    let run : List ℕ = take (prefix_len is_symbol rest) rest in
    let parts : (is_dashes (take n (c ∷ rest)) ≡ false) × (◌≡◌ {A = Taken} (record { class = run_class (take n (c ∷ rest)); len = n }) taken) =
    kept (is_dashes (take n (c ∷ rest))) (record { class = run_class (take n (c ∷ rest)); len = n }) taken e in
    let no : is_dashes (c ∷ run) ≡ false = sym (ap is_dashes (run_more is_symbol c rest s)) ∙ parts.0 in
    let class : run_class (c ∷ run) ≡ taken.class = sym (ap run_class (run_more is_symbol c rest s)) ∙ ap class_in parts.1 in (
      dashes_are c rest ∙ no,
      (
        prefix_len is_symbol rest,
        sym (ap len_of parts.1) ∙ one_more is_symbol c rest s,
        prefix_len-le-length is_symbol rest,
        ap (λ b. cond b (Some (run_class (c ∷ run))) None) (both (is_run is_symbol run (drop (prefix_len is_symbol rest) rest)) (not (is_dashes (c ∷ run))) (whole_run is_symbol rest) (ap not no)) ∙ ap Some class,
      ),
    )

symbol_right : ReadsRight Kind.Symbol
symbol_right c rest taken k e =
    let parts : (begins_line_comment (c ∷ rest) ≡ false) × ReadParts (symbol_class c) rest taken = symbol_parts c rest taken k e in
    taken_right Kind.Symbol c rest parts.1.0 taken k parts.0 parts.1.1 parts.1.2 parts.1.3

-- an operator is read whole
pub symbols_are : (c : ℕ) (front after : List ℕ) → is_symbol c ≡ true → (is_run is_symbol front after && not (is_dashes (c ∷ front))) ≡ true
    → symbols_at (c ∷ (front ++ after)) ≡ Some (record { class = run_class (c ∷ front); len = suc (length front) })
symbols_are c front after s e =
    let text : List ℕ = c ∷ (front ++ after) in
    let run : is_run is_symbol front after ≡ true = both_left (is_run is_symbol front after) (not (is_dashes (c ∷ front))) e in
    let no : is_dashes (c ∷ front) ≡ false = not_true (is_dashes (c ∷ front)) (both_right (is_run is_symbol front after) (not (is_dashes (c ∷ front))) e) in
    let len : prefix_len is_symbol text ≡ suc (length front) = one_more is_symbol c (front ++ after) s ∙ ap suc (whole_run_len is_symbol front after run) in
    ap (λ n. cond (is_dashes (take n text)) None (Some (record { class = run_class (take n text); len = n }))) len
    ∙ (ap (λ t. cond (is_dashes (c ∷ t)) None (Some (record { class = run_class (c ∷ t); len = suc (length front) }))) (take-append_seam front after)
    ∙ ap (λ b. cond b None (Some (record { class = run_class (c ∷ front); len = suc (length front) }))) no)

symbol_longest : ReadsLongest Kind.Symbol
symbol_longest c front after k free some =
    let test : (is_run is_symbol front after && not (is_dashes (c ∷ front))) ≡ true = some_test (is_run is_symbol front after && not (is_dashes (c ∷ front))) (run_class (c ∷ front)) some in
    (record { class = run_class (c ∷ front); len = suc (length front) }, symbols_are c front after (ap is_symbol_kind k) test, omega arith)

pub symbol : KindReads Kind.Symbol
symbol = record { right = symbol_right; longest = symbol_longest }

-- special characters
special_right_by : (c : ℕ) (rest : List ℕ) (taken : Taken) (b : Bool) → opens c rest ≡ b → cond b None (Some (record { class = Class.Special; len = 1 })) ≡ Some taken
    → (opens c rest ≡ false) × (◌≡◌ {A = Taken} (record { class = Class.Special; len = 1 }) taken)
special_right_by c rest taken true f e = absurd (none_some e)
special_right_by c rest taken false f e = (f, some_is (record { class = Class.Special; len = 1 }) taken e)

special_right : ReadsRight Kind.Special
special_right c rest taken k e =
    let parts : (opens c rest ≡ false) × (◌≡◌ {A = Taken} (record { class = Class.Special; len = 1 }) taken) = special_right_by c rest taken (opens c rest) refl e in
    let within : 0 ≤ length rest = omega arith in
    taken_right Kind.Special c rest 0 taken k parts.0 (sym (ap len_of parts.1)) within (ap Some (ap class_in parts.1))

special_longest : ReadsLongest Kind.Special
special_longest c [] after k free some = (record { class = Class.Special; len = 1 }, ap (λ b. cond b None (Some (record { class = Class.Special; len = 1 }))) free, omega arith)
special_longest c (d ∷ front) after k free some = absurd (true≢false (sym some))

pub special : KindReads Kind.Special
special = record { right = special_right; longest = special_longest }
