-- Conids and qualified names are read as the rules say.
use Rattle.std.proofs.Common.{◌≡◌, ◌≤◌, ℕ, suc, ◌+◌, Bool, true, false, cond, not, ◌&&◌, ◌||◌, ◌==◌, ◌⊎◌, inl, inr, List, [], ◌∷◌, ◌++◌, length, take, drop, Option, Some, None, refl, sym, ap, subst, ◌∙◌, true≢false, arith, length-append, take-append-drop}
use Rattle.std.proofs.lemmas.List.Sums.{prefix_len-le-length}
use Rattle.std.proofs.Math.Seq.{take-append_seam, drop-append_seam, take-append-add, drop-append-add}
use Rattle.std.specs.List.{list_all, prefix_len}
use Rattle.hr_base.specs.declared.lexeme.Class.{Class}
use Rattle.hr_rules.specs.declared.character.Kind.{Kind}
use Rattle.hr_rules.specs.Letters.{kind_of, continues_name, is_in_name}
use Rattle.hr_rules.specs.Runs.{begins_word, ends_run}
use Rattle.hr_rules.specs.Names.{small_class, is_spelled, is_one_of, is_reserved_word, reserved_words}
use Rattle.hr_rules.specs.Operators.{symbol_class}
use Rattle.hr_rules.specs.Qualified.{qualified, name_class, name_class_by, conid_class, qualifies_reserved}
use Rattle.hr_rules.proofs.Apart.{both_left, both_right, not_true}
use Rattle.hr_lexer.specs.declared.taken.Taken.{Taken}
use Rattle.hr_lexer.specs.NameReader.{name_at, name_at_by, behind_dot, with_qualifier, with_qualifier_by, conid_at}
use Rattle.hr_lexer.proofs.Statements.{ReadsRight}
use Rattle.hr_lexer.proofs.NamesRead.{small_parts, symbol_parts}
use Rattle.hr_lexer.proofs.RunsRead.{one_more, no_run, run_more, run_all, run_stops, whole_run, run_len, none_some, some_is, len_of, class_in, taken_right, ReadParts}

is_eq : (a b : ℕ) → (a == b) ≡ true → a ≡ b
is_eq a b e = grind arith

-- reserved words begin with small letters
abbrev is_small_kind : Kind → Bool
is_small_kind Kind.Small = true
is_small_kind _ = false

abbrev begins_small : List ℕ → Bool
begins_small [] = false
begins_small (b ∷ word) = is_small_kind (kind_of b)

spelled_small : (word : List ℕ) (e : ℕ) (w : List ℕ) → begins_small word ≡ true → is_spelled word (e ∷ w) ≡ true → is_small_kind (kind_of e) ≡ true
spelled_small [] e w small is = absurd (true≢false (sym small))
spelled_small (b ∷ word) e w small is =
    let starts : begins_word (b ∷ word) (e ∷ w) ≡ true = both_right (length (e ∷ w) == length (b ∷ word)) (begins_word (b ∷ word) (e ∷ w)) is in
    let same : e ≡ b = is_eq e b (both_left (e == b) (begins_word word w) starts) in
    ap (λ x. is_small_kind (kind_of x)) same ∙ small

or_right : (a b : Bool) → a ≡ false → (a || b) ≡ true → b ≡ true
or_right true b f e = absurd (true≢false f)
or_right false b f e = e

among_by : (word : List ℕ) (table : List (List ℕ)) (e : ℕ) (w : List ℕ) → begins_small word ≡ true → (is_one_of table (e ∷ w) ≡ true → is_small_kind (kind_of e) ≡ true)
    → (b : Bool) → is_spelled word (e ∷ w) ≡ b → is_one_of (word ∷ table) (e ∷ w) ≡ true → is_small_kind (kind_of e) ≡ true
among_by word table e w small so true f is = spelled_small word e w small f
among_by word table e w small so false f is = so (or_right (is_spelled word (e ∷ w)) (is_one_of table (e ∷ w)) f is)

among_small : (table : List (List ℕ)) (e : ℕ) (w : List ℕ) → list_all begins_small table ≡ true → is_one_of table (e ∷ w) ≡ true → is_small_kind (kind_of e) ≡ true
among_small [] e w small is = absurd (true≢false (sym is))
among_small (word ∷ table) e w small is =
    among_by word table e w (both_left (begins_small word) (list_all begins_small table) small)
    (among_small table e w (both_right (begins_small word) (list_all begins_small table) small)) (is_spelled word (e ∷ w)) refl is

all_small : list_all begins_small reserved_words ≡ true
unfolding kind_of
all_small = refl

reserved_small : (e : ℕ) (w : List ℕ) → is_reserved_word (e ∷ w) ≡ true → is_small_kind (kind_of e) ≡ true
unfolding is_reserved_word
reserved_small e w is = among_small reserved_words e w all_small is

none_reserved : is_reserved_word [] ≡ false
unfolding is_reserved_word
none_reserved = refl

small_kind : (k : Kind) → is_small_kind k ≡ true → k ≡ Kind.Small
small_kind Kind.Small e = refl
small_kind Kind.Large e = absurd (true≢false (sym e))
small_kind Kind.Symbol e = absurd (true≢false (sym e))
small_kind Kind.Special e = absurd (true≢false (sym e))
small_kind Kind.Digit e = absurd (true≢false (sym e))
small_kind Kind.WideDigit e = absurd (true≢false (sym e))
small_kind Kind.Quote e = absurd (true≢false (sym e))
small_kind Kind.DoubleQuote e = absurd (true≢false (sym e))
small_kind Kind.Blank e = absurd (true≢false (sym e))
small_kind Kind.Newline e = absurd (true≢false (sym e))
small_kind Kind.Other e = absurd (true≢false (sym e))

-- the whole word that begins a text
abbrev pub word : List ℕ → List ℕ
word text = take (prefix_len is_in_name text) text

reserved_by : (e : ℕ) (w : List ℕ) (b : Bool) → is_in_name e ≡ b → is_reserved_word (word (e ∷ w)) ≡ true → kind_of e ≡ Kind.Small
reserved_by e w true f is = small_kind (kind_of e) (reserved_small e (word w) (sym (ap is_reserved_word (run_more is_in_name e w f)) ∙ is))
reserved_by e w false f is = absurd (true≢false (sym is ∙ (ap (λ n. is_reserved_word (take n (e ∷ w))) (no_run is_in_name e w f) ∙ none_reserved)))

-- where a reserved word begins a text, it is read there
pub reserved_read : (tail : List ℕ) → is_reserved_word (word tail) ≡ true → name_at tail ≡ Some (record { class = Class.ReservedId; len = prefix_len is_in_name tail })
reserved_read [] is = absurd (true≢false (sym is ∙ none_reserved))
reserved_read (e ∷ w) is =
    ap (λ k. name_at_by k (e ∷ w)) (reserved_by e w (is_in_name e) refl is)
    ∙ ap (λ b. Some (record { class = cond b Class.ReservedId Class.VarId; len = prefix_len is_in_name (e ∷ w) })) is

-- behind a run of what may stand in names
pub conid_over : (run rest after : List ℕ) → list_all is_in_name run ≡ true → conid_class (run ++ rest) after ≡ conid_class rest after
conid_over [] rest after all = refl
conid_over (c ∷ run) rest after all =
    ap (λ b. cond b (conid_class (run ++ rest) after) (cond (c == 46) (qualified (name_class (run ++ rest) after)) None)) (both_left (is_in_name c) (list_all is_in_name run) all)
    ∙ conid_over run rest after (both_right (is_in_name c) (list_all is_in_name run) all)

conid_ends : (run after : List ℕ) → list_all is_in_name run ≡ true → ends_run is_in_name after ≡ true → conid_class run after ≡ Some Class.ConId
conid_ends [] after all stop = ap (λ b. cond b (Some Class.ConId) None) stop
conid_ends (c ∷ run) after all stop =
    ap (λ b. cond b (conid_class run after) (cond (c == 46) (qualified (name_class run after)) None)) (both_left (is_in_name c) (list_all is_in_name run) all)
    ∙ conid_ends run after (both_right (is_in_name c) (list_all is_in_name run) all) stop

pub reserved_over : (run rest : List ℕ) → list_all is_in_name run ≡ true → qualifies_reserved (run ++ rest) ≡ qualifies_reserved rest
reserved_over [] rest all = refl
reserved_over (c ∷ run) rest all =
    ap (λ b. cond b (qualifies_reserved (run ++ rest)) (c == 46 && is_reserved_word (word (run ++ rest)))) (both_left (is_in_name c) (list_all is_in_name run) all)
    ∙ reserved_over run rest (both_right (is_in_name c) (list_all is_in_name run) all)

-- where a name is read behind a conid, or no name is, no reserved word begins there
free_by : (n d : ℕ) (tail : List ℕ) (taken : Taken) → with_qualifier n (cond (d == 46) (name_at tail) None) ≡ Some taken
    → (dot : Bool) → (d == 46) ≡ dot → (b : Bool) → is_reserved_word (word tail) ≡ b → (d == 46 && is_reserved_word (word tail)) ≡ false
free_by n d tail taken e false f b g = ap (λ x. x && is_reserved_word (word tail)) f
free_by n d tail taken e true f false g = ap (λ x. x && is_reserved_word (word tail)) f ∙ g
free_by n d tail taken e true f true g =
    absurd (none_some (sym (ap (λ b. with_qualifier n (cond b (name_at tail) None)) f ∙ ap (with_qualifier n) (reserved_read tail g)) ∙ e))

free_behind : (n : ℕ) (behind : List ℕ) (taken : Taken) → ends_run is_in_name behind ≡ true → with_qualifier n (behind_dot behind) ≡ Some taken → qualifies_reserved behind ≡ false
free_behind n [] taken stop e = refl
free_behind n (d ∷ tail) taken stop e =
    ap (λ b. cond b (qualifies_reserved tail) (d == 46 && is_reserved_word (word tail))) (not_true (is_in_name d) stop)
    ∙ free_by n d tail taken e (d == 46) refl (is_reserved_word (word tail)) refl

-- a name without a qualifier, read where a text begins
abbrev pub NamedRight : List ℕ → Taken → Type 0
NamedRight text taken = (taken.len ≤ length text) × (name_class (take taken.len text) (drop taken.len text) ≡ Some taken.class)

taken_named : (kind : Kind) (c : ℕ) (rest : List ℕ) (m : ℕ) (taken : Taken) → kind_of c ≡ kind → taken.len ≡ suc m → m ≤ length rest
    → name_class_by kind c (take m rest) (drop m rest) ≡ Some taken.class → NamedRight (c ∷ rest) taken
taken_named kind c rest m taken k len within is =
    let no_more : taken.len ≤ suc (length rest) = omega (arith, len, within) in
    (no_more, ap (λ n. name_class (take n (c ∷ rest)) (drop n (c ∷ rest))) len ∙ (ap (λ x. name_class_by x c (take m rest) (drop m rest)) k ∙ is))

named_by : (kind : Kind) (c : ℕ) (rest : List ℕ) (taken : Taken) → kind_of c ≡ kind → name_at_by kind (c ∷ rest) ≡ Some taken → NamedRight (c ∷ rest) taken
named_by Kind.Small c rest taken k e =
    let parts : ReadParts (small_class c) rest taken = small_parts c rest taken k e in
    taken_named Kind.Small c rest parts.0 taken k parts.1 parts.2 parts.3
named_by Kind.Symbol c rest taken k e =
    let parts : ReadParts (symbol_class c) rest taken = (symbol_parts c rest taken k e).1 in
    taken_named Kind.Symbol c rest parts.0 taken k parts.1 parts.2 parts.3
named_by Kind.Large c rest taken k e =
    let is : ◌≡◌ {A = Taken} (record { class = Class.ConId; len = prefix_len is_in_name (c ∷ rest) }) taken = some_is (record { class = Class.ConId; len = prefix_len is_in_name (c ∷ rest) }) taken e in
    let len : taken.len ≡ suc (prefix_len is_in_name rest) = sym (ap len_of is) ∙ one_more is_in_name c rest (ap continues_name k) in
    taken_named Kind.Large c rest (prefix_len is_in_name rest) taken k len (prefix_len-le-length is_in_name rest)
    (ap (λ b. cond b (Some Class.ConId) None) (whole_run is_in_name rest) ∙ ap Some (ap class_in is))
named_by Kind.Special c rest taken k e = absurd (none_some e)
named_by Kind.Digit c rest taken k e = absurd (none_some e)
named_by Kind.WideDigit c rest taken k e = absurd (none_some e)
named_by Kind.Quote c rest taken k e = absurd (none_some e)
named_by Kind.DoubleQuote c rest taken k e = absurd (none_some e)
named_by Kind.Blank c rest taken k e = absurd (none_some e)
named_by Kind.Newline c rest taken k e = absurd (none_some e)
named_by Kind.Other c rest taken k e = absurd (none_some e)

named_right : (tail : List ℕ) (taken : Taken) → name_at tail ≡ Some taken → NamedRight tail taken
named_right [] taken e = absurd (none_some e)
named_right (c ∷ rest) taken e = named_by (kind_of c) c rest taken refl e

-- a conid alone
plain : (run behind : List ℕ) (taken : Taken) → list_all is_in_name run ≡ true → ends_run is_in_name behind ≡ true
    → ◌≡◌ {A = Taken} (record { class = Class.ConId; len = suc (length run) }) taken → ReadParts conid_class (run ++ behind) taken
plain run behind taken all stop is =
    let within : length run ≤ length (run ++ behind) = omega (arith, length-append run behind) in (
      length run,
      sym (ap len_of is),
      within,
      ap (λ x. conid_class x (drop (length run) (run ++ behind))) (take-append_seam run behind) ∙ (ap (conid_class run) (drop-append_seam run behind) ∙ (conid_ends run behind all stop ∙ ap Some (ap class_in is))),
    )

-- a conid, a dot and a name
dotted : (run : List ℕ) (d : ℕ) (tail : List ℕ) (name taken : Taken) → list_all is_in_name run ≡ true → is_in_name d ≡ false → (d == 46) ≡ true → name_at tail ≡ Some name
    → taken.len ≡ suc (length run) + 1 + name.len → qualified (Some name.class) ≡ Some taken.class → ReadParts conid_class (run ++ (d ∷ tail)) taken
dotted run d tail name taken all stop dot named len class =
    let right : NamedRight tail name = named_right tail name named in
    let m : ℕ = length run + suc name.len in
    let len_m : taken.len ≡ suc m = omega (arith, len) in
    let size : length (run ++ (d ∷ tail)) ≡ length run + suc (length tail) = length-append run (d ∷ tail) in
    let within : m ≤ length (run ++ (d ∷ tail)) = omega (arith, size, right.0) in (
      m,
      len_m,
      within,
      ap (λ x. conid_class x (drop m (run ++ (d ∷ tail)))) (take-append-add run (d ∷ tail) (suc name.len))
          ∙ (ap (λ x. conid_class (run ++ (d ∷ take name.len tail)) x) (drop-append-add run (d ∷ tail) (suc name.len))
          ∙ (conid_over run (d ∷ take name.len tail) (drop name.len tail) all
          ∙ (ap (λ b. cond b (conid_class (take name.len tail) (drop name.len tail)) (cond (d == 46) (qualified (name_class (take name.len tail) (drop name.len tail))) None)) stop
          ∙ (ap (λ b. cond b (qualified (name_class (take name.len tail) (drop name.len tail))) None) dot
          ∙ (ap qualified right.1 ∙ class))))),
    )

qualifier_by : (class : Class) (n m : ℕ) (taken : Taken) → with_qualifier_by class n m ≡ Some taken
    → ((taken.len ≡ n + 1 + m) × (qualified (Some class) ≡ Some taken.class)) ⊎ (◌≡◌ {A = Taken} (record { class = Class.ConId; len = n }) taken)
qualifier_by Class.VarId n m taken e = let is = some_is (record { class = Class.QVarId; len = n + 1 + m }) taken e in inl (sym (ap len_of is), ap Some (ap class_in is))
qualifier_by Class.ConId n m taken e = let is = some_is (record { class = Class.QConId; len = n + 1 + m }) taken e in inl (sym (ap len_of is), ap Some (ap class_in is))
qualifier_by Class.VarSym n m taken e = let is = some_is (record { class = Class.QVarSym; len = n + 1 + m }) taken e in inl (sym (ap len_of is), ap Some (ap class_in is))
qualifier_by Class.ConSym n m taken e = let is = some_is (record { class = Class.QConSym; len = n + 1 + m }) taken e in inl (sym (ap len_of is), ap Some (ap class_in is))
qualifier_by Class.ReservedId n m taken e = absurd (none_some e)
qualifier_by _ n m taken e = inr (some_is (record { class = Class.ConId; len = n }) taken e)

conid_named : (run : List ℕ) (d : ℕ) (tail : List ℕ) (taken : Taken) (name : Option Taken) → list_all is_in_name run ≡ true → is_in_name d ≡ false → (d == 46) ≡ true → name_at tail ≡ name
    → with_qualifier (suc (length run)) name ≡ Some taken → ReadParts conid_class (run ++ (d ∷ tail)) taken
conid_named run d tail taken None all stop dot named e = plain run (d ∷ tail) taken all (ap not stop) (some_is (record { class = Class.ConId; len = suc (length run) }) taken e)
conid_named run d tail taken (Some name) all stop dot named e = elim (qualifier_by name.class (suc (length run)) name.len taken e) [
  | inl w ↦ dotted run d tail name taken all stop dot named w.0 w.1
  | inr w ↦ plain run (d ∷ tail) taken all (ap not stop) w
]

conid_dot : (run : List ℕ) (d : ℕ) (tail : List ℕ) (taken : Taken) → list_all is_in_name run ≡ true → is_in_name d ≡ false → (dot : Bool) → (d == 46) ≡ dot
    → with_qualifier (suc (length run)) (cond dot (name_at tail) None) ≡ Some taken → ReadParts conid_class (run ++ (d ∷ tail)) taken
conid_dot run d tail taken all stop true f e = conid_named run d tail taken (name_at tail) all stop f refl e
conid_dot run d tail taken all stop false f e = plain run (d ∷ tail) taken all (ap not stop) (some_is (record { class = Class.ConId; len = suc (length run) }) taken e)

conid_parts : (run behind : List ℕ) (taken : Taken) → list_all is_in_name run ≡ true → ends_run is_in_name behind ≡ true
    → with_qualifier (suc (length run)) (behind_dot behind) ≡ Some taken → ReadParts conid_class (run ++ behind) taken
conid_parts run [] taken all stop e = plain run [] taken all stop (some_is (record { class = Class.ConId; len = suc (length run) }) taken e)
conid_parts run (d ∷ tail) taken all stop e = conid_dot run d tail taken all (not_true (is_in_name d) stop) (d == 46) refl e

-- a conid is read by its run
pub conid_by_run : (c : ℕ) (run behind : List ℕ) → is_in_name c ≡ true → list_all is_in_name run ≡ true → ends_run is_in_name behind ≡ true
    → conid_at (c ∷ (run ++ behind)) ≡ with_qualifier (suc (length run)) (behind_dot behind)
conid_by_run c run behind named all stop =
    let len : prefix_len is_in_name (c ∷ (run ++ behind)) ≡ suc (length run) = one_more is_in_name c (run ++ behind) named ∙ ap suc (run_len is_in_name run behind all stop) in
    ap (λ n. with_qualifier n (behind_dot (drop n (c ∷ (run ++ behind))))) len ∙ ap (λ x. with_qualifier (suc (length run)) (behind_dot x)) (drop-append_seam run behind)

large_split : (c : ℕ) (run behind : List ℕ) (taken : Taken) → kind_of c ≡ Kind.Large → list_all is_in_name run ≡ true → ends_run is_in_name behind ≡ true
    → conid_at (c ∷ (run ++ behind)) ≡ Some taken → (qualifies_reserved (run ++ behind) ≡ false) × ReadParts conid_class (run ++ behind) taken
large_split c run behind taken k all stop e =
    let e' : with_qualifier (suc (length run)) (behind_dot behind) ≡ Some taken = sym (conid_by_run c run behind (ap continues_name k) all stop) ∙ e in
    (reserved_over run behind all ∙ free_behind (suc (length run)) behind taken stop e', conid_parts run behind taken all stop e')

pub large_right : ReadsRight Kind.Large
large_right c rest taken k e =
    let n : ℕ = prefix_len is_in_name rest in
    let parts : (qualifies_reserved rest ≡ false) × ReadParts conid_class rest taken =
    subst (λ x. conid_at (c ∷ x) ≡ Some taken → (qualifies_reserved x ≡ false) × ReadParts conid_class x taken) (take-append-drop n rest)
    (large_split c (take n rest) (drop n rest) taken k (run_all is_in_name rest) (run_stops is_in_name rest)) e in
    taken_right Kind.Large c rest parts.1.0 taken k parts.0 parts.1.1 parts.1.2 parts.1.3
