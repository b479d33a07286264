-- A byte order mark among the characters is one among the bytes.
use Rattle.std.proofs.Common.{◌≡◌, ℕ, Bool, true, false, cond, ◌==◌, List, [], ◌∷◌, ◌++◌, length, take, drop, refl, sym, ap, ◌∙◌, true≢false, take-append-drop}
use Rattle.std.proofs.lemmas.Bool.{eqb-true, eq-eqb}
use Rattle.std.proofs.lemmas.Slice.Eq.{bytes_eq-Decides}
use Rattle.std.proofs.lemmas.Str.{encode_same}
use Rattle.std.specs.Prelude.{nat_eq}
use Rattle.std.specs.List.{starts_with}
use lib.Utf8.{encode, encodes}
use Rattle.hr_rules.specs.Lexemes.{byte_order_mark, mark_len}
use Rattle.hr_lexer.specs.Marks.{mark_count}
use Rattle.hr_lexer.proofs.Splits.{front, back}

mark_bytes : encode 0xFEFF ≡ byte_order_mark
unfolding encode
mark_bytes = refl

pub begins_mark : (bytes : List ℕ) → starts_with nat_eq bytes byte_order_mark ≡ true → bytes ≡ encode 0xFEFF ++ drop 3 bytes
begins_mark bytes e =
    let same : byte_order_mark ≡ take 3 bytes = (bytes_eq-Decides byte_order_mark (take 3 bytes)).0 e in
    sym (take-append-drop 3 bytes) ∙ ap (λ x. x ++ drop 3 bytes) (sym same ∙ sym mark_bytes)

marked : (cs : List ℕ) → mark_len (encode 0xFEFF ++ encodes cs) ≡ length (encode 0xFEFF)
unfolding encode
marked cs = refl

unmarked_by : (c : ℕ) (cs : List ℕ) → (c == 0xFEFF) ≡ false → (b : Bool) → starts_with nat_eq (encode c ++ encodes cs) byte_order_mark ≡ b → ◌≡◌ {A = ℕ} (cond b 3 0) 0
unmarked_by c cs e false s = refl
unmarked_by c cs e true s =
    let same = encode_same c 0xFEFF (encodes cs) (drop 3 (encode c ++ encodes cs)) (begins_mark (encode c ++ encodes cs) s) in
    absurd (true≢false (sym (eq-eqb c 0xFEFF same.0) ∙ e))

mark_alone : length (encode 0xFEFF) ≡ length (encodes (0xFEFF ∷ []))
unfolding encode
mark_alone = refl

by_mark : (c : ℕ) (cs : List ℕ) (b : Bool) → (c == 0xFEFF) ≡ b → mark_len (encode c ++ encodes cs) ≡ length (encodes (take (cond b 1 0) (c ∷ cs)))
by_mark c cs false e = unmarked_by c cs e (starts_with nat_eq (encode c ++ encodes cs) byte_order_mark) refl
by_mark c cs true e =
    let same : c ≡ 0xFEFF = eqb-true c 0xFEFF e in
    ap (λ x. mark_len (encode x ++ encodes cs)) same ∙ marked cs ∙ mark_alone ∙ ap (λ x. length (encodes (x ∷ []))) (sym same)

mark_is : (cs : List ℕ) → mark_len (encodes cs) ≡ length (encodes (take (mark_count cs) cs))
mark_is [] = refl
mark_is (c ∷ cs) = by_mark c cs (c == 0xFEFF) refl

pub mark_front : (cs bytes : List ℕ) → bytes ≡ encodes cs → take (mark_len bytes) bytes ≡ encodes (take (mark_count cs) cs)
mark_front cs bytes e = ap (λ n. take n bytes) (ap mark_len e ∙ mark_is cs) ∙ front (mark_count cs) cs bytes e

pub mark_back : (cs bytes : List ℕ) → bytes ≡ encodes cs → drop (mark_len bytes) bytes ≡ encodes (drop (mark_count cs) cs)
mark_back cs bytes e = ap (λ n. drop n bytes) (ap mark_len e ∙ mark_is cs) ∙ back (mark_count cs) cs bytes e
