-- The tests hold exactly where the grammar's predicates do.
use Rattle.std.proofs.Common.{◌≡◌, ◌≢◌, ◌⊎◌, ◌≤◌, ◌<◌, ℕ, zero, suc, Bool, true, false, not, ◌&&◌, ◌||◌, ◌==◌, nat_lt, List, [], ◌∷◌, length, refl, sym, ap, ap₂, ◌∙◌, subst, inl, inr, arith}
use Rattle.std.proofs.lemmas.Bool.{ltb-true, ltb-false, eqb-true, eq-eqb}
use lib.Chars.{codes}
use Rattle.hr_base.specs.declared.lexeme.Class.{Class}
use Rattle.hr_base.specs.declared.lexeme.Item.{Item}
use Rattle.hr_rules.specs.Names.{is_spelled}
use Rattle.hr_rules.specs.Runs.{begins_word}
use Rattle.hr_tree.specs.declared.lists.Operand.{Operand}
use Rattle.hr_tree.specs.declared.names.Operator.{Operator}
use Rattle.hr_tree.specs.declared.expressions.Exp.{Exp}
use Rattle.hr_grammar.specs.Words.{IsOf, IsText, IsWord, IsReserved, IsSpecial, IsImportWord, IsMinus, IsLiteral}
use Rattle.hr_grammar.specs.Spelled.{IsColon, IsNoMinus, AreParts}
use Rattle.hr_grammar.specs.Declarations.{IsDigit}
use Rattle.hr_grammar.specs.Patterns.{HasTwo}
use Rattle.hr_grammar.specs.Expressions.{IsSequence}
use Rattle.hr_grammar_finder_laws.specs.Tests.{class_number, is_of, is_text, is_literal, is_digit, is_either, is_constructor_symbol, is_no_minus, is_minus, has_one, has_two, is_from_to, are_parts, is_sequence}
use Rattle.hr_grammar_finder_laws.proofs.Ways.{Tests, both_are, are_both}

pub same_number : (a b : ℕ) → a ≡ b → (a == b) ≡ true
same_number a b e = eq-eqb a b e

-- the class that has a number
abbrev class_of_number : ℕ → Class
class_of_number zero = Class.VarId
class_of_number (suc zero) = Class.ConId
class_of_number (suc (suc zero)) = Class.QVarId
class_of_number (suc (suc (suc zero))) = Class.QConId
class_of_number (suc (suc (suc (suc zero)))) = Class.VarSym
class_of_number (suc (suc (suc (suc (suc zero))))) = Class.ConSym
class_of_number (suc (suc (suc (suc (suc (suc zero)))))) = Class.QVarSym
class_of_number (suc (suc (suc (suc (suc (suc (suc zero))))))) = Class.QConSym
class_of_number (suc (suc (suc (suc (suc (suc (suc (suc zero)))))))) = Class.Integer
class_of_number (suc (suc (suc (suc (suc (suc (suc (suc (suc zero))))))))) = Class.Float
class_of_number (suc (suc (suc (suc (suc (suc (suc (suc (suc (suc zero)))))))))) = Class.Char
class_of_number (suc (suc (suc (suc (suc (suc (suc (suc (suc (suc (suc zero))))))))))) = Class.Str
class_of_number (suc (suc (suc (suc (suc (suc (suc (suc (suc (suc (suc (suc zero)))))))))))) = Class.ReservedId
class_of_number (suc (suc (suc (suc (suc (suc (suc (suc (suc (suc (suc (suc (suc zero))))))))))))) = Class.ReservedOp
class_of_number _ = Class.Special

class_back : (class : Class) → class_of_number (class_number class) ≡ class
class_back Class.VarId = refl
class_back Class.ConId = refl
class_back Class.QVarId = refl
class_back Class.QConId = refl
class_back Class.VarSym = refl
class_back Class.ConSym = refl
class_back Class.QVarSym = refl
class_back Class.QConSym = refl
class_back Class.Integer = refl
class_back Class.Float = refl
class_back Class.Char = refl
class_back Class.Str = refl
class_back Class.ReservedId = refl
class_back Class.ReservedOp = refl
class_back Class.Special = refl

pub tests_of : (class : Class) → Tests (IsOf class) (is_of class)
tests_of class = record {
  passes = λ item e.
      sym (class_back item.lexeme.class) ∙ ap class_of_number (eqb-true (class_number item.lexeme.class) (class_number class) e) ∙ class_back class;
  passed = λ item e. same_number (class_number item.lexeme.class) (class_number class) (ap class_number e);
}

same_word : (word text : List ℕ) → length text ≡ length word → begins_word word text ≡ true → text ≡ word
same_word [] [] l b = refl
same_word [] (c ∷ text) l b = absurd (omega arith)
same_word (d ∷ word) [] l b = absurd (omega arith)
same_word (d ∷ word) (c ∷ text) l b =
    let both = both_are (c == d) (begins_word word text) b in
    let shorter : length text ≡ length word = omega arith in
    ap₂ (λ (x : ℕ) (xs : List ℕ). x ∷ xs) (eqb-true c d both.0) (same_word word text shorter both.1)

begins_itself : (word : List ℕ) → begins_word word word ≡ true
begins_itself [] = refl
begins_itself (c ∷ word) = are_both (c == c) (begins_word word word) (same_number c c refl) (begins_itself word)

spelled_so : (word text : List ℕ) → is_spelled word text ≡ true → text ≡ word
spelled_so word text s = let both = both_are (length text == length word) (begins_word word text) s in same_word word text (eqb-true (length text) (length word) both.0) both.1

spelled_itself : (word : List ℕ) → is_spelled word word ≡ true
spelled_itself word = are_both (length word == length word) (begins_word word word) (same_number (length word) (length word) refl) (begins_itself word)

pub tests_both : {T : Type 0} {P Q : T → Type 0} {p q : T → Bool} → Tests P p → Tests Q q → Tests (λ x. P x × Q x) (λ x. p x && q x)
tests_both {T} {P} {Q} {p} {q} s t = record {
  passes = λ x e. let both = both_are (p x) (q x) e in (s.passes x both.0, t.passes x both.1);
  passed = λ x h. are_both (p x) (q x) (s.passed x h.0) (t.passed x h.1);
}

one_of : (a b : Bool) → (a || b) ≡ true → (a ≡ true) ⊎ (b ≡ true)
one_of true b e = inl refl
one_of false b e = inr e

or_first : (a b : Bool) → a ≡ true → (a || b) ≡ true
or_first true b e = refl
or_first false b e = let h : ⊥ = cc in elim h [ ]

or_second : (a b : Bool) → b ≡ true → (a || b) ≡ true
or_second true b e = refl
or_second false b e = e

pub tests_either : {T : Type 0} {P Q : T → Type 0} {p q : T → Bool} → Tests P p → Tests Q q → Tests (λ x. P x ⊎ Q x) (λ x. p x || q x)
tests_either {T} {P} {Q} {p} {q} s t = record { passes = λ x e. some x (one_of (p x) (q x) e); passed = passed_by }
  where
    some : (x : T) → (p x ≡ true) ⊎ (q x ≡ true) → P x ⊎ Q x
    some x (inl e) = inl (s.passes x e)
    some x (inr e) = inr (t.passes x e)

    passed_by : (x : T) → P x ⊎ Q x → (p x || q x) ≡ true
    passed_by x (inl h) = or_first (p x) (q x) (s.passed x h)
    passed_by x (inr h) = or_second (p x) (q x) (t.passed x h)

tests_spelled : (text : List ℕ) → Tests (λ (item : Item). item.lexeme.text ≡ text) (λ (item : Item). is_spelled text item.lexeme.text)
tests_spelled text = record {
  passes = λ item e. spelled_so text item.lexeme.text e;
  passed = λ item e. subst (λ t. is_spelled text t ≡ true) (sym e) (spelled_itself text);
}

pub tests_text : (class : Class) (text : List ℕ) → Tests (IsText class text) (is_text class text)
tests_text class text = tests_both (tests_of class) (tests_spelled text)

pub tests_word : (text : List ℕ) → Tests (IsWord text) (is_text Class.ReservedId text)
tests_word text = tests_text Class.ReservedId text

pub tests_reserved : (text : List ℕ) → Tests (IsReserved text) (is_text Class.ReservedOp text)
tests_reserved text = tests_text Class.ReservedOp text

pub tests_special : (text : List ℕ) → Tests (IsSpecial text) (is_text Class.Special text)
tests_special text = tests_text Class.Special text

pub tests_import_word : (text : List ℕ) → Tests (IsImportWord text) (is_text Class.VarId text)
tests_import_word text = tests_text Class.VarId text

pub tests_minus : Tests IsMinus is_minus
tests_minus = tests_text Class.VarSym (codes "-")

pub tests_two : (first second : Class) → Tests (λ item. IsOf first item ⊎ IsOf second item) (is_either first second)
tests_two first second = tests_either (tests_of first) (tests_of second)

pub tests_literal : Tests IsLiteral is_literal
tests_literal = tests_either (tests_of Class.Integer) (tests_either (tests_of Class.Char) (tests_of Class.Str))

pub tests_constructor_symbol : Tests (λ item. IsOf Class.ConSym item ⊎ (IsOf Class.QConSym item ⊎ IsColon item)) is_constructor_symbol
tests_constructor_symbol = tests_either (tests_of Class.ConSym) (tests_either (tests_of Class.QConSym) (tests_reserved (codes ":")))

pub tests_digit : Tests IsDigit is_digit
tests_digit = tests_both (tests_of Class.Integer) (record { passes = λ item e. eqb-true (length item.lexeme.text) 1 e; passed = λ item e. same_number (length item.lexeme.text) 1 e })

-- what is not so
not_true : (b : Bool) → not b ≡ true → b ≡ true → ⊥
not_true true e f = cc
not_true false e f = cc

true_not : (b : Bool) → (b ≡ true → ⊥) → not b ≡ true
true_not true never = let h : ⊥ = never refl in elim h [ ]
true_not false never = refl

pub tests_no_minus : Tests IsNoMinus is_no_minus
tests_no_minus = record { passes = passes_by; passed = passed_by }
  where
    passes_by : (operator : Operator) → is_no_minus operator ≡ true → IsNoMinus operator
    passes_by (Operator.Symbol symbol) e = λ is. not_true (is_minus symbol) e (tests_minus.passed symbol is)
    passes_by (Operator.Quoted left name right) e = tt

    passed_by : (operator : Operator) → IsNoMinus operator → is_no_minus operator ≡ true
    passed_by (Operator.Symbol symbol) never = true_not (is_minus symbol) (λ e. never (tests_minus.passes symbol e))
    passed_by (Operator.Quoted left name right) never = refl

pub tests_one : {T : Type 0} → Tests (λ (xs : List T). xs ≢ []) has_one
tests_one {T} = record { passes = passes_by; passed = passed_by }
  where
    passes_by : (xs : List T) → has_one xs ≡ true → xs ≢ []
    passes_by [] e = let h : ⊥ = cc in elim h [ ]
    passes_by (x ∷ xs) e = λ f. cc

    passed_by : (xs : List T) → xs ≢ [] → has_one xs ≡ true
    passed_by [] never = let h : ⊥ = never refl in elim h [ ]
    passed_by (x ∷ xs) never = refl

pub tests_has_two : {T : Type 0} → Tests (λ (xs : List T). HasTwo xs) has_two
tests_has_two {T} = record { passes = passes_by; passed = passed_by }
  where
    passes_by : (xs : List T) → has_two xs ≡ true → HasTwo xs
    passes_by [] e = let h : ⊥ = cc in elim h [ ]
    passes_by (x ∷ []) e = let h : ⊥ = cc in elim h [ ]
    passes_by (x ∷ (y ∷ xs)) e = tt

    passed_by : (xs : List T) → HasTwo xs → has_two xs ≡ true
    passed_by [] h = elim h [ ]
    passed_by (x ∷ []) h = elim h [ ]
    passed_by (x ∷ (y ∷ xs)) h = refl

not_below : (a b : ℕ) → not (nat_lt a b) ≡ true → b ≤ a
not_below a b e = ltb-false a b (false_of (nat_lt a b) e)
  where
    false_of : (c : Bool) → not c ≡ true → c ≡ false
    false_of true f = let h : ⊥ = cc in elim h [ ]
    false_of false f = refl

below_not : (a b : ℕ) → b ≤ a → not (nat_lt a b) ≡ true
below_not a b l = true_not (nat_lt a b) (λ e. let h : a < b = ltb-true a b e in absurd (omega arith))

pub tests_from_to : {T : Type 0} (low high : ℕ) → Tests (λ (xs : List T). (low ≤ length xs) × (length xs ≤ high)) (λ (xs : List T). is_from_to low high (length xs))
tests_from_to {T} low high = record {
  passes = λ xs e. let both = both_are (not (nat_lt (length xs) low)) (not (nat_lt high (length xs))) e in (not_below (length xs) low both.0, not_below high (length xs) both.1);
  passed = λ xs h. are_both (not (nat_lt (length xs) low)) (not (nat_lt high (length xs))) (below_not (length xs) low h.0) (below_not high (length xs) h.1);
}

pub tests_parts : {T : Type 0} → Tests (λ (xs : List T). AreParts (length xs)) are_parts
tests_parts = tests_from_to 2 15

-- a test of a part
pub tests_at : {S T : Type 0} {Is : T → Type 0} {test : T → Bool} (part : S → T) → Tests Is test → Tests (λ x. Is (part x)) (λ x. test (part x))
tests_at part t = record { passes = λ x e. t.passes (part x) e; passed = λ x h. t.passed (part x) h }

pub tests_sequence : Tests IsSequence is_sequence
tests_sequence = record { passes = passes_by; passed = passed_by }
  where
    passes_by : (xs : List (Operand Exp)) → is_sequence xs ≡ true → IsSequence xs
    passes_by [] e = let h : ⊥ = cc in elim h [ ]
    passes_by (x ∷ []) e = e
    passes_by (x ∷ (y ∷ xs)) e = tt

    passed_by : (xs : List (Operand Exp)) → IsSequence xs → is_sequence xs ≡ true
    passed_by [] h = elim h [ ]
    passed_by (x ∷ []) h = h
    passed_by (x ∷ (y ∷ xs)) h = refl
