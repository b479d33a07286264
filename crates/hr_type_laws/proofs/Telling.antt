-- The lexical rules tell variables, constructors and marks apart.
use Rattle.std.proofs.Common.{◌≡◌, inl, inr, ℕ, Bool, true, false, List, [], Some, refl, sym, ap, ◌∙◌, true≢false}
use Rattle.std.specs.List.{AllByRecursion}
use Rattle.std.specs.Str.{chars, is_utf8}
use Rattle.hr_base.specs.declared.lexeme.Class.{Class}
use Rattle.hr_rules.specs.Letters.{kind_of}
use Rattle.hr_rules.specs.Operators.{is_reserved_operator}
use Rattle.hr_rules.specs.Lexemes.{class_of}
use Rattle.hr_type.specs.Spelling.{name_text}
use Rattle.hr_type_laws.specs.Scopes.{marks, is_mark, IsConid}
use Rattle.hr_type_laws.specs.Laws.{ScopesTellApart}
use Rattle.hr_type_laws.proofs.Enclosing.{among}
use Rattle.hr_type_laws.proofs.Identifiers.{is_identifier}

marks_no_identifiers : AllByRecursion (λ mark. is_identifier (class_of mark []) ≡ false) marks
unfolding class_of kind_of is_reserved_operator chars is_utf8 lib.Utf8.encode
marks_no_identifiers = (refl, (refl, (refl, (refl, (refl, (refl, tt))))))

identifier_no_mark : (text : List ℕ) → is_identifier (class_of text []) ≡ true → is_mark text ≡ false
identifier_no_mark text is = by_test (is_mark text) refl
  where
    by_test : (b : Bool) → is_mark text ≡ b → b ≡ false
    by_test true mark = absurd (true≢false (sym is ∙ among (λ mark. is_identifier (class_of mark []) ≡ false) marks text marks_no_identifiers mark))
    by_test false none = refl

conid_identifier : (text : List ℕ) → IsConid text → is_identifier (class_of text []) ≡ true
conid_identifier text (inl e) = ap is_identifier e
conid_identifier text (inr e) = ap is_identifier e

no_variable : (text : List ℕ) → class_of text [] ≡ Some Class.VarId → IsConid text → ⊥
no_variable text v (inl e) = let clash : Some Class.VarId ≡ Some Class.ConId = sym v ∙ e in cc
no_variable text v (inr e) = let clash : Some Class.VarId ≡ Some Class.QConId = sym v ∙ e in cc

pub scopes_tell_apart_lem : ScopesTellApart
scopes_tell_apart_lem scope is = record {
  variables = is.distinct;
  names = is.spelled_once;
  apart = λ n e name v c. no_variable (name_text name) (is.variables n (name_text name) v) (is.names e name c);
  variable_no_mark = λ n text v. identifier_no_mark text (ap is_identifier (is.variables n text v));
  name_no_mark = λ e name c. identifier_no_mark (name_text name) (conid_identifier (name_text name) (is.names e name c));
}
