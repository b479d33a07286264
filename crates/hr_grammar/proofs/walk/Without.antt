-- That no item passes a test goes over from the parts to the whole, where no lexeme that stands by itself passes it.
use Rattle.std.proofs.Common.{◌≡◌, ℕ, Bool, false, List, [], ◌∷◌, ◌++◌, ap₂, ◌∙◌}
use Rattle.std.specs.List.{AllByRecursion}
use lib.Chars.{codes}
use Rattle.hr_base.specs.declared.lexeme.Class.{Class}
use Rattle.hr_base.specs.declared.lexeme.Item.{Item}
use Rattle.hr_grammar.specs.Words.{IsText}
use Rattle.hr_grammar.specs.LeftOut.{left_out}
use Rattle.hr_grammar.proofs.walk.Rules.{is_paired, Joins, InBrackets, InTrees}

abbrev pub Without : (Class → List ℕ → Bool) → List Item → Type 0
Without test = AllByRecursion (λ (item : Item). test item.lexeme.class item.lexeme.text ≡ false)

without_join : (test : Class → List ℕ → Bool) (xs ys : List Item) → Without test xs → Without test ys → Without test (xs ++ ys)
without_join test [] ys p q = q
without_join test (x ∷ xs) ys p q = (p.0, without_join test xs ys p.1 q)

without_joins : (test : Class → List ℕ → Bool) → Joins (Without test)
without_joins test = record { nothing = tt; join = without_join test }

-- one item, by its text
without_text : (test : Class → List ℕ → Bool) (class : Class) (text : List ℕ) (item : Item) → IsText class text item → test class text ≡ false → Without test (item ∷ [])
without_text test class text item is e = (ap₂ test is.0 is.1 ∙ e, tt)

-- two special lexemes round others
without_around : (test : Class → List ℕ → Bool) → ((text : List ℕ) → test Class.Special text ≡ false) → (text other : List ℕ) (left right : Item) (xs : List Item)
    → IsText Class.Special text left → IsText Class.Special other right → Without test xs → Without test (left ∷ (xs ++ right ∷ []))
without_around test special text other left right xs l r p =
    ((without_text test Class.Special text left l (special text)).0, without_join test xs (right ∷ []) p (without_text test Class.Special other right r (special other)))

pub without_in_brackets : (apart test : Class → List ℕ → Bool) → ((class : Class) (text : List ℕ) → apart class text ≡ false → left_out class text ≡ false → test class text ≡ false)
    → ((text : List ℕ) → test Class.Special text ≡ false) → InBrackets apart (Without test)
without_in_brackets apart test plain special = record {
  joins = without_joins test;
  plain = λ item e kept. (plain item.lexeme.class item.lexeme.text e kept, tt);
  parens = without_around test special (codes "(") (codes ")");
  squares = without_around test special (codes "[") (codes "]");
}

-- in trees, also `let` and `in`, and `<-`
pub without_in_trees : (test : Class → List ℕ → Bool) → ((class : Class) (text : List ℕ) → is_paired class text ≡ false → left_out class text ≡ false → test class text ≡ false)
    → ((text : List ℕ) → test Class.Special text ≡ false) → test Class.ReservedId (codes "let") ≡ false → test Class.ReservedId (codes "in") ≡ false → test Class.ReservedOp (codes "<-") ≡ false
    → InTrees (Without test) (Without test)
without_in_trees test plain special no_let no_in no_arrow = record {
  joins = without_joins test;
  plain = λ item e kept. (plain item.lexeme.class item.lexeme.text e kept, tt);
  parens = without_around test special (codes "(") (codes ")");
  braces = without_around test special (codes "{") (codes "}");
  lets = λ word in_word xs ys w i p q.
      ((without_text test Class.ReservedId (codes "let") word w no_let).0, without_join test xs (in_word ∷ ys) p ((without_text test Class.ReservedId (codes "in") in_word i no_in).0, q));
  inside = λ xs p. p;
  inside_join = without_join test;
  inside_let = λ word w. without_text test Class.ReservedId (codes "let") word w no_let;
  inside_arrow = λ arrow is. without_text test Class.ReservedOp (codes "<-") arrow is no_arrow;
  squares = without_around test special (codes "[") (codes "]");
}
