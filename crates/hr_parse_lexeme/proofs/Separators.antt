-- The commas of a tuple's constructor.
use Rattle.std.proofs.Common.{◌≡◌, ℕ, ◌+◌, ◌<◌, ◌≤◌, List, [], ◌∷◌, ◌++◌, length, refl, sym, ap, ◌∙◌, subst, arith, length-append}
use Rattle.std.specs.List.{AllByRecursion}
use Rattle.hr_base.specs.declared.lexeme.Item.{Item}
use Rattle.hr_layout.specs.Standing.{Standing}
use Rattle.hr_grammar.specs.Words.{IsComma}
use Rattle.hr_grammar.specs.Spelled.{AreCommas}
use Rattle.hr_parse_lexeme.specs.Reads.{Takes, TakesAll}
use Rattle.hr_parse_lexeme.proofs.Phrases.{nothing_taken, taken, taken_more}

-- commas that were taken: one or more, fourteen at most
pub record AreTaken (items : List Item) (before after : Standing) : Type 0 where
  pub commas : AllByRecursion IsComma items
  pub some : 1 ≤ length items
  pub few : length items ≤ 14
  pub taken : TakesAll items before after

pub first_taken : {comma : Item} {items : List Item} {a b : Standing} → items ≡ comma ∷ [] → Takes IsComma comma a b → AreTaken items a b
first_taken {a} {b} e p = subst (λ l. AreTaken l a b) (sym e) (record { commas = (p.is, tt); some = omega arith; few = omega arith; taken = taken p (nothing_taken b) })

all_more : (items : List Item) (comma : Item) → AllByRecursion IsComma items → IsComma comma → AllByRecursion IsComma (items ++ comma ∷ [])
all_more [] comma h is = (is, tt)
all_more (item ∷ items) comma h is = (h.0, all_more items comma h.1 is)

next_within : (items : List Item) (comma : Item) → length items < 14 → length (items ++ comma ∷ []) ≤ 14
next_within items comma h = omega (arith, length-append items (comma ∷ []))

next_some : (items : List Item) (comma : Item) → 1 ≤ length (items ++ comma ∷ [])
next_some items comma = omega (arith, length-append items (comma ∷ []))

pub next_taken : {comma : Item} {items more : List Item} {a b c : Standing} → AreTaken items a b → length items < 14 → more ≡ items ++ comma ∷ [] → Takes IsComma comma b c → AreTaken more a c
next_taken {comma} {items} {a} {c} h room e p =
    subst (λ l. AreTaken l a c) (sym e)
    (record { commas = all_more items comma h.commas (p.is); some = next_some items comma; few = next_within items comma room; taken = taken_more h.taken p })

pub are_commas : {items : List Item} {a b : Standing} → AreTaken items a b → AreCommas items
are_commas h = (h.commas, (h.some, h.few))
