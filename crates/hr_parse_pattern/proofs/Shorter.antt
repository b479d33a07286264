-- What is read leaves fewer lexemes than there were.
use Rattle.std.proofs.Common.{◌≡◌, ℕ, suc, ◌+◌, ◌<◌, ◌≤◌, List, [], ◌∷◌, length, refl, sym, ap, ◌∙◌, subst, arith}
use Rattle.hr_base.specs.declared.lexeme.Item.{Item}
use Rattle.hr_rules.specs.declared.block.Placed.{Placed}
use Rattle.hr_rules.specs.Blocks.{enclosing}
use Rattle.hr_layout.specs.Standing.{Standing}
use Rattle.hr_grammar_cases.specs.Readings.{takes, take_all}
use Rattle.hr_parse_lexeme.specs.Reads.{Takes, TakesAll, Spells}

one_shorter : (n : ℕ) (item : Item) (ts us : List Placed) → takes n item ts us → length us < length ts
one_shorter n item [] us h = elim h [ ]
one_shorter n item (next ∷ ts) us h = subst (λ l. length l < length (next ∷ ts)) (sym h.2) (omega arith)

no_longer : (a b c : ℕ) → a ≤ b → b < c → a ≤ c
no_longer a b c p q = omega arith

none_longer : (n : ℕ) (items : List Item) (ts us : List Placed) → take_all n items ts us → length us ≤ length ts
none_longer n [] ts us e = subst (λ l. length l ≤ length ts) (sym e) (omega arith)
none_longer n (item ∷ items) ts us h = no_longer (length us) (length h.0) (length ts) (none_longer n items h.0 us h.2) (one_shorter n item ts h.0 h.1)

pub takes_shorter : {Is : Item → Type 0} {item : Item} {a b : Standing} → Takes Is item a b → length b.rest < length a.rest
takes_shorter {item = item} {a} {b} p = one_shorter (enclosing a.blocks) item a.rest b.rest (p.taken.read 0 (omega arith))

spells_no_longer : {T : Type 0} {Is : T → Type 0} {items_of : T → List Item} {x : T} {a b : Standing} → Spells Is items_of x a b → length b.rest ≤ length a.rest
spells_no_longer {items_of = items_of} {x} {a} {b} p = none_longer (enclosing a.blocks) (items_of x) a.rest b.rest (p.taken.taken.read 0 (omega arith))

-- with what is read behind it
pub behind_lexeme : {Is : Item → Type 0} {item : Item} {a b : Standing} (k : ℕ) → Takes Is item a b → k < length b.rest → k < length a.rest
behind_lexeme {a = a} {b} k p q = both k (length b.rest) (length a.rest) q (takes_shorter p)
  where
    both : (k b a : ℕ) → k < b → b < a → k < a
    both k b a p q = omega arith

pub behind_name : {T : Type 0} {Is : T → Type 0} {items_of : T → List Item} {x : T} {a b : Standing} (k : ℕ) → Spells Is items_of x a b → k < length b.rest → k < length a.rest
behind_name {a = a} {b} k p q = both k (length b.rest) (length a.rest) q (spells_no_longer p)
  where
    both : (k b a : ℕ) → k < b → b ≤ a → k < a
    both k b a p q = omega arith
