-- How much readings take: a lexeme or more, or perhaps none.
use Rattle.std.proofs.Common.{◌≤◌, ◌<◌, ℕ, List, [], ◌∷◌, length, Option, Some, None, sym, subst, arith}
use Rattle.hr_base.specs.declared.lexeme.Item.{Item}
use Rattle.hr_rules.specs.declared.block.Placed.{Placed}
use Rattle.hr_tree.specs.declared.lists.Listed.{Listed}
use Rattle.hr_grammar_cases.specs.Readings.{Reading, ◌▷◌, given}
use Rattle.hr_grammar_cases.specs.Readings as reading
use Rattle.hr_grammar_finder_laws.proofs.Lists.{Shrinks, all_fit, there_shrinks}
use Rattle.hr_grammar_finder_laws.proofs.Names.{one_shrinks}

-- a lexeme or more
pub record Takes (R : Reading) : Type 0 where
  pub fewer : (ts us : List Placed) → R ts us → length us < length ts

-- none or more
pub record Stays (R : Reading) : Type 0 where
  pub no_more : (ts us : List Placed) → R ts us → length us ≤ length ts

both_fewer : (a b c : ℕ) → a ≤ b → b < c → a < c
both_fewer a b c l m = omega arith

then_fewer : (a b c : ℕ) → a < b → b ≤ c → a < c
then_fewer a b c l m = omega arith

not_more : (a b : ℕ) → a < b → a ≤ b
not_more a b l = omega arith

both_no_more : (a b c : ℕ) → a ≤ b → b ≤ c → a ≤ c
both_no_more a b c l m = omega arith

pub some : {R : Reading} → Takes R → Stays R
some t = record { no_more = λ ts us r. not_more (length us) (length ts) (t.fewer ts us r) }

pub first_takes : {P Q : Reading} → Takes P → Stays Q → Takes (P ▷ Q)
first_takes {P} {Q} t s = record { fewer = λ ts us r. both_fewer (length us) (length r.0) (length ts) (s.no_more r.0 us r.2) (t.fewer ts r.0 r.1) }

pub second_takes : {P Q : Reading} → Stays P → Takes Q → Takes (P ▷ Q)
second_takes {P} {Q} s t = record { fewer = λ ts us r. then_fewer (length us) (length r.0) (length ts) (t.fewer r.0 us r.2) (s.no_more ts r.0 r.1) }

pub both_stay : {P Q : Reading} → Stays P → Stays Q → Stays (P ▷ Q)
both_stay {P} {Q} s t = record { no_more = λ ts us r. both_no_more (length us) (length r.0) (length ts) (t.no_more r.0 us r.2) (s.no_more ts r.0 r.1) }

pub given_takes : {A : Type 0} {R : Reading} → Takes R → Takes (given A R)
given_takes t = record { fewer = λ ts us r. t.fewer ts us r.1 }

pub one_takes : (n : ℕ) (Is : Item → Type 0) (item : Item) → Takes (reading.one n Is item)
one_takes n Is item = record { fewer = one_shrinks n Is item }

pub takes_by : {T : Type 0} (R : T → Reading) → Shrinks R → (x : T) → Takes (R x)
takes_by R less x = record { fewer = less x }

pub maybe_stays : {T : Type 0} (R : T → Reading) → Shrinks R → (x : Option T) → Stays (reading.maybe R x)
maybe_stays R less None = record { no_more = λ ts us r. subst (λ k. length k ≤ length ts) (sym r) (all_fit (length ts)) }
maybe_stays R less (Some x) = some (takes_by R less x)

pub in_turn_stays : {T : Type 0} (R : T → Reading) → Shrinks R → (xs : List T) → Stays (reading.in_turn R xs)
in_turn_stays R less [] = record { no_more = λ ts us r. subst (λ k. length k ≤ length ts) (sym r) (all_fit (length ts)) }
in_turn_stays R less (x ∷ xs) = both_stay (some (takes_by R less x)) (in_turn_stays R less xs)

there_takes : {T : Type 0} (R : T → Reading) → Shrinks R → (x : Option T) → Takes (reading.there R x)
there_takes R less x = record { fewer = there_shrinks R less x }

pub separated_stays : {T : Type 0} (Q : Item → Reading) (R : T → Reading) → Shrinks Q → Shrinks R → (xs : List (Listed T)) → Stays (reading.separated Q R xs)
separated_stays Q R few less [] = record { no_more = λ ts us r. subst (λ k. length k ≤ length ts) (sym r) (all_fit (length ts)) }
separated_stays Q R few less (x ∷ []) = some (given_takes (takes_by R less x.part))
separated_stays Q R few less (x ∷ (y ∷ xs)) = both_stay (some (takes_by R less x.part)) (both_stay (some (there_takes Q few x.separator)) (separated_stays Q R few less (y ∷ xs)))
