-- Deep trees, and the place where none goes on.
use Rattle.std.proofs.Common.{◌≡◌, ◌⊎◌, ◌<◌, ◌≤◌, ℕ, zero, suc, List, [], ◌∷◌, ◌++◌, length, take, refl, ap, ◌∙◌, arith, inl, inr}
use Rattle.std.proofs.lemmas.Bool.{cases_order}
use Rattle.hr_base.specs.declared.lexeme.Item.{Item}
use Rattle.hr_grammar.specs.Deep.{CanGoOn, IsStuckAt, StuckAtOnePlace, WithinIsDeep}
use Rattle.hr_grammar.specs.Yields.{nesting_limit}

pub within_is_deep_lem : WithinIsDeep
within_is_deep_lem tree items yields stands = record {
  deep = record { grammar = (nesting_limit, yields.grammar); offside = stands };
  items_are = yields.items_are;
}

append_assoc : {A : Type 0} (xs ys zs : List A) → (xs ++ ys) ++ zs ≡ xs ++ (ys ++ zs)
append_assoc [] ys zs = refl
append_assoc (x ∷ xs) ys zs = ap (λ l. x ∷ l) (append_assoc xs ys zs)

-- the first items are a beginning of the first more items
beginning : {A : Type 0} (few many : ℕ) (xs : List A) → few ≤ many → (rest : List A) × (take many xs ≡ take few xs ++ rest)
beginning zero many xs h = (take many xs, refl)
beginning (suc few) zero xs h = let no : ⊥ = omega arith in elim no [ ]
beginning (suc few) (suc many) [] h = ([], refl)
beginning (suc few) (suc many) (x ∷ xs) h = let rest = beginning few many xs (omega arith) in (rest.0, ap (λ l. x ∷ l) rest.1)

-- so a deep tree that begins with these begins with those
earlier : (few many : ℕ) (items : List Item) → few ≤ many → CanGoOn (take many items) → CanGoOn (take few items)
earlier few many items h on =
    let rest = beginning few many items h in
    (on.0, on.1, (rest.0 ++ on.2.0, on.2.1 ∙ ap (λ l. l ++ on.2.0) rest.1 ∙ append_assoc (take few items) rest.0 on.2.0))

not_before : (items : List Item) (first second : ℕ) → IsStuckAt items first → IsStuckAt items second → first < second → ⊥
not_before items first second a b h =
    a.at_lexeme (let within : second ≤ length items = b.within in omega arith) (earlier (suc first) second items (omega arith) b.before)

pub stuck_at_one_place_lem : StuckAtOnePlace
stuck_at_one_place_lem items first second a b = by (cases_order first second)
  where
    by : (first ≡ second) ⊎ ((first < second) ⊎ (second < first)) → first ≡ second
    by (inl e) = e
    by (inr (inl h)) = elim (not_before items first second a b h) [ ]
    by (inr (inr h)) = elim (not_before items second first b a h) [ ]
