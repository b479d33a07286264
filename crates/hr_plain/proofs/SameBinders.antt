-- In the target of a renaming each name is bound to the lexeme that it was bound to.
use Rattle.std.proofs.Common.{◌≡◌, ℕ, ◌+◌, suc, Bool, true, false, ◌||◌, nat_eq, if◌then◌else◌, Option, Some, None, List, [], ◌∷◌, ◌++◌, length, map, refl, sym, ap, ap₂, ◌∙◌, true≢false, length-append}
use Rattle.std.specs.List.{flat_map, list_any}
use Rattle.std.specs.Option.{option_or}
use Rattle.std.specs.Cmp.Lexicographic.{pointwise}
use Rattle.hr_base.specs.declared.lexeme.Item.{Item}
use Rattle.hr_plain_tree.specs.declared.tree.Equation.{Equation}
use Rattle.hr_plain_tree.specs.Yields.{equation_items, yield_of}
use Rattle.hr_plain.specs.declared.binding.Owner.{Owner}
use Rattle.hr_plain.specs.Scoping.{binds, is_named, is_same_owner, owner_in}
use Rattle.hr_plain.specs.Binders.{binder_of, binders_from, defined_from, equation_binders, named_from}
use Rattle.hr_plain.specs.Renaming.{is_spelled}
use Rattle.hr_plain.proofs.Turned.{turned, binder_turned, binders_turned, each_turns_either_way, length_turned, named_from-turned, named_turned, neither_left, neither_right, none_left, none_right, same_text, unmoved}
use Rattle.hr_plain.proofs.TargetTree.{EquationTurns, EachEquationTurns}

-- a name that may be bound in two places means what it meant, where the first place binds it or both turn
-- it alike
pub through : {A B C : Type 0} (join : A → B → C) (own own' : List ℕ → A) (top top' : List ℕ → B) (new old t : List ℕ) (p q b w : Bool)
    → (w ≡ true → b ≡ p) → (w ≡ false → b ≡ q)
    → own' (turned new old p t) ≡ own t → (w ≡ false → own' (turned new old q t) ≡ own t) → top' (turned new old q t) ≡ top t
    → (w ≡ true → t ≡ old → (x y : B) → join (own t) x ≡ join (own t) y)
    → join (own' (turned new old b t)) (top' (turned new old b t)) ≡ join (own t) (top t)
through {A} {B} {C} join own own' top top' new old t p q b w bp bq f fq g absorbs = by (pointwise nat_eq t old) w refl refl
  where
    by : (v x : Bool) → pointwise nat_eq t old ≡ v → w ≡ x → join (own' (turned new old b t)) (top' (turned new old b t)) ≡ join (own t) (top t)
    by false x v e =
        ap₂ join (ap own' (unmoved new old b t v ∙ sym (unmoved new old p t v)) ∙ f) (ap top' (unmoved new old b t v ∙ sym (unmoved new old q t v)) ∙ g)
    by true true v e =
        ap (λ s. join (own' (turned new old s t)) (top' (turned new old b t))) (bp e)
        ∙ ap (λ a. join a (top' (turned new old b t))) f
        ∙ absorbs e (same_text t old v) (top' (turned new old b t)) (top t)
    by true false v e =
        ap (λ s. join (own' (turned new old s t)) (top' (turned new old s t))) (bq e) ∙ ap₂ join (fq e) g

pub binds_is : (x : Equation) (t : List ℕ) → binds x t ≡ list_any (is_named t) x.patterns
unfolding binds
binds_is x t = refl

-- the owner of a name in a body is the equation where it binds it
pub owner_own : (owner : Owner) (number : ℕ) (x : Equation) (old : List ℕ) → list_any (is_named old) x.patterns ≡ true
    → is_same_owner (owner_in number x old) owner ≡ is_same_owner (Owner.Equation number) owner
owner_own owner number x old e = ap (λ b. is_same_owner (if b then Owner.Equation number else Owner.TopLevel) owner) (binds_is x old ∙ e)

pub owner_top : (owner : Owner) (number : ℕ) (x : Equation) (old : List ℕ) → list_any (is_named old) x.patterns ≡ false
    → is_same_owner (owner_in number x old) owner ≡ is_same_owner Owner.TopLevel owner
owner_top owner number x old e = ap (λ b. is_same_owner (if b then Owner.Equation number else Owner.TopLevel) owner) (binds_is x old ∙ e)

-- where a pattern is named by the text, what else binds it is of no account
found_first : (t : List ℕ) (xs : List Item) (n : ℕ) → list_any (is_named t) xs ≡ true → (a b : Option ℕ) → option_or (named_from t n xs) a ≡ option_or (named_from t n xs) b
found_first t [] n e a b = absurd (true≢false (sym e))
found_first t (x ∷ xs) n e a b = by (is_named t x) refl (found_first t xs (n + 1))
  where
    by : (v : Bool) → is_named t x ≡ v → (list_any (is_named t) xs ≡ true → (a b : Option ℕ) → option_or (named_from t (n + 1) xs) a ≡ option_or (named_from t (n + 1) xs) b)
        → option_or (named_from t n (x ∷ xs)) a ≡ option_or (named_from t n (x ∷ xs)) b
    by true v more =
        ap (λ z. option_or (if z then Some n else named_from t (n + 1) xs) a) v ∙ sym (ap (λ z. option_or (if z then Some n else named_from t (n + 1) xs) b) v)
    by false v more =
        ap (λ z. option_or (if z then Some n else named_from t (n + 1) xs) a) v
        ∙ more (sym (ap (λ z. z || list_any (is_named t) xs) v) ∙ e) a b
        ∙ sym (ap (λ z. option_or (if z then Some n else named_from t (n + 1) xs) b) v)

module _ (new old : List ℕ) where
  pub fresh_name : (x : Equation) → is_spelled new (equation_items x) ≡ false → pointwise nat_eq x.name.lexeme.text new ≡ false
  fresh_name x e = neither_left (pointwise nat_eq x.name.lexeme.text new) (is_spelled new (x.patterns ++ (x.equals ∷ yield_of x.body))) e

  behind_name : (x : Equation) → is_spelled new (equation_items x) ≡ false → is_spelled new (x.patterns ++ (x.equals ∷ yield_of x.body)) ≡ false
  behind_name x e = neither_right (pointwise nat_eq x.name.lexeme.text new) (is_spelled new (x.patterns ++ (x.equals ∷ yield_of x.body))) e

  pub fresh_patterns : (x : Equation) → is_spelled new (equation_items x) ≡ false → is_spelled new x.patterns ≡ false
  fresh_patterns x e = none_left (λ i. pointwise nat_eq i.lexeme.text new) x.patterns (x.equals ∷ yield_of x.body) (behind_name x e)

  pub fresh_body : (x : Equation) → is_spelled new (equation_items x) ≡ false → is_spelled new (yield_of x.body) ≡ false
  fresh_body x e =
      neither_right (pointwise nat_eq x.equals.lexeme.text new) (is_spelled new (yield_of x.body))
      (none_right (λ i. pointwise nat_eq i.lexeme.text new) x.patterns (x.equals ∷ yield_of x.body) (behind_name x e))

  pub fresh_first : (x : Equation) (xs : List Equation) → is_spelled new (flat_map equation_items (x ∷ xs)) ≡ false → is_spelled new (equation_items x) ≡ false
  fresh_first x xs e = none_left (λ i. pointwise nat_eq i.lexeme.text new) (equation_items x) (flat_map equation_items xs) e

  pub fresh_rest : (x : Equation) (xs : List Equation) → is_spelled new (flat_map equation_items (x ∷ xs)) ≡ false → is_spelled new (flat_map equation_items xs) ≡ false
  fresh_rest x xs e = none_right (λ i. pointwise nat_eq i.lexeme.text new) (equation_items x) (flat_map equation_items xs) e

  pub equation_long : (owner : Owner) (number : ℕ) (x y : Equation) → EquationTurns new old owner number x y → length (equation_items y) ≡ length (equation_items x)
  equation_long owner number x y r =
      ap suc
      (length-append y.patterns (y.equals ∷ yield_of y.body)
      ∙ ap₂ (λ a b. a + suc b) (length_turned new old (is_same_owner (Owner.Equation number) owner) x.patterns y.patterns r.patterns)
      (length_turned new old (is_same_owner (owner_in number x old) owner) (yield_of x.body) (yield_of y.body) r.body)
      ∙ sym (length-append x.patterns (x.equals ∷ yield_of x.body)))

  defined_turned : (owner : Owner) (number : ℕ) (xs ys : List Equation) → EachEquationTurns new old owner number xs ys → is_spelled new (flat_map equation_items xs) ≡ false
      → (t : List ℕ) → pointwise nat_eq t new ≡ false → (lexeme : ℕ) → defined_from (turned new old (is_same_owner Owner.TopLevel owner) t) lexeme ys ≡ defined_from t lexeme xs
  defined_turned owner number [] [] r fresh t n lexeme = refl
  defined_turned owner number [] (y ∷ ys) r fresh t n lexeme = absurd r
  defined_turned owner number (x ∷ xs) [] r fresh t n lexeme = absurd r
  defined_turned owner number (x ∷ xs) (y ∷ ys) r fresh t n lexeme =
      let top : Bool = is_same_owner Owner.TopLevel owner in
      ap₂ (λ (b : Bool) (k : ℕ). if b then Some lexeme else defined_from (turned new old top t) (lexeme + k) ys)
      (named_turned new old top x.name y.name r.0.name (fresh_name x (fresh_first x xs fresh)) t n)
      (equation_long owner number x y r.0)
      ∙ ap (λ o. if is_named t x.name then Some lexeme else o)
      (defined_turned owner (suc number) xs ys r.1 (fresh_rest x xs fresh) t n (lexeme + length (equation_items x)))

  -- what a name in a body is bound to
  body_bound : (owner : Owner) (number : ℕ) (x y : Equation) (defined defined' : List ℕ → Option ℕ) (lexeme : ℕ) → EquationTurns new old owner number x y
      → is_spelled new (equation_items x) ≡ false
      → ((t : List ℕ) → pointwise nat_eq t new ≡ false → defined' (turned new old (is_same_owner Owner.TopLevel owner) t) ≡ defined t)
      → (t : List ℕ) → pointwise nat_eq t new ≡ false
      → option_or (named_from (turned new old (is_same_owner (owner_in number x old) owner) t) (lexeme + 1) y.patterns) (defined' (turned new old (is_same_owner (owner_in number x old) owner) t))
      ≡ option_or (named_from t (lexeme + 1) x.patterns) (defined t)
  body_bound owner number x y defined defined' lexeme r fresh same t n =
      let own : Bool = is_same_owner (Owner.Equation number) owner in
      let top : Bool = is_same_owner Owner.TopLevel owner in
      through option_or (λ t. named_from t (lexeme + 1) x.patterns) (λ t. named_from t (lexeme + 1) y.patterns) defined defined' new old t own top
      (is_same_owner (owner_in number x old) owner) (list_any (is_named old) x.patterns)
      (owner_own owner number x old) (owner_top owner number x old)
      (named_from-turned new old own x.patterns y.patterns r.patterns (fresh_patterns x fresh) t n (lexeme + 1))
      (λ e. named_from-turned new old top x.patterns y.patterns (each_turns_either_way new old own top x.patterns y.patterns r.patterns e) (fresh_patterns x fresh) t n (lexeme + 1))
      (same t n)
      (λ e is. found_first t x.patterns (lexeme + 1) (ap (λ z. list_any (is_named z) x.patterns) is ∙ e))

  equation_bound : (owner : Owner) (number : ℕ) (x y : Equation) (defined defined' : List ℕ → Option ℕ) (lexeme : ℕ) → EquationTurns new old owner number x y
      → is_spelled new (equation_items x) ≡ false
      → ((t : List ℕ) → pointwise nat_eq t new ≡ false → defined' (turned new old (is_same_owner Owner.TopLevel owner) t) ≡ defined t)
      → equation_binders defined' lexeme y ≡ equation_binders defined lexeme x
  equation_bound owner number x y defined defined' lexeme r fresh same =
      let own : Bool = is_same_owner (Owner.Equation number) owner in
      let top : Bool = is_same_owner Owner.TopLevel owner in
      let inner : Bool = is_same_owner (owner_in number x old) owner in
      let name : binder_of defined' y.name ≡ binder_of defined x.name =
      binder_turned new old top x.name y.name defined defined' r.name (same x.name.lexeme.text (fresh_name x fresh)) in
      let patterns : map (binder_of (λ t. named_from t (lexeme + 1) y.patterns)) y.patterns ≡ map (binder_of (λ t. named_from t (lexeme + 1) x.patterns)) x.patterns =
      binders_turned new old own x.patterns y.patterns (λ t. named_from t (lexeme + 1) x.patterns) (λ t. named_from t (lexeme + 1) y.patterns) r.patterns (fresh_patterns x fresh)
      (λ t n. named_from-turned new old own x.patterns y.patterns r.patterns (fresh_patterns x fresh) t n (lexeme + 1)) in
      let body : map (binder_of (λ t. option_or (named_from t (lexeme + 1) y.patterns) (defined' t))) (yield_of y.body)
      ≡ map (binder_of (λ t. option_or (named_from t (lexeme + 1) x.patterns) (defined t))) (yield_of x.body) =
      binders_turned new old inner (yield_of x.body) (yield_of y.body) (λ t. option_or (named_from t (lexeme + 1) x.patterns) (defined t)) (λ t. option_or (named_from t (lexeme + 1) y.patterns) (defined' t)) r.body (fresh_body x fresh)
      (body_bound owner number x y defined defined' lexeme r fresh same) in
      ap₂ (λ (a : Option ℕ) (b : List (Option ℕ)). a ∷ b) name (ap₂ (λ (a b : List (Option ℕ)). a ++ (None ∷ b)) patterns body)

  binders_bound : (owner : Owner) (number : ℕ) (xs ys : List Equation) (defined defined' : List ℕ → Option ℕ) (lexeme : ℕ) → EachEquationTurns new old owner number xs ys
      → is_spelled new (flat_map equation_items xs) ≡ false
      → ((t : List ℕ) → pointwise nat_eq t new ≡ false → defined' (turned new old (is_same_owner Owner.TopLevel owner) t) ≡ defined t)
      → binders_from defined' lexeme ys ≡ binders_from defined lexeme xs
  binders_bound owner number [] [] defined defined' lexeme r fresh same = refl
  binders_bound owner number [] (y ∷ ys) defined defined' lexeme r fresh same = absurd r
  binders_bound owner number (x ∷ xs) [] defined defined' lexeme r fresh same = absurd r
  binders_bound owner number (x ∷ xs) (y ∷ ys) defined defined' lexeme r fresh same =
      ap₂ (λ (a : List (Option ℕ)) (k : ℕ). a ++ binders_from defined' (lexeme + k) ys)
      (equation_bound owner number x y defined defined' lexeme r.0 (fresh_first x xs fresh) same) (equation_long owner number x y r.0)
      ∙ ap (λ l. equation_binders defined lexeme x ++ l)
      (binders_bound owner (suc number) xs ys defined defined' (lexeme + length (equation_items x)) r.1 (fresh_rest x xs fresh) same)

  -- the binders of the equations of the target are those of the equations that they come from
  pub binders_stay : (owner : Owner) (xs ys : List Equation) → EachEquationTurns new old owner 0 xs ys → is_spelled new (flat_map equation_items xs) ≡ false
      → binders_from (λ t. defined_from t 0 ys) 0 ys ≡ binders_from (λ t. defined_from t 0 xs) 0 xs
  binders_stay owner xs ys r fresh =
      binders_bound owner 0 xs ys (λ t. defined_from t 0 xs) (λ t. defined_from t 0 ys) 0 r fresh
      (λ t n. defined_turned owner 0 xs ys r fresh t n 0)
