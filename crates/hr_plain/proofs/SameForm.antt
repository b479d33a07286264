-- The target of a renaming in a module of the plain form is of the plain form.
use Rattle.std.proofs.Common.{◌≡◌, ℕ, ◌+◌, suc, Bool, true, false, not, ◌&&◌, ◌||◌, nat_eq, nat_le, None, List, [], ◌∷◌, ◌++◌, length, map, All, refl, sym, ap, ap₂, ◌∙◌, subst, true≢false, arith, length-append}
use Rattle.std.specs.List.{flat_map, list_all, list_any, last_or, IsDistinct}
use Rattle.std.specs.Cmp.Lexicographic.{pointwise}
use Rattle.std.proofs.lemmas.List.Elements.{All-nil, All-cons, All-head, All-tail, All-map, All-weaker}
use Rattle.hr_base.specs.declared.lexeme.Item.{Item}
use Rattle.hr_plain_tree.specs.declared.tree.Equation.{Equation}
use Rattle.hr_plain_tree.specs.declared.tree.Module.{Module}
use Rattle.hr_plain_tree.specs.Yields.{equation_items, height_of, module_items, yield_of}
use Rattle.hr_plain.specs.declared.binding.Owner.{Owner}
use Rattle.hr_plain.specs.Scoping.{binds, is_named, is_same_owner, is_variable, owner_in}
use Rattle.hr_plain.specs.Renaming.{is_spelled}
use Rattle.hr_plain.specs.Target.{AllRespell, IsParted, Respells}
use Rattle.hr_plain.specs.Target.AllRespell.{none, more}
use Rattle.hr_plain.specs.Target.IsParted.{first, kept, apart, put}
use Rattle.hr_plain.specs.Form.{AreTogether, IsForm, IsScoped, defined_by, ends_line, greatest_height, is_ascii_text, is_at_margin, is_bound, is_equation, is_integer, is_mark, is_pattern, is_plain_trivia, is_plain_trivia_where, is_plain_variable, is_same_text, margins_where, shape_of, starts_of, variables_in}
use Rattle.hr_plain.proofs.Turned.{turned, Turns, EachTurns, among_turned, any_named-turned, distinct_turned, each_turns_either_way, fresh_variables, is_itself, length_turned, neither_left, neither_right, none_right, same_text, same_turned, text_of_variable, variable_stays, variables_turned}
use Rattle.hr_plain.proofs.Refilled.{both, both_left, both_right, integer_turned, plain_turned}
use Rattle.hr_plain.proofs.TargetTree.{EquationTurns, EachEquationTurns}
use Rattle.hr_plain.proofs.SameBinders.{binds_is, fresh_body, fresh_first, fresh_name, fresh_patterns, fresh_rest, owner_own, owner_top, through}

-- what stands between lexemes

parted_margin : {new before t u : List ℕ} → IsParted new before t u → (is_first : Bool) → (is_first ≡ true → before ≡ []) → ends_line is_first (last_or None u) ≡ ends_line is_first (last_or None t)
parted_margin (first old) is_first h = refl
parted_margin (kept before c old) is_first h = refl
parted_margin (apart before a) is_first h = refl
parted_margin (put c before a) true h = absurd (let e : c ∷ before ≡ [] = h refl in cc)
parted_margin (put c before a) false h = refl

margin_stays : (new before : List ℕ) (mark : Bool) (x y : Item) (is_first : Bool) → (is_first ≡ true → before ≡ []) → Respells new mark before x y → is_at_margin is_first y ≡ is_at_margin is_first x
margin_stays new before false x y is_first h r = ap (is_at_margin is_first) r
margin_stays new before true x y is_first h r = parted_margin r.1 is_first h

-- lexemes stand at the margin where they stood there
pub margins_stay : {new before : List ℕ} {marks : List Bool} {xs ys : List Item} → AllRespell new before marks xs ys → (is_first : Bool) → (is_first ≡ true → before ≡ [])
    → margins_where is_first ys ≡ margins_where is_first xs
margins_stay (none before) is_first h = refl
margins_stay {new} (more before mark marks x y xs ys r rest) is_first h =
    ap₂ (λ (a : Bool) (b : List Bool). a ∷ b) (margin_stays new before mark x y is_first h r) (margins_stay rest false (λ e. absurd (true≢false (sym e))))

parted_plain : {new before t u : List ℕ} → IsParted new before t u → is_plain_trivia t ≡ true → is_plain_trivia u ≡ true
unfolding is_plain_trivia_where
parted_plain (first old) e = e
parted_plain (kept before c old) e = e
parted_plain (apart before a) e = e
parted_plain (put c before a) e = refl

plain_stays : (new before : List ℕ) (mark : Bool) (x y : Item) → Respells new mark before x y → is_plain_trivia x.trivia ≡ true → is_plain_trivia y.trivia ≡ true
plain_stays new before false x y r e = ap (λ i. is_plain_trivia i.trivia) r ∙ e
plain_stays new before true x y r e = parted_plain r.1 e

-- what stands before them is plain where it was
pub trivia_stay : {new before : List ℕ} {marks : List Bool} {xs ys : List Item} → AllRespell new before marks xs ys → All (λ item. is_plain_trivia item.trivia ≡ true) xs
    → All (λ item. is_plain_trivia item.trivia ≡ true) ys
trivia_stay (none before) e = e
trivia_stay {new} (more before mark marks x y xs ys r rest) e =
    All-cons (λ item. is_plain_trivia item.trivia ≡ true) y ys
    (plain_stays new before mark x y r (All-head (λ item. is_plain_trivia item.trivia ≡ true) x xs e))
    (trivia_stay rest (All-tail (λ item. is_plain_trivia item.trivia ≡ true) x xs e))

-- lists of as many elements

falses : {X : Type 0} (xs ys : List X) → length xs ≡ length ys → map (λ x. false) xs ≡ map (λ x. false) ys
falses [] [] e = refl
falses [] (y ∷ ys) e = absurd (omega (arith, e))
falses (x ∷ xs) [] e = absurd (omega (arith, e))
falses (x ∷ xs) (y ∷ ys) e = ap (λ l. false ∷ l) (falses xs ys (omega (arith, e)))

either_right : (a b : Bool) → b ≡ true → (a || b) ≡ true
either_right true b e = refl
either_right false b e = e

-- a list of which each element is changed, split

pub record Split {X Y : Type 0} (f : X → Y) (xs : List X) (before : List Y) (name : Y) (rest : List Y) : Type 0 where
  pub front : List X
  pub here : X
  pub back : List X
  pub is : xs ≡ front ++ (here ∷ back)
  pub front_is : map f front ≡ before
  pub here_is : f here ≡ name
  pub back_is : map f back ≡ rest

one_before : {X Y : Type 0} (f : X → Y) (x : X) (xs : List X) (b : Y) (before : List Y) (name : Y) (rest : List Y) → f x ≡ b → Split f xs before name rest → Split f (x ∷ xs) (b ∷ before) name rest
one_before f x xs b before name rest same s = record {
  front = x ∷ s.front;
  here = s.here;
  back = s.back;
  is = ap (λ l. x ∷ l) s.is;
  front_is = ap₂ (λ a l. a ∷ l) same s.front_is;
  here_is = s.here_is;
  back_is = s.back_is;
}

split : {X Y : Type 0} (f : X → Y) (xs : List X) (before : List Y) (name : Y) (rest : List Y) → map f xs ≡ before ++ (name ∷ rest) → Split f xs before name rest
split f [] [] name rest e = absurd cc
split f [] (b ∷ before) name rest e = absurd cc
split f (x ∷ xs) [] name rest e = record { front = []; here = x; back = xs; is = refl; front_is = refl; here_is = cc; back_is = cc }
split f (x ∷ xs) (b ∷ before) name rest e =
    let same : f x ≡ b = cc in
    let tail : map f xs ≡ before ++ (name ∷ rest) = cc in
    one_before f x xs b before name rest same (split f xs before name rest tail)

module _ (new old : List ℕ) where
  -- one that stands there in a list of which none is new is not
  here_fresh : (ts front back : List (List ℕ)) (here : List ℕ) → ts ≡ front ++ (here ∷ back) → list_any (λ t. pointwise nat_eq t new) ts ≡ false
      → (pointwise nat_eq here new ≡ false) × (list_any (λ t. pointwise nat_eq t new) back ≡ false)
  here_fresh ts front back here e fresh =
      let rest : list_any (λ t. pointwise nat_eq t new) (here ∷ back) ≡ false =
      none_right (λ t. pointwise nat_eq t new) front (here ∷ back) (sym (ap (list_any (λ t. pointwise nat_eq t new)) e) ∙ fresh) in (
        neither_left (pointwise nat_eq here new) (list_any (λ t. pointwise nat_eq t new) back) rest,
        neither_right (pointwise nat_eq here new) (list_any (λ t. pointwise nat_eq t new) back) rest,
      )

  apart_were : (sought : Bool) (t u : List ℕ) → pointwise nat_eq t new ≡ false → pointwise nat_eq u new ≡ false → turned new old sought t ≡ turned new old sought u → t ≡ u
  apart_were sought t u n m e =
      same_text t u (sym (same_turned new old sought t u n m) ∙ ap (pointwise nat_eq (turned new old sought t)) (sym e) ∙ is_itself (turned new old sought t))

  -- equal names stay next to one another
  pub together_turned : (sought : Bool) (ts : List (List ℕ)) → list_any (λ t. pointwise nat_eq t new) ts ≡ false → AreTogether ts → AreTogether (map (turned new old sought) ts)
  together_turned sought ts fresh t before between after name e =
      let f : List ℕ → List ℕ = turned new old sought in
      let s = split f ts before name (between ++ (name ∷ after)) e in
      let u = split f s.back between name after s.back_is in
      let n = here_fresh ts s.front s.back s.here s.is fresh in
      let m = here_fresh s.back u.front u.back u.here u.is n.1 in
      let same : u.here ≡ s.here = apart_were sought u.here s.here m.0 n.0 (u.here_is ∙ sym s.here_is) in
      let whole : ts ≡ s.front ++ (s.here ∷ (u.front ++ (s.here ∷ u.back))) =
      s.is ∙ ap (λ l. s.front ++ (s.here ∷ l)) (u.is ∙ ap (λ h. u.front ++ (h ∷ u.back)) same) in
      subst (All (λ other. other ≡ name)) u.front_is
      (All-map (λ other. other ≡ name) f u.front
      (All-weaker (λ other. other ≡ s.here) (λ other. f other ≡ name) (λ other h. ap f h ∙ s.here_is) u.front (t s.front u.front u.back s.here whole)))

  -- an equation

  pattern_turned : (sought : Bool) (x y : Item) → Turns new old sought x y → is_ascii_text new ≡ true → is_pattern x ≡ true → is_pattern y ≡ true
  pattern_turned sought x y r n e = by (is_plain_variable x) refl
    where
      by : (v : Bool) → is_plain_variable x ≡ v → is_pattern y ≡ true
      by true v = ap (λ b. b || is_integer y) (plain_turned new old sought x y r n v)
      by false v = either_right (is_plain_variable y) (is_integer y) (integer_turned new old sought x y r (sym (ap (λ b. b || is_integer x) v) ∙ e))

  patterns_turned : (sought : Bool) (xs ys : List Item) → EachTurns new old sought xs ys → is_ascii_text new ≡ true → list_all is_pattern xs ≡ true → list_all is_pattern ys ≡ true
  patterns_turned sought [] [] r n e = refl
  patterns_turned sought [] (y ∷ ys) r n e = absurd r
  patterns_turned sought (x ∷ xs) [] r n e = absurd r
  patterns_turned sought (x ∷ xs) (y ∷ ys) r n e =
      both (is_pattern y) (list_all is_pattern ys) (pattern_turned sought x y r.0 n (both_left (is_pattern x) (list_all is_pattern xs) e))
      (patterns_turned sought xs ys r.1 n (both_right (is_pattern x) (list_all is_pattern xs) e))

  equation_turned : (owner : Owner) (number : ℕ) (x y : Equation) → EquationTurns new old owner number x y → is_ascii_text new ≡ true → is_equation x ≡ true → is_equation y ≡ true
  equation_turned owner number x y r n e =
      let front : Equation → Bool = λ q. (is_plain_variable q.name && list_all is_pattern q.patterns) && is_mark 61 q.equals in
      let back : Equation → Bool = λ q. (shape_of q.body).is_form && nat_le (height_of q.body) greatest_height in
      let left : front x ≡ true = both_left (front x) (back x) e in
      let right : back x ≡ true = both_right (front x) (back x) e in
      let names : (is_plain_variable x.name && list_all is_pattern x.patterns) ≡ true = both_left (is_plain_variable x.name && list_all is_pattern x.patterns) (is_mark 61 x.equals) left in
      both (front y) (back y)
      (both (is_plain_variable y.name && list_all is_pattern y.patterns) (is_mark 61 y.equals)
      (both (is_plain_variable y.name) (list_all is_pattern y.patterns)
      (plain_turned new old (is_same_owner Owner.TopLevel owner) x.name y.name r.name n (both_left (is_plain_variable x.name) (list_all is_pattern x.patterns) names))
      (patterns_turned (is_same_owner (Owner.Equation number) owner) x.patterns y.patterns r.patterns n (both_right (is_plain_variable x.name) (list_all is_pattern x.patterns) names)))
      (ap (is_mark 61) r.equals ∙ both_right (is_plain_variable x.name && list_all is_pattern x.patterns) (is_mark 61 x.equals) left))
      (both (shape_of y.body).is_form (nat_le (height_of y.body) greatest_height)
      (r.kept.form n (both_left (shape_of x.body).is_form (nat_le (height_of x.body) greatest_height) right))
      (ap (λ h. nat_le h greatest_height) r.kept.height ∙ both_right (shape_of x.body).is_form (nat_le (height_of x.body) greatest_height) right))

  equations_turned : (owner : Owner) (number : ℕ) (xs ys : List Equation) → EachEquationTurns new old owner number xs ys → is_ascii_text new ≡ true
      → All (λ equation. is_equation equation ≡ true) xs → All (λ equation. is_equation equation ≡ true) ys
  equations_turned owner number [] [] r n e = e
  equations_turned owner number [] (y ∷ ys) r n e = absurd r
  equations_turned owner number (x ∷ xs) [] r n e = absurd r
  equations_turned owner number (x ∷ xs) (y ∷ ys) r n e =
      All-cons (λ equation. is_equation equation ≡ true) y ys
      (equation_turned owner number x y r.0 n (All-head (λ equation. is_equation equation ≡ true) x xs e))
      (equations_turned owner (suc number) xs ys r.1 n (All-tail (λ equation. is_equation equation ≡ true) x xs e))

  starts_turned : (owner : Owner) (number : ℕ) (xs ys : List Equation) → EachEquationTurns new old owner number xs ys → starts_of ys ≡ starts_of xs
  starts_turned owner number [] [] r = refl
  starts_turned owner number [] (y ∷ ys) r = absurd r
  starts_turned owner number (x ∷ xs) [] r = absurd r
  starts_turned owner number (x ∷ xs) (y ∷ ys) r =
      let long : length (y.patterns ++ (y.equals ∷ yield_of y.body)) ≡ length (x.patterns ++ (x.equals ∷ yield_of x.body)) =
      length-append y.patterns (y.equals ∷ yield_of y.body)
      ∙ ap₂ (λ a b. a + suc b) (length_turned new old (is_same_owner (Owner.Equation number) owner) x.patterns y.patterns r.0.patterns)
      (length_turned new old (is_same_owner (owner_in number x old) owner) (yield_of x.body) (yield_of y.body) r.0.body)
      ∙ sym (length-append x.patterns (x.equals ∷ yield_of x.body)) in
      ap₂ (λ (a b : List Bool). (true ∷ a) ++ b) (falses (y.patterns ++ (y.equals ∷ yield_of y.body)) (x.patterns ++ (x.equals ∷ yield_of x.body)) long)
      (starts_turned owner (suc number) xs ys r.1)

  -- the names that equations define

  variable_named : (x : Equation) → is_equation x ≡ true → is_variable x.name ≡ true
  variable_named x e =
      let front : Bool = (is_plain_variable x.name && list_all is_pattern x.patterns) && is_mark 61 x.equals in
      let back : Bool = (shape_of x.body).is_form && nat_le (height_of x.body) greatest_height in
      both_left (is_variable x.name) (is_ascii_text x.name.lexeme.text)
      (both_left (is_plain_variable x.name) (list_all is_pattern x.patterns)
      (both_left (is_plain_variable x.name && list_all is_pattern x.patterns) (is_mark 61 x.equals) (both_left front back e)))

  names_turned : (owner : Owner) (number : ℕ) (xs ys : List Equation) → EachEquationTurns new old owner number xs ys → All (λ equation. is_equation equation ≡ true) xs
      → defined_by ys ≡ map (turned new old (is_same_owner Owner.TopLevel owner)) (defined_by xs)
  names_turned owner number [] [] r e = refl
  names_turned owner number [] (y ∷ ys) r e = absurd r
  names_turned owner number (x ∷ xs) [] r e = absurd r
  names_turned owner number (x ∷ xs) (y ∷ ys) r e =
      ap₂ (λ (a : List ℕ) (b : List (List ℕ)). a ∷ b)
      (text_of_variable new old (is_same_owner Owner.TopLevel owner) x.name y.name r.0.name (variable_named x (All-head (λ equation. is_equation equation ≡ true) x xs e)))
      (names_turned owner (suc number) xs ys r.1 (All-tail (λ equation. is_equation equation ≡ true) x xs e))

  fresh_names : (xs : List Equation) → is_spelled new (flat_map equation_items xs) ≡ false → list_any (λ t. pointwise nat_eq t new) (defined_by xs) ≡ false
  fresh_names [] e = refl
  fresh_names (x ∷ xs) e =
      ap₂ (λ a b. a || b) (fresh_name new old x (fresh_first new old x xs e)) (fresh_names xs (fresh_rest new old x xs e))

  distinct_patterns : (owner : Owner) (number : ℕ) (xs ys : List Equation) → EachEquationTurns new old owner number xs ys → is_spelled new (flat_map equation_items xs) ≡ false
      → All (λ equation. IsDistinct is_same_text (variables_in equation.patterns)) xs → All (λ equation. IsDistinct is_same_text (variables_in equation.patterns)) ys
  distinct_patterns owner number [] [] r fresh e = e
  distinct_patterns owner number [] (y ∷ ys) r fresh e = absurd r
  distinct_patterns owner number (x ∷ xs) [] r fresh e = absurd r
  distinct_patterns owner number (x ∷ xs) (y ∷ ys) r fresh e =
      let own : Bool = is_same_owner (Owner.Equation number) owner in
      All-cons (λ equation. IsDistinct is_same_text (variables_in equation.patterns)) y ys
      (subst (IsDistinct is_same_text) (sym (variables_turned new old own x.patterns y.patterns r.0.patterns))
      (distinct_turned new old own (variables_in x.patterns) (fresh_variables new old x.patterns (fresh_patterns new old x (fresh_first new old x xs fresh)))
      (All-head (λ equation. IsDistinct is_same_text (variables_in equation.patterns)) x xs e)))
      (distinct_patterns owner (suc number) xs ys r.1 (fresh_rest new old x xs fresh) (All-tail (λ equation. IsDistinct is_same_text (variables_in equation.patterns)) x xs e))

  -- the names in a body

  module _ (owner : Owner) (defined defined' : List (List ℕ))
      (are : (t : List ℕ) → pointwise nat_eq t new ≡ false → list_any (is_same_text (turned new old (is_same_owner Owner.TopLevel owner) t)) defined' ≡ list_any (is_same_text t) defined) where
    text_bound : (number : ℕ) (x y : Equation) → EquationTurns new old owner number x y → is_spelled new (equation_items x) ≡ false → (t : List ℕ) → pointwise nat_eq t new ≡ false
        → (binds y (turned new old (is_same_owner (owner_in number x old) owner) t) || list_any (is_same_text (turned new old (is_same_owner (owner_in number x old) owner) t)) defined')
        ≡ (binds x t || list_any (is_same_text t) defined)
    text_bound number x y r fresh t n =
        let own : Bool = is_same_owner (Owner.Equation number) owner in
        let top : Bool = is_same_owner Owner.TopLevel owner in
        through (λ a b. a || b) (binds x) (binds y) (λ t. list_any (is_same_text t) defined) (λ t. list_any (is_same_text t) defined') new old t own top
        (is_same_owner (owner_in number x old) owner) (list_any (is_named old) x.patterns)
        (owner_own owner number x old) (owner_top owner number x old)
        (binds_is y (turned new old own t) ∙ any_named-turned new old own x.patterns y.patterns r.patterns (fresh_patterns new old x fresh) t n ∙ sym (binds_is x t))
        (λ e. binds_is y (turned new old top t)
        ∙ any_named-turned new old top x.patterns y.patterns (each_turns_either_way new old own top x.patterns y.patterns r.patterns e) (fresh_patterns new old x fresh) t n ∙ sym (binds_is x t))
        (are t n)
        (λ e is a b.
        let it : binds x t ≡ true = binds_is x t ∙ ap (λ z. list_any (is_named z) x.patterns) is ∙ e in
        ap (λ z. z || a) it ∙ sym (ap (λ z. z || b) it))

    item_bound : (number : ℕ) (x y : Equation) → EquationTurns new old owner number x y → is_spelled new (equation_items x) ≡ false
        → (i j : Item) → Turns new old (is_same_owner (owner_in number x old) owner) i j → pointwise nat_eq i.lexeme.text new ≡ false → is_bound defined' y j ≡ is_bound defined x i
    item_bound number x y r fresh i j s n = by (is_variable i) refl
      where
        inner : Bool
        inner = is_same_owner (owner_in number x old) owner

        by : (v : Bool) → is_variable i ≡ v → is_bound defined' y j ≡ is_bound defined x i
        by true v =
            ap₂ (λ (b : Bool) (t : List ℕ). not b || (binds y t || list_any (is_same_text t) defined')) (variable_stays new old inner i j s) (text_of_variable new old inner i j s v)
            ∙ ap (λ b. not (is_variable i) || b) (text_bound number x y r fresh i.lexeme.text n)
        by false v =
            ap (λ b. not b || (binds y j.lexeme.text || list_any (is_same_text j.lexeme.text) defined')) (variable_stays new old inner i j s ∙ v)
            ∙ sym (ap (λ b. not b || (binds x i.lexeme.text || list_any (is_same_text i.lexeme.text) defined)) v)

    items_bound : (number : ℕ) (x y : Equation) → EquationTurns new old owner number x y → is_spelled new (equation_items x) ≡ false
        → (is js : List Item) → EachTurns new old (is_same_owner (owner_in number x old) owner) is js → is_spelled new is ≡ false → list_all (is_bound defined' y) js ≡ list_all (is_bound defined x) is
    items_bound number x y r fresh [] [] s n = refl
    items_bound number x y r fresh [] (j ∷ js) s n = absurd s
    items_bound number x y r fresh (i ∷ is) [] s n = absurd s
    items_bound number x y r fresh (i ∷ is) (j ∷ js) s n =
        ap₂ (λ a b. a && b) (item_bound number x y r fresh i j s.0 (neither_left (pointwise nat_eq i.lexeme.text new) (is_spelled new is) n))
        (items_bound number x y r fresh is js s.1 (neither_right (pointwise nat_eq i.lexeme.text new) (is_spelled new is) n))

    bodies_bound : (number : ℕ) (xs ys : List Equation) → EachEquationTurns new old owner number xs ys → is_spelled new (flat_map equation_items xs) ≡ false
        → All (λ equation. list_all (is_bound defined equation) (yield_of equation.body) ≡ true) xs → All (λ equation. list_all (is_bound defined' equation) (yield_of equation.body) ≡ true) ys
    bodies_bound number [] [] r fresh e = All-nil (λ equation. list_all (is_bound defined' equation) (yield_of equation.body) ≡ true)
    bodies_bound number [] (y ∷ ys) r fresh e = absurd r
    bodies_bound number (x ∷ xs) [] r fresh e = absurd r
    bodies_bound number (x ∷ xs) (y ∷ ys) r fresh e =
        All-cons (λ equation. list_all (is_bound defined' equation) (yield_of equation.body) ≡ true) y ys
        (items_bound number x y r.0 (fresh_first new old x xs fresh) (yield_of x.body) (yield_of y.body) r.0.body (fresh_body new old x (fresh_first new old x xs fresh))
        ∙ All-head (λ equation. list_all (is_bound defined equation) (yield_of equation.body) ≡ true) x xs e)
        (bodies_bound (suc number) xs ys r.1 (fresh_rest new old x xs fresh) (All-tail (λ equation. list_all (is_bound defined equation) (yield_of equation.body) ≡ true) x xs e))

  scoped_turned : (owner : Owner) (xs ys : List Equation) → EachEquationTurns new old owner 0 xs ys → is_spelled new (flat_map equation_items xs) ≡ false
      → All (λ equation. is_equation equation ≡ true) xs → IsScoped xs → IsScoped ys
  scoped_turned owner xs ys r fresh e s =
      let top : Bool = is_same_owner Owner.TopLevel owner in
      let names : defined_by ys ≡ map (turned new old top) (defined_by xs) = names_turned owner 0 xs ys r e in
      let news : list_any (λ t. pointwise nat_eq t new) (defined_by xs) ≡ false = fresh_names xs fresh in
      record {
        together = subst AreTogether (sym names) (together_turned top (defined_by xs) news s.together);
        distinct = distinct_patterns owner 0 xs ys r fresh s.distinct;
        bound = bodies_bound owner (defined_by xs) (defined_by ys)
            (λ t n. ap (list_any (is_same_text (turned new old top t))) names ∙ among_turned new old top t (defined_by xs) n news)
            0 xs ys r fresh s.bound;
      }

  -- the tree is of the form
  pub form_stays : (owner : Owner) (marks : List Bool) (tree target : Module) → IsForm tree → is_spelled new (module_items tree) ≡ false → is_ascii_text new ≡ true
      → EachEquationTurns new old owner 0 tree.equations target.equations → AllRespell new [] marks (module_items tree) (module_items target) → target.tail ≡ tree.tail → IsForm target
  form_stays owner marks tree target form fresh n r all tail = record {
    trivia = trivia_stay all form.trivia;
    tail = ap is_plain_trivia tail ∙ form.tail;
    equations = equations_turned owner 0 tree.equations target.equations r n form.equations;
    margins = margins_stay all true (λ e. refl) ∙ form.margins ∙ sym (starts_turned owner 0 tree.equations target.equations r);
    scoped = scoped_turned owner tree.equations target.equations r fresh form.equations form.scoped;
  }
