-- The target of a renaming is a tree: one with its items, of which each equation comes from one.
use Rattle.std.proofs.Common.{◌≡◌, ℕ, suc, Bool, true, false, ◌&&◌, if◌then◌else◌, List, [], ◌∷◌, ◌++◌, map, refl, sym, ap, ◌∙◌, subst, true≢false, append_assoc}
use Rattle.std.specs.List.{flat_map}
use Rattle.hr_base.specs.declared.lexeme.Item.{Item}
use Rattle.hr_plain_tree.specs.declared.tree.Equation.{Equation}
use Rattle.hr_plain_tree.specs.Yields.{equation_items, yield_of}
use Rattle.hr_plain.specs.declared.binding.Owner.{Owner}
use Rattle.hr_plain.specs.Scoping.{equation_marks, is_named, is_same_owner, marks_from, owner_in}
use Rattle.hr_plain.specs.Target.{AllRespell, Respells}
use Rattle.hr_plain.specs.Target.AllRespell.{none, more}
use Rattle.hr_plain.proofs.Turned.{Turns, EachTurns}
use Rattle.hr_plain.proofs.Refilled.{Kept, refilled}

-- an item and the one that it comes from, which is marked or not
pub record Marked (new : List ℕ) (mark : Bool) (x y : Item) : Type 0 where
  pub class : y.lexeme.class ≡ x.lexeme.class
  pub text : y.lexeme.text ≡ (if mark then new else x.lexeme.text)
  pub stays : mark ≡ false → y ≡ x

abbrev pub EachMarked : List ℕ → List Bool → List Item → List Item → Type 0
EachMarked new [] [] [] = Unit {0}
EachMarked new [] [] (y ∷ ys) = ⊥
EachMarked new [] (x ∷ xs) ys = ⊥
EachMarked new (m ∷ ms) [] ys = ⊥
EachMarked new (m ∷ ms) (x ∷ xs) [] = ⊥
EachMarked new (m ∷ ms) (x ∷ xs) (y ∷ ys) = Marked new m x y × EachMarked new ms xs ys

marked : (new before : List ℕ) (mark : Bool) (x y : Item) → Respells new mark before x y → Marked new mark x y
marked new before false x y r = record { class = ap (λ i. i.lexeme.class) r; text = ap (λ i. i.lexeme.text) r; stays = λ e. r }
marked new before true x y r = record { class = ap (λ l. l.class) r.0; text = ap (λ l. l.text) r.0; stays = λ e. absurd (true≢false e) }

-- what is respelled is respelled by its marks, whatever stands before it
pub each_marked : {new before : List ℕ} {marks : List Bool} {xs ys : List Item} → AllRespell new before marks xs ys → EachMarked new marks xs ys
each_marked (none before) = tt
each_marked {new} (more before mark marks x y xs ys r rest) = (marked new before mark x y r, each_marked rest)

-- an equation of the target and the one that it comes from, of this number
pub record EquationTurns (new old : List ℕ) (owner : Owner) (number : ℕ) (x y : Equation) : Type 0 where
  pub name : Turns new old (is_same_owner Owner.TopLevel owner) x.name y.name
  pub patterns : EachTurns new old (is_same_owner (Owner.Equation number) owner) x.patterns y.patterns
  pub equals : y.equals ≡ x.equals
  pub body : EachTurns new old (is_same_owner (owner_in number x old) owner) (yield_of x.body) (yield_of y.body)
  pub kept : Kept new old x.body y.body

abbrev pub EachEquationTurns : List ℕ → List ℕ → Owner → ℕ → List Equation → List Equation → Type 0
EachEquationTurns new old owner number [] [] = Unit {0}
EachEquationTurns new old owner number [] (y ∷ ys) = ⊥
EachEquationTurns new old owner number (x ∷ xs) [] = ⊥
EachEquationTurns new old owner number (x ∷ xs) (y ∷ ys) = EquationTurns new old owner number x y × EachEquationTurns new old owner (suc number) xs ys

-- the items of a target's part, and those behind it
pub record Taken (new old : List ℕ) (sought : Bool) (xs : List Item) (marks : List Bool) (zs items : List Item) : Type 0 where
  pub front : List Item
  pub back : List Item
  pub is : items ≡ front ++ back
  pub first : EachTurns new old sought xs front
  pub second : EachMarked new marks zs back

pub record Behind (new : List ℕ) (x : Item) (marks : List Bool) (zs items : List Item) : Type 0 where
  pub back : List Item
  pub is : items ≡ x ∷ back
  pub second : EachMarked new marks zs back

pub record TakenEquation (new old : List ℕ) (owner : Owner) (number : ℕ) (x : Equation) (marks : List Bool) (zs items : List Item) : Type 0 where
  pub equation : Equation
  pub back : List Item
  pub is : items ≡ equation_items equation ++ back
  pub turns : EquationTurns new old owner number x equation
  pub second : EachMarked new marks zs back

pub record TakenEquations (new old : List ℕ) (owner : Owner) (number : ℕ) (xs : List Equation) (items : List Item) : Type 0 where
  pub equations : List Equation
  pub yields : flat_map equation_items equations ≡ items
  pub turns : EachEquationTurns new old owner number xs equations

-- the items of an equation, from its parts
parts_join : (items front behind back inner others : List Item) (name equals : Item) → items ≡ front ++ behind → behind ≡ equals ∷ back → back ≡ inner ++ others
    → name ∷ items ≡ name ∷ ((front ++ (equals ∷ inner)) ++ others)
parts_join items front behind back inner others name equals a b c =
    ap (λ l. name ∷ l) (a ∙ ap (λ l. front ++ l) (b ∙ ap (λ l. equals ∷ l) c) ∙ sym (append_assoc front (equals ∷ inner) others))

-- items that begin so
begin_so : (items front back inner : List Item) → items ≡ front ++ back → inner ≡ front → items ≡ inner ++ back
begin_so items front back inner a b = a ∙ ap (λ l. l ++ back) (sym b)

turns_into : (new old : List ℕ) (sought : Bool) (xs front inner : List Item) → EachTurns new old sought xs front → inner ≡ front → EachTurns new old sought xs inner
turns_into new old sought xs front inner r e = subst (EachTurns new old sought xs) (sym e) r

-- marks and items, apart
apart_again : (new : List ℕ) (in_patterns in_body marks : List Bool) (patterns body zs items : List Item) (equals : Item)
    → EachMarked new ((in_patterns ++ (false ∷ in_body)) ++ marks) ((patterns ++ (equals ∷ body)) ++ zs) items
    → EachMarked new (in_patterns ++ (false ∷ (in_body ++ marks))) (patterns ++ (equals ∷ (body ++ zs))) items
apart_again new in_patterns in_body marks patterns body zs items equals r =
    subst (λ ms. EachMarked new ms (patterns ++ (equals ∷ (body ++ zs))) items) (append_assoc in_patterns (false ∷ in_body) marks)
    (subst (λ l. EachMarked new ((in_patterns ++ (false ∷ in_body)) ++ marks) l items) (append_assoc patterns (equals ∷ body) zs) r)

module _ (new old : List ℕ) where
  taken : (sought : Bool) (xs : List Item) (marks : List Bool) (zs items : List Item)
      → EachMarked new (map (λ x. sought && is_named old x) xs ++ marks) (xs ++ zs) items → Taken new old sought xs marks zs items
  taken sought [] marks zs items r = record { front = []; back = items; is = refl; first = tt; second = r }
  taken sought (x ∷ xs) marks zs [] r = absurd r
  taken sought (x ∷ xs) marks zs (y ∷ items) r =
      let t = taken sought xs marks zs items r.1 in
      record {
        front = y ∷ t.front;
        back = t.back;
        is = ap (λ l. y ∷ l) t.is;
        first = (record { class = r.0.class; text = r.0.text }, t.first);
        second = t.second;
      }

  behind : (x : Item) (marks : List Bool) (zs items : List Item) → EachMarked new (false ∷ marks) (x ∷ zs) items → Behind new x marks zs items
  behind x marks zs [] r = absurd r
  behind x marks zs (y ∷ items) r = record { back = items; is = ap (λ z. z ∷ items) (r.0.stays refl); second = r.1 }

  equation_taken : (owner : Owner) (number : ℕ) (x : Equation) (marks : List Bool) (zs items : List Item)
      → EachMarked new (equation_marks owner old number x ++ marks) (equation_items x ++ zs) items → TakenEquation new old owner number x marks zs items
  equation_taken owner number x marks zs [] r = absurd r
  equation_taken owner number x marks zs (y ∷ items) r =
      let own : Bool = is_same_owner (Owner.Equation number) owner in
      let inner : Bool = is_same_owner (owner_in number x old) owner in
      let in_patterns : List Bool = map (λ i. own && is_named old i) x.patterns in
      let in_body : List Bool = map (λ i. inner && is_named old i) (yield_of x.body) in
      let apart : EachMarked new (in_patterns ++ (false ∷ (in_body ++ marks))) (x.patterns ++ (x.equals ∷ (yield_of x.body ++ zs))) items =
      apart_again new in_patterns in_body marks x.patterns (yield_of x.body) zs items x.equals r.1 in
      let t = taken own x.patterns (false ∷ (in_body ++ marks)) (x.equals ∷ (yield_of x.body ++ zs)) items apart in
      let b = behind x.equals (in_body ++ marks) (yield_of x.body ++ zs) t.back t.second in
      let u = taken inner (yield_of x.body) marks zs b.back b.second in
      let e = refilled new old x.body inner u.front u.first in
      record {
        equation = record { name = y; patterns = t.front; equals = x.equals; body = e.exp };
        back = u.back;
        is = parts_join items t.front t.back b.back (yield_of e.exp) u.back y x.equals t.is b.is (begin_so b.back u.front u.back (yield_of e.exp) u.is e.yields);
        turns = record {
          name = record { class = r.0.class; text = r.0.text };
          patterns = t.first;
          equals = refl;
          body = turns_into new old inner (yield_of x.body) u.front (yield_of e.exp) u.first e.yields;
          kept = e.kept;
        };
        second = u.second;
      }

  -- the equations of the target
  pub equations_taken : (owner : Owner) (number : ℕ) (xs : List Equation) (items : List Item)
      → EachMarked new (marks_from owner old number xs) (flat_map equation_items xs) items → TakenEquations new old owner number xs items
  equations_taken owner number [] [] r = record { equations = []; yields = refl; turns = tt }
  equations_taken owner number [] (y ∷ items) r = absurd r
  equations_taken owner number (x ∷ xs) items r =
      let t = equation_taken owner number x (marks_from owner old (suc number) xs) (flat_map equation_items xs) items r in
      let ts = equations_taken owner (suc number) xs t.back t.second in
      record {
        equations = t.equation ∷ ts.equations;
        yields = ap (λ l. equation_items t.equation ++ l) ts.yields ∙ sym t.is;
        turns = (t.turns, ts.turns);
      }
