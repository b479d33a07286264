-- The names and operators that are found are those that are read.
use Rattle.std.proofs.Common.{◌⊎◌, ◌≤◌, ◌<◌, ℕ, suc, Bool, List, [], ◌∷◌, ◌++◌, length, refl, sym, subst, inl, inr, arith}
use Rattle.std.specs.List.{AllByRecursion}
use lib.Chars.{codes}
use Rattle.hr_base.specs.declared.lexeme.Class.{Class}
use Rattle.hr_base.specs.declared.lexeme.Item.{Item}
use Rattle.hr_rules.specs.declared.block.Placed.{Placed}
use Rattle.hr_tree.specs.declared.names.Variable.{Variable}
use Rattle.hr_tree.specs.declared.names.Constructor.{Constructor}
use Rattle.hr_tree.specs.declared.names.Operator.{Operator}
use Rattle.hr_tree.specs.Names.{variable_items, constructor_items, operator_items}
use Rattle.hr_grammar.specs.Words.{IsSpecial, IsLeftParen, IsRightParen, IsComma}
use Rattle.hr_grammar.specs.Spelled.{IsVariable, IsNamedVariable, IsConstructor, IsTypeConstructor, IsOwnConstructor, IsOwnVariableOperator, IsOwnConstructorOperator, IsOwnOperator, IsConstructorOperator, IsVariableOperator, IsOperator, AreCommas}
use Rattle.hr_grammar_cases.specs.Readings.{Reading, given, takes, take_all, spelled}
use Rattle.hr_grammar_cases.specs.Readings as reading
use Rattle.hr_grammar_finder_laws.specs.Ways.{Among, Way, Finder, ◌⊕◌, passing, made_by, ◌▶◌, one, in_turn}
use Rattle.hr_grammar_finder_laws.specs.Tests.{is_of, is_special, are_commas}
use Rattle.hr_grammar_finder_laws.specs.Names.{between, variables, named_variables, own_constructors, constructors, type_constructors, own_variable_operators, own_constructor_operators, own_operators, constructor_operators, variable_operators, operators}
use Rattle.hr_grammar_finder_laws.proofs.Ways.{among_left, among_right, among_either, Matches, Tests, is_sound, either_sound, made_sound, made_found, one_matches, then_matches, passing_matches, same_matches}
use Rattle.hr_grammar_finder_laws.proofs.Tests.{tests_of, tests_reserved, tests_special, tests_two, tests_constructor_symbol, tests_from_to}
use Rattle.hr_grammar_finder_laws.proofs.Lists.{Shrinks, in_turn_matches}

pub take_shrinks : (n : ℕ) (item : Item) (ts us : List Placed) → takes n item ts us → length us < length ts
take_shrinks n item [] us t = elim t [ ]
take_shrinks n item (next ∷ ts) us t = subst (λ k. length k < length (next ∷ ts)) (sym t.2) (just_one (length ts))
  where
    just_one : (k : ℕ) → k < suc k
    just_one k = omega arith

pub one_shrinks : (n : ℕ) (Is : Item → Type 0) → Shrinks (reading.one n Is)
one_shrinks n Is item ts us r = take_shrinks n item ts us r.1

-- one, two and three lexemes
alone_matches : (n : ℕ) {Is : Item → Type 0} {is : Item → Bool} → Tests Is is → Matches (λ item. given (Is item) (take_all n (item ∷ []))) (one n is)
alone_matches n t =
    same_matches (λ item ts us r. (r.0, (us, r.1, refl))) (λ item ts us r. (r.0, subst (λ k. takes n item ts k) (sym r.1.2) r.1.1)) (one_matches n t)

two_matches : (n : ℕ) {P Q : Item → Type 0} {p q : Item → Bool} → Tests P p → Tests Q q
    → Matches (λ (x : Item × Item). given (P x.0 × Q x.1) (take_all n (x.0 ∷ (x.1 ∷ [])))) (one n p ▶ one n q)
two_matches n s t =
    same_matches (λ x ts us r. ((r.1.0, r.2.0), (r.0, r.1.1, (us, r.2.1, refl))))
    (λ x ts us r. (r.1.0, (r.0.0, r.1.1), (r.0.1, subst (λ k. takes n x.1 r.1.0 k) (sym r.1.2.2) r.1.2.1))) (then_matches (one_matches n s) (one_matches n t))

three_matches : (n : ℕ) {P Q O : Item → Type 0} {p q o : Item → Bool} → Tests P p → Tests Q q → Tests O o
    → Matches (λ (x : Item × (Item × Item)). given (P x.0 × (Q x.1.0 × O x.1.1)) (take_all n (x.0 ∷ (x.1.0 ∷ (x.1.1 ∷ []))))) (one n p ▶ one n q ▶ one n o)
three_matches n s t u =
    same_matches (λ x ts us r. ((r.1.0, (r.2.1.0, r.2.2.0)), (r.0, r.1.1, (r.2.0, r.2.1.1, (us, r.2.2.1, refl)))))
    (λ x ts us r. (r.1.0, (r.0.0, r.1.1), (r.1.2.0, (r.0.1.0, r.1.2.1), (r.0.1.1, subst (λ k. takes n x.1.1 r.1.2.0 k) (sym r.1.2.2.2) r.1.2.2.1))))
    (then_matches (one_matches n s) (then_matches (one_matches n t) (one_matches n u)))

-- commas, and what closes them
commas_to : (n : ℕ) (commas : List Item) (right : Item) (ts vs us : List Placed) → reading.in_turn (reading.one n IsComma) commas ts vs → takes n right vs us
    → AllByRecursion IsComma commas × take_all n (commas ++ (right ∷ [])) ts us
commas_to n [] right ts vs us r t = (tt, (us, subst (λ k. takes n right k us) r t, refl))
commas_to n (comma ∷ commas) right ts vs us r t = let k = commas_to n commas right r.0 vs us r.2 t in ((r.1.0, k.0), (r.0, r.1.1, k.1))

commas_back : (n : ℕ) (commas : List Item) (right : Item) (ts us : List Placed) → AllByRecursion IsComma commas → take_all n (commas ++ (right ∷ [])) ts us
    → (vs : List Placed) × reading.in_turn (reading.one n IsComma) commas ts vs × takes n right vs us
commas_back n [] right ts us a t = (ts, refl, subst (λ k. takes n right ts k) (sym t.2) t.1)
commas_back n (comma ∷ commas) right ts us a t = let k = commas_back n commas right t.0 us a.1 t.2 in (k.0, (t.0, (a.0, t.1), k.1), k.2)

commas_match : (n : ℕ)
    → Matches (λ (x : Item × (List Item × Item)). given (IsLeftParen x.0 × (AreCommas x.1.0 × IsRightParen x.1.1)) (take_all n (x.0 ∷ (x.1.0 ++ (x.1.1 ∷ [])))))
    (one n (is_special (codes "(")) ▶ passing are_commas (in_turn (one n (is_special (codes ",")))) ▶ one n (is_special (codes ")")))
commas_match n =
    same_matches
    (λ x ts us r. let k = commas_to n x.1.0 x.1.1 r.0 r.2.0 us r.2.1.1 r.2.2.1 in ((r.1.0, ((k.0, r.2.1.0), r.2.2.0)), (r.0, r.1.1, k.1)))
    (λ x ts us r. let k = commas_back n x.1.0 x.1.1 r.1.0 us r.0.1.0.0 r.1.2 in (r.1.0, (r.0.0, r.1.1), (k.0, (r.0.1.0.1, k.1), (r.0.1.1, k.2))))
    (then_matches (one_matches n (tests_special (codes "(")))
    (then_matches (passing_matches (tests_from_to 1 14) (in_turn_matches (one_matches n (tests_special (codes ","))) (one_shrinks n IsComma))) (one_matches n (tests_special (codes ")")))))

-- a variable, by what its name and its symbol are
variable_matches : {R : Variable → Reading} {f : Finder Item} {g : Finder (Item × (Item × Item))}
    → Matches (λ item. R (Variable.Name item)) f → Matches (λ p. R (Variable.Symbol p.0 p.1.0 p.1.1)) g
    → Matches R (made_by Variable.Name f ⊕ made_by (λ p. Variable.Symbol p.0 p.1.0 p.1.1) g)
variable_matches {R} {f} {g} m n = record {
  sound = (either_sound {R = R} (made_sound Variable.Name (is_sound m)) (made_sound (λ (p : Item × (Item × Item)). Variable.Symbol p.0 p.1.0 p.1.1) (is_sound n))).sound;
  complete = read;
}
  where
    read : (x : Variable) (ts us : List Placed) → R x ts us
        → Among {T = Way Variable} (x, us) ((made_by Variable.Name f ⊕ made_by (λ (p : Item × (Item × Item)). Variable.Symbol p.0 p.1.0 p.1.1) g) ts)
    read (Variable.Name item) ts us r =
        among_left _ (made_by Variable.Name f ts) (made_by (λ (p : Item × (Item × Item)). Variable.Symbol p.0 p.1.0 p.1.1) g ts) (made_found Variable.Name f item ts us (m.complete item ts us r))
    read (Variable.Symbol left symbol right) ts us r =
        among_right _ (made_by Variable.Name f ts) (made_by (λ (p : Item × (Item × Item)). Variable.Symbol p.0 p.1.0 p.1.1) g ts)
        (made_found (λ (p : Item × (Item × Item)). Variable.Symbol p.0 p.1.0 p.1.1) g (left, (symbol, right)) ts us (n.complete (left, (symbol, right)) ts us r))

pub variables_match : (n : ℕ) → Matches (spelled n IsVariable variable_items) (variables n)
variables_match n =
    variable_matches (alone_matches n (tests_of Class.VarId)) (three_matches n (tests_special (codes "(")) (tests_of Class.VarSym) (tests_special (codes ")")))

pub named_variables_match : (n : ℕ) → Matches (spelled n IsNamedVariable variable_items) (named_variables n)
named_variables_match n =
    variable_matches (alone_matches n (tests_two Class.VarId Class.QVarId)) (three_matches n (tests_special (codes "(")) (tests_two Class.VarSym Class.QVarSym) (tests_special (codes ")")))

-- an operator, by what its symbol and its name in backquotes are
operator_matches : {R : Operator → Reading} {f : Finder Item} {g : Finder (Item × (Item × Item))}
    → Matches (λ item. R (Operator.Symbol item)) f → Matches (λ p. R (Operator.Quoted p.0 p.1.0 p.1.1)) g
    → Matches R (made_by Operator.Symbol f ⊕ made_by (λ p. Operator.Quoted p.0 p.1.0 p.1.1) g)
operator_matches {R} {f} {g} m n = record {
  sound = (either_sound {R = R} (made_sound Operator.Symbol (is_sound m)) (made_sound (λ (p : Item × (Item × Item)). Operator.Quoted p.0 p.1.0 p.1.1) (is_sound n))).sound;
  complete = read;
}
  where
    read : (x : Operator) (ts us : List Placed) → R x ts us
        → Among {T = Way Operator} (x, us) ((made_by Operator.Symbol f ⊕ made_by (λ (p : Item × (Item × Item)). Operator.Quoted p.0 p.1.0 p.1.1) g) ts)
    read (Operator.Symbol item) ts us r =
        among_left _ (made_by Operator.Symbol f ts) (made_by (λ (p : Item × (Item × Item)). Operator.Quoted p.0 p.1.0 p.1.1) g ts) (made_found Operator.Symbol f item ts us (m.complete item ts us r))
    read (Operator.Quoted left name right) ts us r =
        among_right _ (made_by Operator.Symbol f ts) (made_by (λ (p : Item × (Item × Item)). Operator.Quoted p.0 p.1.0 p.1.1) g ts)
        (made_found (λ (p : Item × (Item × Item)). Operator.Quoted p.0 p.1.0 p.1.1) g (left, (name, right)) ts us (n.complete (left, (name, right)) ts us r))

quoted_matches : (n : ℕ) {N : Item → Type 0} {name : Item → Bool} → Tests N name
    → Matches (λ (x : Item × (Item × Item)). given (IsSpecial (codes "`") x.0 × (N x.1.0 × IsSpecial (codes "`") x.1.1)) (take_all n (x.0 ∷ (x.1.0 ∷ (x.1.1 ∷ []))))) (between n (codes "`") name (codes "`"))
quoted_matches n t = three_matches n (tests_special (codes "`")) t (tests_special (codes "`"))

pub own_variable_operators_match : (n : ℕ) → Matches (spelled n IsOwnVariableOperator operator_items) (own_variable_operators n)
own_variable_operators_match n = operator_matches (alone_matches n (tests_of Class.VarSym)) (quoted_matches n (tests_of Class.VarId))

pub own_constructor_operators_match : (n : ℕ) → Matches (spelled n IsOwnConstructorOperator operator_items) (own_constructor_operators n)
own_constructor_operators_match n = operator_matches (alone_matches n (tests_of Class.ConSym)) (quoted_matches n (tests_of Class.ConId))

pub constructor_operators_match : (n : ℕ) → Matches (spelled n IsConstructorOperator operator_items) (constructor_operators n)
constructor_operators_match n = operator_matches (alone_matches n tests_constructor_symbol) (quoted_matches n (tests_two Class.ConId Class.QConId))

variable_operators_match : (n : ℕ) → Matches (spelled n IsVariableOperator operator_items) (variable_operators n)
variable_operators_match n = operator_matches (alone_matches n (tests_two Class.VarSym Class.QVarSym)) (quoted_matches n (tests_two Class.VarId Class.QVarId))

-- of one kind or the other
spelled_either : {T : Type 0} (n : ℕ) {P Q : T → Type 0} (items_of : T → List Item) {f g : Finder T} → Matches (spelled n P items_of) f → Matches (spelled n Q items_of) g
    → Matches (spelled n (λ x. P x ⊎ Q x) items_of) (f ⊕ g)
spelled_either {T} n {P} {Q} items_of {f} {g} m k = record { sound = found; complete = read }
  where
    by : (x : T) (ts us : List Placed) → Among {T = Way T} (x, us) (f ts) ⊎ Among {T = Way T} (x, us) (g ts) → spelled n (λ x. P x ⊎ Q x) items_of x ts us
    by x ts us (inl h) = let r = m.sound x ts us h in (inl r.0, r.1)
    by x ts us (inr h) = let r = k.sound x ts us h in (inr r.0, r.1)

    found : (x : T) (ts us : List Placed) → Among {T = Way T} (x, us) ((f ⊕ g) ts) → spelled n (λ x. P x ⊎ Q x) items_of x ts us
    found x ts us h = by x ts us (among_either (x, us) (f ts) (g ts) h)

    one_of : (x : T) (ts us : List Placed) → P x ⊎ Q x → take_all n (items_of x) ts us → Among {T = Way T} (x, us) ((f ⊕ g) ts)
    one_of x ts us (inl p) t = among_left (x, us) (f ts) (g ts) (m.complete x ts us (p, t))
    one_of x ts us (inr q) t = among_right (x, us) (f ts) (g ts) (k.complete x ts us (q, t))

    read : (x : T) (ts us : List Placed) → spelled n (λ x. P x ⊎ Q x) items_of x ts us → Among {T = Way T} (x, us) ((f ⊕ g) ts)
    read x ts us r = one_of x ts us r.0 r.1

pub own_operators_match : (n : ℕ) → Matches (spelled n IsOwnOperator operator_items) (own_operators n)
own_operators_match n = spelled_either n operator_items (own_variable_operators_match n) (own_constructor_operators_match n)

pub operators_match : (n : ℕ) → Matches (spelled n IsOperator operator_items) (operators n)
operators_match n = spelled_either n operator_items (variable_operators_match n) (constructor_operators_match n)

-- a constructor, by what its name and its symbol are
abbrev symbol_of : Item × (Item × Item) → Constructor
symbol_of p = Constructor.Symbol p.0 p.1.0 p.1.1

abbrev unit_of : Item × Item → Constructor
unit_of p = Constructor.Unit p.0 p.1

abbrev empty_of : Item × Item → Constructor
empty_of p = Constructor.EmptyList p.0 p.1

abbrev tuple_of : Item × (List Item × Item) → Constructor
tuple_of p = Constructor.Tuple p.0 p.1.0 p.1.1

own_read : (n : ℕ) (x : Constructor) (ts us : List Placed) → spelled n IsOwnConstructor constructor_items x ts us → Among {T = Way Constructor} (x, us) (own_constructors n ts)
own_read n (Constructor.Name item) ts us r =
    among_left _ (made_by Constructor.Name (one n (is_of Class.ConId)) ts) (made_by symbol_of (between n (codes "(") (is_of Class.ConSym) (codes ")")) ts)
    (made_found Constructor.Name (one n (is_of Class.ConId)) item ts us ((alone_matches n (tests_of Class.ConId)).complete item ts us r))
own_read n (Constructor.Symbol left symbol right) ts us r =
    among_right _ (made_by Constructor.Name (one n (is_of Class.ConId)) ts) (made_by symbol_of (between n (codes "(") (is_of Class.ConSym) (codes ")")) ts)
    (made_found symbol_of (between n (codes "(") (is_of Class.ConSym) (codes ")")) (left, (symbol, right)) ts us
    ((three_matches n (tests_special (codes "(")) (tests_of Class.ConSym) (tests_special (codes ")"))).complete (left, (symbol, right)) ts us r))
own_read n (Constructor.Unit left right) ts us r = elim r.0 [ ]
own_read n (Constructor.EmptyList left right) ts us r = elim r.0 [ ]
own_read n (Constructor.Tuple left commas right) ts us r = elim r.0 [ ]

pub own_constructors_match : (n : ℕ) → Matches (spelled n IsOwnConstructor constructor_items) (own_constructors n)
own_constructors_match n = record {
  sound = (either_sound {R = spelled n IsOwnConstructor constructor_items}
      (made_sound Constructor.Name (is_sound (alone_matches n (tests_of Class.ConId))))
      (made_sound symbol_of (is_sound (three_matches n (tests_special (codes "(")) (tests_of Class.ConSym) (tests_special (codes ")")))))).sound;
  complete = own_read n;
}

-- a constructor that may be built in, by what the names and symbols of others are
constructor_matches : {R : Constructor → Reading} {f : Finder Item} {g : Finder (Item × (Item × Item))} {h k : Finder (Item × Item)} {l : Finder (Item × (List Item × Item))}
    → Matches (λ item. R (Constructor.Name item)) f → Matches (λ p. R (symbol_of p)) g → Matches (λ p. R (unit_of p)) h → Matches (λ p. R (empty_of p)) k → Matches (λ p. R (tuple_of p)) l
    → Matches R ((made_by Constructor.Name f ⊕ made_by symbol_of g) ⊕ (made_by unit_of h ⊕ (made_by empty_of k ⊕ made_by tuple_of l)))
constructor_matches {R} {f} {g} {h} {k} {l} m n o p q = record {
  sound = (either_sound {R = R} (either_sound (made_sound Constructor.Name (is_sound m)) (made_sound symbol_of (is_sound n)))
      (either_sound (made_sound unit_of (is_sound o)) (either_sound (made_sound empty_of (is_sound p)) (made_sound tuple_of (is_sound q))))).sound;
  complete = read;
}
  where
    named : Finder Constructor
    named = made_by Constructor.Name f ⊕ made_by symbol_of g

    built : Finder Constructor
    built = made_by unit_of h ⊕ (made_by empty_of k ⊕ made_by tuple_of l)

    read : (x : Constructor) (ts us : List Placed) → R x ts us → Among {T = Way Constructor} (x, us) ((named ⊕ built) ts)
    read (Constructor.Name item) ts us r =
        among_left _ (named ts) (built ts) (among_left _ (made_by Constructor.Name f ts) (made_by symbol_of g ts) (made_found Constructor.Name f item ts us (m.complete item ts us r)))
    read (Constructor.Symbol left symbol right) ts us r =
        among_left _ (named ts) (built ts) (among_right _ (made_by Constructor.Name f ts) (made_by symbol_of g ts)
        (made_found symbol_of g (left, (symbol, right)) ts us (n.complete (left, (symbol, right)) ts us r)))
    read (Constructor.Unit left right) ts us r =
        among_right _ (named ts) (built ts) (among_left _ (made_by unit_of h ts) ((made_by empty_of k ⊕ made_by tuple_of l) ts)
        (made_found unit_of h (left, right) ts us (o.complete (left, right) ts us r)))
    read (Constructor.EmptyList left right) ts us r =
        among_right _ (named ts) (built ts) (among_right _ (made_by unit_of h ts) ((made_by empty_of k ⊕ made_by tuple_of l) ts)
        (among_left _ (made_by empty_of k ts) (made_by tuple_of l ts) (made_found empty_of k (left, right) ts us (p.complete (left, right) ts us r))))
    read (Constructor.Tuple left commas right) ts us r =
        among_right _ (named ts) (built ts) (among_right _ (made_by unit_of h ts) ((made_by empty_of k ⊕ made_by tuple_of l) ts)
        (among_right _ (made_by empty_of k ts) (made_by tuple_of l ts) (made_found tuple_of l (left, (commas, right)) ts us (q.complete (left, (commas, right)) ts us r))))

pub constructors_match : (n : ℕ) → Matches (spelled n IsConstructor constructor_items) (constructors n)
constructors_match n =
    constructor_matches (alone_matches n (tests_two Class.ConId Class.QConId)) (three_matches n (tests_special (codes "(")) tests_constructor_symbol (tests_special (codes ")")))
    (two_matches n (tests_special (codes "(")) (tests_special (codes ")"))) (two_matches n (tests_special (codes "[")) (tests_special (codes "]"))) (commas_match n)

pub type_constructors_match : (n : ℕ) → Matches (spelled n IsTypeConstructor constructor_items) (type_constructors n)
type_constructors_match n =
    constructor_matches (alone_matches n (tests_two Class.ConId Class.QConId)) (three_matches n (tests_special (codes "(")) (tests_reserved (codes "->")) (tests_special (codes ")")))
    (two_matches n (tests_special (codes "(")) (tests_special (codes ")"))) (two_matches n (tests_special (codes "[")) (tests_special (codes "]"))) (commas_match n)

-- each takes a lexeme or more
take_all_stays : (n : ℕ) (items : List Item) (ts us : List Placed) → take_all n items ts us → length us ≤ length ts
take_all_stays n [] ts us t = subst (λ k. length k ≤ length ts) (sym t) (as_long (length ts))
  where
    as_long : (k : ℕ) → k ≤ k
    as_long k = omega arith
take_all_stays n (item ∷ items) ts us t = longer (length us) (length t.0) (length ts) (take_all_stays n items t.0 us t.2) (take_shrinks n item ts t.0 t.1)
  where
    longer : (a b c : ℕ) → a ≤ b → b < c → a ≤ c
    longer a b c l m = omega arith

take_one_shrinks : (n : ℕ) (item : Item) (items : List Item) (ts us : List Placed) → take_all n (item ∷ items) ts us → length us < length ts
take_one_shrinks n item items ts us t = shorter (length us) (length t.0) (length ts) (take_all_stays n items t.0 us t.2) (take_shrinks n item ts t.0 t.1)
  where
    shorter : (a b c : ℕ) → a ≤ b → b < c → a < c
    shorter a b c l m = omega arith

pub variable_shrinks : (n : ℕ) (Is : Variable → Type 0) → Shrinks (spelled n Is variable_items)
variable_shrinks n Is (Variable.Name item) ts us r = take_one_shrinks n item [] ts us r.1
variable_shrinks n Is (Variable.Symbol left symbol right) ts us r = take_one_shrinks n left (symbol ∷ (right ∷ [])) ts us r.1

pub operator_shrinks : (n : ℕ) (Is : Operator → Type 0) → Shrinks (spelled n Is operator_items)
operator_shrinks n Is (Operator.Symbol item) ts us r = take_one_shrinks n item [] ts us r.1
operator_shrinks n Is (Operator.Quoted left symbol right) ts us r = take_one_shrinks n left (symbol ∷ (right ∷ [])) ts us r.1

pub constructor_shrinks : (n : ℕ) (Is : Constructor → Type 0) → Shrinks (spelled n Is constructor_items)
constructor_shrinks n Is (Constructor.Name item) ts us r = take_one_shrinks n item [] ts us r.1
constructor_shrinks n Is (Constructor.Symbol left symbol right) ts us r = take_one_shrinks n left (symbol ∷ (right ∷ [])) ts us r.1
constructor_shrinks n Is (Constructor.Unit left right) ts us r = take_one_shrinks n left (right ∷ []) ts us r.1
constructor_shrinks n Is (Constructor.EmptyList left right) ts us r = take_one_shrinks n left (right ∷ []) ts us r.1
constructor_shrinks n Is (Constructor.Tuple left commas right) ts us r = take_one_shrinks n left (commas ++ (right ∷ [])) ts us r.1
