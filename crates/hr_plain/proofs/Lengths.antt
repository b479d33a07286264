-- How many lexemes the nodes of a tree have.
use Rattle.std.proofs.Common.{◌≡◌, ℕ, ◌+◌, ◌-◌, ◌<◌, ◌≤◌, suc, Bool, false, ◌&&◌, map, Option, Some, None, MatchOption, SomeIff, List, [], ◌∷◌, ◌++◌, length, drop, get_or, arith, refl, sym, ap, ◌∙◌, length-append, drop_of_length-le, add-one, drop-cons}
use Rattle.std.proofs.lemmas.List.{length-map}
use Rattle.std.specs.List.{flat_map}
use Rattle.hr_base.specs.declared.lexeme.Item.{Item}
use Rattle.hr_plain_tree.specs.declared.tree.Exp.{Exp}
use Rattle.hr_plain_tree.specs.declared.tree.Exp.TheVariants.{Group, Apply}
use Rattle.hr_plain_tree.specs.declared.tree.Equation.{Equation}
use Rattle.hr_plain_tree.specs.Yields.{yield_of, equation_items}
use Rattle.hr_plain.specs.declared.binding.Owner.{Owner}
use Rattle.hr_plain.specs.Scoping.{is_named, is_same_owner, owner_in, equation_marks, marks_from}
use Rattle.hr_plain_tree.proofs.Trees.{yield_group, yield_apply}

pub length_group : (left right : Item) (inner : Exp) → length (yield_of (Group left inner right)) ≡ length (yield_of inner) + 2
length_group left right inner =
    let whole : length (yield_of (Group left inner right)) ≡ length (left ∷ (yield_of inner ++ right ∷ [])) = ap length (yield_group left inner right) in
    let parts : length (yield_of inner ++ right ∷ []) ≡ length (yield_of inner) + length (right ∷ []) = length-append (yield_of inner) (right ∷ []) in
    omega (arith, whole, parts)

-- behind the last atom nothing more is counted
pub atoms_behind : (left lexemes : ℕ) (items atoms : List Exp) (place : ℕ) → length items ≤ place → items ≡ atoms
    → left + length (flat_map yield_of items) ≡ lexemes + length (flat_map yield_of (drop place items)) → left + length (yield_of (Apply atoms)) ≡ lexemes
atoms_behind left lexemes items atoms place h same e =
    let none : length (flat_map yield_of (drop place items)) ≡ 0 = ap (λ l. length (flat_map yield_of l)) (drop_of_length-le items h) in
    let all : length (yield_of (Apply atoms)) ≡ length (flat_map yield_of items) = ap length (yield_apply atoms) ∙ ap (λ l. length (flat_map yield_of l)) (sym same) in
    omega (arith, none, all, e)

-- the atom at a place, and those behind it
pub atoms_from : (items : List Exp) (place : ℕ) (atom : Exp) → place < length items → atom ≡ get_or items place atom
    → length (flat_map yield_of (drop place items)) ≡ length (yield_of atom) + length (flat_map yield_of (drop (place + 1) items))
atoms_from items place atom within is =
    let here : drop place items ≡ get_or items place atom ∷ drop (place + 1) items = rw (add-one, drop-cons items place atom) refl in
    let there : drop place items ≡ atom ∷ drop (place + 1) items = here ∙ ap (λ x. x ∷ drop (place + 1) items) (sym is) in
    ap (λ l. length (flat_map yield_of l)) there ∙ length-append (yield_of atom) (flat_map yield_of (drop (place + 1) items))

-- where an atom has more lexemes than are left, all of them have more
pub atoms_short : (left lexemes : ℕ) (items atoms : List Exp) (place : ℕ) (atom : Exp) → place < length items → items ≡ atoms → atom ≡ get_or items place atom
    → left + length (flat_map yield_of items) ≡ lexemes + length (flat_map yield_of (drop place items)) → left < length (yield_of atom) → lexemes < length (yield_of (Apply atoms))
atoms_short left lexemes items atoms place atom within same is e short =
    let all : length (yield_of (Apply atoms)) ≡ length (flat_map yield_of items) = ap length (yield_apply atoms) ∙ ap (λ l. length (flat_map yield_of l)) (sym same) in
    omega (arith, all, e, atoms_from items place atom within is)

-- the two parentheses are counted with what stands between them
pub group_counted : (lexemes left behind : ℕ) (opened closed : Item) (inner given : Exp) (result : Option ℕ) → (1 ≤ lexemes) × (left ≡ lexemes - 1) → given ≡ inner → behind + length (yield_of given) ≡ left
    → SomeIff result (1 ≤ behind) (behind - 1)
    → MatchOption result (lexemes < length (yield_of (Group opened inner closed))) (λ n. n + length (yield_of (Group opened inner closed)) ≡ lexemes)
group_counted lexemes left behind opened closed inner given None a e b s =
    omega (arith, length_group opened closed inner, ap (λ x. length (yield_of x)) e, s)
group_counted lexemes left behind opened closed inner given (Some n) a e b s =
    omega (arith, length_group opened closed inner, ap (λ x. length (yield_of x)) e, s.0, s.1)

pub group_short : (lexemes left : ℕ) (opened closed : Item) (inner given : Exp) → (1 ≤ lexemes) × (left ≡ lexemes - 1) → given ≡ inner → left < length (yield_of given)
    → lexemes < length (yield_of (Group opened inner closed))
group_short lexemes left opened closed inner given a e short =
    omega (arith, length_group opened closed inner, ap (λ x. length (yield_of x)) e)

-- an equation has as many marks as lexemes
pub length_equation : (owner : Owner) (text : List ℕ) (number : ℕ) (equation : Equation) → length (equation_marks owner text number equation) ≡ length (equation_items equation)
length_equation owner text number equation =
    let own : Item → Bool = λ pattern. is_same_owner (Owner.Equation number) owner && is_named text pattern in
    let inner : Item → Bool = λ item. is_same_owner (owner_in number equation text) owner && is_named text item in
    let marked : length (map own equation.patterns ++ (false ∷ map inner (yield_of equation.body))) ≡ length (map own equation.patterns) + length (false ∷ map inner (yield_of equation.body)) = length-append (map own equation.patterns) (false ∷ map inner (yield_of equation.body)) in
    let items : length (equation.patterns ++ (equation.equals ∷ yield_of equation.body)) ≡ length equation.patterns + length (equation.equals ∷ yield_of equation.body) = length-append equation.patterns (equation.equals ∷ yield_of equation.body) in
    omega (arith, marked, items, length-map equation.patterns own, length-map (yield_of equation.body) inner)

pub length_marks : (owner : Owner) (text : List ℕ) (number : ℕ) (equations : List Equation) → length (marks_from owner text number equations) ≡ length (flat_map equation_items equations)
length_marks owner text number [] = refl
length_marks owner text number (equation ∷ equations) =
    omega (arith, length-append (equation_marks owner text number equation) (marks_from owner text (suc number) equations), length-append (equation_items equation) (flat_map equation_items equations), length_equation owner text number equation, length_marks owner text (suc number) equations)
