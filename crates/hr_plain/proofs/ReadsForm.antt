-- The lexemes of a module of the plain form, and which of them are marked as the occurrences of a name.
use Rattle.std.proofs.Common.{◌≡◌, ℕ, suc, Bool, true, false, nat_le, nat_lt, ◌&&◌, ◌||◌, List, [], ◌∷◌, ◌++◌, length, map, All, refl, sym, ap, subst, ◌∙◌, true≢false, arith}
use Rattle.std.specs.List.{AllByRecursion, flat_map, list_all}
use Rattle.std.specs.Cmp.Lexicographic.{pointwise}
use Rattle.std.specs.Prelude.{nat_eq}
use Rattle.std.proofs.lemmas.List.{length-map}
use Rattle.std.proofs.lemmas.List.Elements.{All-head, All-tail}
use Rattle.std.proofs.lemmas.Slice.Eq.{bytes_eq-Decides}
use Rattle.hr_base.specs.declared.lexeme.Class.{Class}
use Rattle.hr_base.specs.declared.lexeme.Item.{Item}
use Rattle.hr_rules.proofs.Apart.{both_left, both_right}
use Rattle.hr_plain_tree.specs.declared.tree.Equation.{Equation}
use Rattle.hr_plain_tree.specs.declared.tree.Exp.{Exp}
use Rattle.hr_plain_tree.specs.declared.tree.Exp.TheOpen.{Exp-F}
use Rattle.hr_plain_tree.specs.declared.tree.Exp.TheVariants.{Variable, Integer, Group, Apply}
use Rattle.hr_plain_tree.specs.declared.tree.Exp.TheFolds.{fold-roll-Exp, ind-Exp, map-Exp}
use Rattle.hr_plain_tree.specs.declared.tree.Exp.TheViews.{roll-Exp, rolls-Variable, rolls-Integer, rolls-Group, rolls-Apply}
use Rattle.hr_plain_tree.specs.declared.tree.Module.{Module}
use Rattle.hr_plain_tree.specs.Yields.{equation_items, height_of, module_items, yield_of}
use Rattle.hr_plain_tree.proofs.Trees.{yield_variable, yield_integer, yield_group, yield_apply}
use Rattle.hr_plain.specs.declared.binding.Owner.{Owner}
use Rattle.hr_plain.specs.Form.{Shape, IsForm, greatest_height, is_ascii_text, is_equation, is_integer, is_integer_class, is_mark, is_pattern, is_plain_trivia, is_plain_variable, is_reserved_class, shape_layer, shape_of}
use Rattle.hr_plain.specs.Scoping.{equation_marks, is_named, is_same_owner, is_variable, is_variable_class, marks_from, occurrences_of, owner_in}
use Rattle.hr_plain.proofs.Lengths.{length_equation}
use Rattle.hr_plain.proofs.ReadsLexed.{IsPlainLexeme, ArePlain}
use Rattle.hr_plain.proofs.ReadsLexed.IsPlainLexeme.{variable, integer, left, right, equals}
use Rattle.hr_plain.proofs.ReadsLinks.{OnlyVariables}

-- ---- each lexeme
is_varid : (class : Class) → is_variable_class class ≡ true → class ≡ Class.VarId
is_varid Class.VarId e = refl
is_varid Class.ConId e = absurd (true≢false (sym e))
is_varid Class.QVarId e = absurd (true≢false (sym e))
is_varid Class.QConId e = absurd (true≢false (sym e))
is_varid Class.VarSym e = absurd (true≢false (sym e))
is_varid Class.ConSym e = absurd (true≢false (sym e))
is_varid Class.QVarSym e = absurd (true≢false (sym e))
is_varid Class.QConSym e = absurd (true≢false (sym e))
is_varid Class.Integer e = absurd (true≢false (sym e))
is_varid Class.Float e = absurd (true≢false (sym e))
is_varid Class.Char e = absurd (true≢false (sym e))
is_varid Class.Str e = absurd (true≢false (sym e))
is_varid Class.ReservedId e = absurd (true≢false (sym e))
is_varid Class.ReservedOp e = absurd (true≢false (sym e))
is_varid Class.Special e = absurd (true≢false (sym e))

is_number : (class : Class) → is_integer_class class ≡ true → class ≡ Class.Integer
is_number Class.Integer e = refl
is_number Class.VarId e = absurd (true≢false (sym e))
is_number Class.ConId e = absurd (true≢false (sym e))
is_number Class.QVarId e = absurd (true≢false (sym e))
is_number Class.QConId e = absurd (true≢false (sym e))
is_number Class.VarSym e = absurd (true≢false (sym e))
is_number Class.ConSym e = absurd (true≢false (sym e))
is_number Class.QVarSym e = absurd (true≢false (sym e))
is_number Class.QConSym e = absurd (true≢false (sym e))
is_number Class.Float e = absurd (true≢false (sym e))
is_number Class.Char e = absurd (true≢false (sym e))
is_number Class.Str e = absurd (true≢false (sym e))
is_number Class.ReservedId e = absurd (true≢false (sym e))
is_number Class.ReservedOp e = absurd (true≢false (sym e))
is_number Class.Special e = absurd (true≢false (sym e))

plain_variable : (item : Item) → is_plain_variable item ≡ true → IsPlainLexeme item
plain_variable item e = variable (is_varid item.lexeme.class (both_left (is_variable item) (is_ascii_text item.lexeme.text) e))

plain_integer : (item : Item) → is_integer item ≡ true → IsPlainLexeme item
plain_integer item e = integer (is_number item.lexeme.class e)

mark_text : (c : ℕ) (item : Item) → is_mark c item ≡ true → item.lexeme.text ≡ c ∷ []
mark_text c item e =
    (bytes_eq-Decides item.lexeme.text (c ∷ [])).0 (both_right (is_reserved_class item.lexeme.class) (pointwise nat_eq item.lexeme.text (c ∷ [])) e)

plain_pattern : (item : Item) (b : Bool) → is_plain_variable item ≡ b → (b || is_integer item) ≡ true → IsPlainLexeme item
plain_pattern item true v e = plain_variable item v
plain_pattern item false v e = plain_integer item e

plain_patterns : (items : List Item) → list_all is_pattern items ≡ true → AllByRecursion IsPlainLexeme items
plain_patterns [] e = tt
plain_patterns (item ∷ items) e =
    (plain_pattern item (is_plain_variable item) refl (both_left (is_pattern item) (list_all is_pattern items) e), plain_patterns items (both_right (is_pattern item) (list_all is_pattern items) e))

each_append : (xs ys : List Item) → AllByRecursion IsPlainLexeme xs → AllByRecursion IsPlainLexeme ys → AllByRecursion IsPlainLexeme (xs ++ ys)
each_append [] ys a b = b
each_append (x ∷ xs) ys a b = (a.0, each_append xs ys a.1 b)

-- ---- expressions
-- of an expression of the form each lexeme is one of the plain form
abbrev YieldsPlain : Exp → Type 0
YieldsPlain e = (shape_of e).is_form ≡ true → AllByRecursion IsPlainLexeme (yield_of e)

of_variable : (x : Item) → YieldsPlain (Variable x)
of_variable x f =
    let shape : shape_of (Variable x) ≡ record { is_form = is_plain_variable x; is_atom = true } = ap shape_of (sym (rolls-Variable x)) ∙ fold-roll-Exp Shape shape_layer (Exp-F.Variable x) in
    subst (AllByRecursion IsPlainLexeme) (sym (yield_variable x)) (plain_variable x (sym (ap (λ (s : Shape). s.is_form) shape) ∙ f), tt)

of_integer : (x : Item) → YieldsPlain (Integer x)
of_integer x f =
    let shape : shape_of (Integer x) ≡ record { is_form = is_integer x; is_atom = true } = ap shape_of (sym (rolls-Integer x)) ∙ fold-roll-Exp Shape shape_layer (Exp-F.Integer x) in
    subst (AllByRecursion IsPlainLexeme) (sym (yield_integer x)) (plain_integer x (sym (ap (λ (s : Shape). s.is_form) shape) ∙ f), tt)

of_group : (opened : Item) (inner : Exp) (closed : Item) → YieldsPlain inner → YieldsPlain (Group opened inner closed)
of_group opened inner closed inside f =
    let shape : shape_of (Group opened inner closed) ≡ record { is_form = (is_mark 40 opened && (shape_of inner).is_form) && is_mark 41 closed; is_atom = true } =
    ap shape_of (sym (rolls-Group opened inner closed)) ∙ fold-roll-Exp Shape shape_layer (Exp-F.Group opened inner closed) in
    let form : ((is_mark 40 opened && (shape_of inner).is_form) && is_mark 41 closed) ≡ true = sym (ap (λ (s : Shape). s.is_form) shape) ∙ f in
    let front : (is_mark 40 opened && (shape_of inner).is_form) ≡ true = both_left (is_mark 40 opened && (shape_of inner).is_form) (is_mark 41 closed) form in
    let first : IsPlainLexeme opened = left (mark_text 40 opened (both_left (is_mark 40 opened) (shape_of inner).is_form front)) in
    let last : IsPlainLexeme closed = right (mark_text 41 closed (both_right (is_mark 40 opened && (shape_of inner).is_form) (is_mark 41 closed) form)) in
    subst (AllByRecursion IsPlainLexeme) (sym (yield_group opened inner closed))
    (first, each_append (yield_of inner) (closed ∷ []) (inside (both_right (is_mark 40 opened) (shape_of inner).is_form front)) (last, tt))

of_atoms : (atoms : List Exp) → AllByRecursion YieldsPlain atoms → list_all (λ (s : Shape). s.is_form && s.is_atom) (map shape_of atoms) ≡ true → AllByRecursion IsPlainLexeme (flat_map yield_of atoms)
of_atoms [] each f = tt
of_atoms (atom ∷ atoms) each f =
    let test : Shape → Bool = λ s. s.is_form && s.is_atom in
    let first : (shape_of atom).is_form ≡ true = both_left (shape_of atom).is_form (shape_of atom).is_atom (both_left (test (shape_of atom)) (list_all test (map shape_of atoms)) f) in
    each_append (yield_of atom) (flat_map yield_of atoms) (each.0 first) (of_atoms atoms each.1 (both_right (test (shape_of atom)) (list_all test (map shape_of atoms)) f))

of_apply : (atoms : List Exp) → AllByRecursion YieldsPlain atoms → YieldsPlain (Apply atoms)
of_apply atoms each f =
    let shape : shape_of (Apply atoms) ≡ shape_layer (Exp-F.Apply (map shape_of atoms)) = ap shape_of (sym (rolls-Apply atoms)) ∙ fold-roll-Exp Shape shape_layer (Exp-F.Apply atoms) in
    let all : Bool = list_all (λ (s : Shape). s.is_form && s.is_atom) (map shape_of atoms) in
    let form : (nat_lt 1 (length (map shape_of atoms)) && all) ≡ true = sym (ap (λ (s : Shape). s.is_form) shape) ∙ f in
    subst (AllByRecursion IsPlainLexeme) (sym (yield_apply atoms)) (of_atoms atoms each (both_right (nat_lt 1 (length (map shape_of atoms))) all form))

abbrev Held : Type 0
Held = (e : Exp) × YieldsPlain e

held : (ys : List Held) → AllByRecursion YieldsPlain (map (λ y. y.0) ys)
held [] = tt
held (y ∷ ys) = (y.1, held ys)

of_layer : (y : Exp-F Held) → YieldsPlain (roll-Exp (map-Exp Held Exp (λ y. y.0) y))
of_layer (Exp-F.Variable x) = subst YieldsPlain (sym (rolls-Variable x)) (of_variable x)
of_layer (Exp-F.Integer x) = subst YieldsPlain (sym (rolls-Integer x)) (of_integer x)
of_layer (Exp-F.Group opened inner closed) = subst YieldsPlain (sym (rolls-Group opened inner.0 closed)) (of_group opened inner.0 closed inner.1)
of_layer (Exp-F.Apply ys) = subst YieldsPlain (sym (rolls-Apply (map (λ y. y.0) ys))) (of_apply (map (λ y. y.0) ys) (held ys))

yields_plain : (e : Exp) → YieldsPlain e
yields_plain = ind-Exp YieldsPlain (λ x y is. subst (λ z. YieldsPlain (roll-Exp z)) is (of_layer y))

-- ---- modules
plain_equation : (equation : Equation) → is_equation equation ≡ true → AllByRecursion IsPlainLexeme (equation_items equation)
plain_equation equation e =
    let head : Bool = is_plain_variable equation.name && list_all is_pattern equation.patterns in
    let body : Bool = (shape_of equation.body).is_form && nat_le (height_of equation.body) greatest_height in
    let front : (head && is_mark 61 equation.equals) ≡ true = both_left (head && is_mark 61 equation.equals) body e in
    let names : head ≡ true = both_left head (is_mark 61 equation.equals) front in
    let form : (shape_of equation.body).is_form ≡ true = both_left (shape_of equation.body).is_form (nat_le (height_of equation.body) greatest_height) (both_right (head && is_mark 61 equation.equals) body e) in (
      plain_variable equation.name (both_left (is_plain_variable equation.name) (list_all is_pattern equation.patterns) names),
      each_append equation.patterns (equation.equals ∷ yield_of equation.body)
          (plain_patterns equation.patterns (both_right (is_plain_variable equation.name) (list_all is_pattern equation.patterns) names))
          (equals (mark_text 61 equation.equals (both_right head (is_mark 61 equation.equals) front)), yields_plain equation.body form),
    )

plain_equations : (equations : List Equation) → All (λ equation. is_equation equation ≡ true) equations → AllByRecursion IsPlainLexeme (flat_map equation_items equations)
plain_equations [] all = tt
plain_equations (equation ∷ equations) all =
    each_append (equation_items equation) (flat_map equation_items equations)
    (plain_equation equation (All-head (λ equation. is_equation equation ≡ true) equation equations all))
    (plain_equations equations (All-tail (λ equation. is_equation equation ≡ true) equation equations all))

plain_items : (items : List Item) → AllByRecursion IsPlainLexeme items → All (λ item. is_plain_trivia item.trivia ≡ true) items → ArePlain items
plain_items [] each all = tt
plain_items (item ∷ items) each all = (
  record { lexeme = each.0; trivia = All-head (λ item. is_plain_trivia item.trivia ≡ true) item items all },
  plain_items items each.1 (All-tail (λ item. is_plain_trivia item.trivia ≡ true) item items all),
)

pub plain_module : (tree : Module) → IsForm tree → ArePlain (module_items tree)
plain_module tree form = plain_items (module_items tree) (plain_equations tree.equations form.equations) form.trivia

-- ---- marks
named_varid : (text : List ℕ) (item : Item) → is_named text item ≡ true → item.lexeme.class ≡ Class.VarId
unfolding is_named
named_varid text item e = is_varid item.lexeme.class (both_left (is_variable item) (pointwise nat_eq item.lexeme.text text) e)

only_append : (marks others : List Bool) (xs ys : List Item) → length marks ≡ length xs → OnlyVariables marks xs → OnlyVariables others ys → OnlyVariables (marks ++ others) (xs ++ ys)
only_append [] others [] ys e a b = b
only_append [] others (x ∷ xs) ys e a b = absurd (omega (arith, e))
only_append (mark ∷ marks) others [] ys e a b = absurd (omega (arith, e))
only_append (mark ∷ marks) others (x ∷ xs) ys e a b = let same : length marks ≡ length xs = omega (arith, e) in (a.0, only_append marks others xs ys same a.1 b)

only_where : (text : List ℕ) (are : Bool) (items : List Item) → OnlyVariables (map (λ item. are && is_named text item) items) items
only_where text are [] = tt
only_where text are (item ∷ items) = ((λ e. named_varid text item (both_right are (is_named text item) e)), only_where text are items)

only_equation : (owner : Owner) (text : List ℕ) (number : ℕ) (equation : Equation) → OnlyVariables (equation_marks owner text number equation) (equation_items equation)
only_equation owner text number equation =
    let own : Bool = is_same_owner (Owner.Equation number) owner in
    let here : Bool = is_same_owner (owner_in number equation text) owner in
    let named : Item → Bool = is_named text in (
      (λ e. named_varid text equation.name (both_right (is_same_owner Owner.TopLevel owner) (is_named text equation.name) e)),
      only_append (map (λ item. own && named item) equation.patterns) (false ∷ map (λ item. here && named item) (yield_of equation.body)) equation.patterns (equation.equals ∷ yield_of equation.body)
          (length-map equation.patterns (λ item. own && named item)) (only_where text own equation.patterns) ((λ e. absurd (true≢false (sym e))), only_where text here (yield_of equation.body)),
    )

only_from : (owner : Owner) (text : List ℕ) (number : ℕ) (equations : List Equation) → OnlyVariables (marks_from owner text number equations) (flat_map equation_items equations)
only_from owner text number [] = tt
only_from owner text number (equation ∷ equations) =
    only_append (equation_marks owner text number equation) (marks_from owner text (suc number) equations) (equation_items equation) (flat_map equation_items equations)
    (length_equation owner text number equation) (only_equation owner text number equation) (only_from owner text (suc number) equations)

-- only variables are marked
pub marked_are_variables : (owner : Owner) (text : List ℕ) (tree : Module) → OnlyVariables (occurrences_of owner text tree) (module_items tree)
marked_are_variables owner text tree = only_from owner text 0 tree.equations
