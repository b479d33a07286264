-- The expressions that are found are those that are read.
use Rattle.std.proofs.Common.{◌≡◌, ◌≤◌, ◌<◌, ℕ, zero, suc, true, List, [], ◌∷◌, length, Option, Some, None, refl, sym, subst, arith, ap}
use lib.Chars.{codes}
use Rattle.hr_base.specs.declared.lexeme.Ending.{Ending}
use Rattle.hr_base.specs.declared.lexeme.Item.{Item}
use Rattle.hr_rules.specs.declared.block.Placed.{Placed}
use Rattle.hr_tree.specs.declared.lists.Block.{Block}
use Rattle.hr_tree.specs.declared.lists.Listed.{Listed}
use Rattle.hr_tree.specs.declared.lists.Operand.{Operand}
use Rattle.hr_tree.specs.declared.names.Operator.{Operator}
use Rattle.hr_tree.specs.declared.patterns.Pat.{Pat}
use Rattle.hr_tree.specs.declared.types.Ty.{Ty}
use Rattle.hr_tree.specs.declared.expressions.Exp.{Exp, out-Exp, roll-Exp}
use Rattle.hr_tree.specs.declared.expressions.Decl.{Decl}
use Rattle.hr_tree.specs.declared.expressions.Alt.{Alt}
use Rattle.hr_tree.specs.declared.expressions.Qualifier.{Qualifier, out-Qualifier, roll-Qualifier}
use Rattle.hr_tree.specs.declared.expressions.Decl.TheOpen.{Exp-F, Qualifier-F}
use Rattle.hr_tree.specs.declared.expressions.Decl.TheViews.{roll-out-Exp, out-roll-Exp, roll-out-Qualifier, out-roll-Qualifier}
use Rattle.hr_tree.specs.Names.{operator_items}
use Rattle.hr_grammar.specs.Nodes.{Colons, TyPlace, PatPlace, ExpPlace, DeclPlace}
use Rattle.hr_grammar.specs.Expressions.{takes_operand, takes_open, takes_infix, takes_annotation}
use Rattle.hr_grammar.specs.Expressions as grammar
use Rattle.hr_grammar.specs.Spelled.{IsOperator}
use Rattle.hr_grammar.specs.Words.{IsComma, IsMinus, IsBackArrow, IsWord}
use Rattle.hr_grammar_cases.specs.Readings.{Reading, ◌▷◌, spelled}
use Rattle.hr_grammar_cases.specs.Readings as reading
use Rattle.hr_grammar_cases.specs.Expressions.{applied, closed, annotated, whole, exp_operands, qualifier_reading, qualifier_over, atom_reading, exp_reading, exp_over}
use Rattle.hr_grammar_finder_laws.specs.Ways.{Among, Way, Finder, ◌▶◌, on, made_by, one, maybe, inside}
use Rattle.hr_grammar_finder_laws.specs.Tests.{is_minus}
use Rattle.hr_grammar_finder_laws.specs.Names.{operators}
use Rattle.hr_grammar_finder_laws.specs.Expressions.{are_allowed, last_alone, operand_then, operands_by, exp_operands_found, qualifier_ways, qualifier_layers, qualifier_found, atom_ways, atom_layers, exp_ways, exp_layers, exp_found}
use Rattle.hr_grammar_finder_laws.specs.Expressions as found
use Rattle.hr_grammar_finder_laws.proofs.Ways.{among_left, among_right, Sound, Matches, Production, is_sound, either_sound, made_sound, made_found, followed_by_sound, followed_by_found, any_sound, chosen, on_sound, found_on, produced, produced_on, sound_production, made_matches, one_matches, then_matches, passing_matches, maybe_matches, inside_matches, so_matches, so_given, same_matches, with_ending}
use Rattle.hr_grammar_finder_laws.proofs.Tests.{tests_word, tests_reserved, tests_special, tests_literal, tests_minus, tests_no_minus, tests_one, tests_has_two, tests_parts, tests_sequence, tests_at}
use Rattle.hr_grammar_finder_laws.proofs.Lists.{Shrinks, in_turn_matches, separated_matches, all_fit, there_shrinks}
use Rattle.hr_grammar_finder_laws.proofs.Names.{one_shrinks, operator_shrinks, named_variables_match, constructors_match, operators_match}
use Rattle.hr_grammar_finder_laws.proofs.Takes.{Takes, some, first_takes, both_stay, one_takes, takes_by, maybe_stays}
use Rattle.hr_grammar_finder_laws.proofs.Finders.{Level}

-- any expression, without its ending
whole_matches : (b : Level) (n : ℕ) (free : Colons) → Matches (whole b.read n free) (found.whole b.found n free)
whole_matches b n free = inside_matches (b.each.exp n free ExpPlace.Whole)

placed_matches : (b : Level) (n : ℕ) (free : Colons) (place : ExpPlace) → Matches (λ x. reading.inside (b.read.exp n free place x)) (inside (b.found.exp n free place))
placed_matches b n free place = inside_matches (b.each.exp n free place)

placed_shrinks : (b : Level) (n : ℕ) (free : Colons) (place : ExpPlace) → Shrinks (λ x. reading.inside (b.read.exp n free place x))
placed_shrinks b n free place x ts us r = b.less.exp n free place (x, r.0) ts us r.1

-- operands
minus_matches : (n : ℕ) → Matches (reading.maybe (reading.one n IsMinus)) (maybe (one n is_minus))
minus_matches n = maybe_matches (one_matches n tests_minus)

minus_stays : (n : ℕ) (minus : Option Item) (ts us : List Placed) → reading.maybe (reading.one n IsMinus) minus ts us → length us ≤ length ts
minus_stays n minus = (maybe_stays (reading.one n IsMinus) (one_shrinks n IsMinus) minus).no_more

more_operands : (b : Level) (n : ℕ) (free : Colons) (last : ExpPlace) (minus : Option Item) (part : Exp) (operator : Operator) (rest : List (Operand Exp)) (ending : Ending) (ts us : List Placed)
    → (reading.maybe (reading.one n IsMinus) minus ▷ (reading.inside (b.read.exp n free ExpPlace.Operand part) ▷ (spelled n IsOperator operator_items operator ▷ exp_operands b.read n free last rest ending))) ts us
    → exp_operands b.read n free last (operand_then (minus, (part, (operator, (rest, ending))))).0 ending ts us
more_operands b n free last minus part operator [] ending ts us r = elim r.2.2.2 [ ]
more_operands b n free last minus part operator (next ∷ rest) ending ts us r = r

abbrev next_finder : Level → ℕ → Colons → ExpPlace → ℕ → Finder (Option Item × (Exp × (Operator × (List (Operand Exp) × Ending))))
next_finder b n free last k = maybe (one n is_minus) ▶ inside (b.found.exp n free ExpPlace.Operand) ▶ operators n ▶ operands_by b.found n free last k

operands_sound : (b : Level) (n : ℕ) (free : Colons) (last : ExpPlace) (k : ℕ) → Sound (λ (p : List (Operand Exp) × Ending). exp_operands b.read n free last p.0 p.1) (operands_by b.found n free last k)
operands_sound b n free last zero = record { sound = λ x ts us h. elim h [ ] }
operands_sound b n free last (suc k) =
    either_sound
    (made_sound last_alone (record { sound = λ p ts us h. (refl, (then_matches (minus_matches n) (b.each.exp n free last)).sound p ts us h) }))
    (made_sound operand_then (record {
      sound = λ p ts us h.
          more_operands b n free last p.0 p.1.0 p.1.1.0 p.1.1.1.0 p.1.1.1.1 ts us
          ((followed_by_sound {R = reading.maybe (reading.one n IsMinus)}
          {Q = λ x (p : Exp × (Operator × (List (Operand Exp) × Ending))). reading.inside (b.read.exp n free ExpPlace.Operand p.0) ▷ (spelled n IsOperator operator_items p.1.0 ▷ exp_operands b.read n free last p.1.1.0 p.1.1.1)}
          (is_sound (minus_matches n))
          (λ x. followed_by_sound {R = λ y. reading.inside (b.read.exp n free ExpPlace.Operand y)} {Q = λ y (p : Operator × (List (Operand Exp) × Ending)). spelled n IsOperator operator_items p.0 ▷ exp_operands b.read n free last p.1.0 p.1.1}
          (is_sound (placed_matches b n free ExpPlace.Operand))
          (λ y. followed_by_sound {R = spelled n IsOperator operator_items} {Q = λ z (p : List (Operand Exp) × Ending). exp_operands b.read n free last p.0 p.1} (is_sound (operators_match n)) (λ z. operands_sound b n free last k)))).sound p ts us h);
    }))

last_found : (b : Level) (n : ℕ) (free : Colons) (last : ExpPlace) (k : ℕ) (operand : Operand Exp) (ending : Ending) (ts us : List Placed) → operand.operator ≡ None
    → (reading.maybe (reading.one n IsMinus) operand.minus ▷ b.read.exp n free last operand.part ending) ts us
    → Among {T = Way (List (Operand Exp) × Ending)} ((operand ∷ [], ending), us) (operands_by b.found n free last (suc k) ts)
last_found b n free last k operand ending ts us e r =
    among_left _ (made_by last_alone (maybe (one n is_minus) ▶ b.found.exp n free last) ts) (made_by operand_then (next_finder b n free last k) ts)
    (subst (λ (o : Option Operator). Among {T = Way (List (Operand Exp) × Ending)} ((record { minus = operand.minus; part = operand.part; operator = o } ∷ [], ending), us) (made_by last_alone (maybe (one n is_minus) ▶ b.found.exp n free last) ts)) (sym e)
    (made_found last_alone (maybe (one n is_minus) ▶ b.found.exp n free last) (operand.minus, (operand.part, ending)) ts us
    ((then_matches (minus_matches n) (b.each.exp n free last)).complete (operand.minus, (operand.part, ending)) ts us r)))

more_found : (b : Level) (n : ℕ) (free : Colons) (last : ExpPlace) (k : ℕ) (minus : Option Item) (part : Exp) (operator : Option Operator) (rest : List (Operand Exp)) (ending : Ending) (ts vs ws os us : List Placed)
    → reading.maybe (reading.one n IsMinus) minus ts vs → reading.inside (b.read.exp n free ExpPlace.Operand part) vs ws → reading.there (spelled n IsOperator operator_items) operator ws os
    → Among {T = Way (List (Operand Exp) × Ending)} ((rest, ending), us) (operands_by b.found n free last k os)
    → Among {T = Way (List (Operand Exp) × Ending)} ((record { minus = minus; part = part; operator = operator } ∷ rest, ending), us) (operands_by b.found n free last (suc k) ts)
more_found b n free last k minus part None rest ending ts vs ws os us m r t h = elim t [ ]
more_found b n free last k minus part (Some operator) rest ending ts vs ws os us m r t h =
    among_right _ (made_by last_alone (maybe (one n is_minus) ▶ b.found.exp n free last) ts) (made_by operand_then (next_finder b n free last k) ts)
    (made_found operand_then (next_finder b n free last k) (minus, (part, (operator, (rest, ending)))) ts us
    (followed_by_found (maybe (one n is_minus)) (λ x. inside (b.found.exp n free ExpPlace.Operand) ▶ operators n ▶ operands_by b.found n free last k) minus (part, (operator, (rest, ending))) ts vs us ((minus_matches n).complete minus ts vs m)
    (followed_by_found (inside (b.found.exp n free ExpPlace.Operand)) (λ x. operators n ▶ operands_by b.found n free last k) part (operator, (rest, ending)) vs ws us ((placed_matches b n free ExpPlace.Operand).complete part vs ws r)
    (followed_by_found (operators n) (λ x. operands_by b.found n free last k) operator (rest, ending) ws os us ((operators_match n).complete operator ws os t) h))))

thrice_shorter : (a b c d k : ℕ) → a < b → b < c → c ≤ d → d ≤ suc k → a ≤ k
thrice_shorter a b c d k l m o p = omega arith

none_behind : {A : Type 0} (a b c : ℕ) → a < b → b ≤ c → c ≤ zero → A
none_behind a b c l m o = absurd (omega arith)

operands_complete : (b : Level) (n : ℕ) (free : Colons) (last : ExpPlace) (k : ℕ) (operands : List (Operand Exp)) (ending : Ending) (ts us : List Placed) → length ts ≤ k
    → exp_operands b.read n free last operands ending ts us → Among {T = Way (List (Operand Exp) × Ending)} ((operands, ending), us) (operands_by b.found n free last k ts)
operands_complete b n free last k [] ending ts us l r = elim r [ ]
operands_complete b n free last zero (x ∷ []) ending ts us l r =
    none_behind (length us) (length r.1.0) (length ts) (b.less.exp n free last (x.part, ending) r.1.0 us r.1.2) (minus_stays n x.minus ts r.1.0 r.1.1) l
operands_complete b n free last zero (x ∷ (y ∷ xs)) ending ts us l r =
    none_behind (length r.2.0) (length r.0) (length ts) (placed_shrinks b n free ExpPlace.Operand x.part r.0 r.2.0 r.2.1) (minus_stays n x.minus ts r.0 r.1) l
operands_complete b n free last (suc k) (x ∷ []) ending ts us l r = last_found b n free last k x ending ts us r.0 r.1
operands_complete b n free last (suc k) (x ∷ (y ∷ xs)) ending ts us l r =
    more_found b n free last k x.minus x.part x.operator (y ∷ xs) ending ts r.0 r.2.0 r.2.2.0 us r.1 r.2.1 r.2.2.1
    (operands_complete b n free last k (y ∷ xs) ending r.2.2.0 us
    (thrice_shorter (length r.2.2.0) (length r.2.0) (length r.0) (length ts) k (there_shrinks (spelled n IsOperator operator_items) (operator_shrinks n IsOperator) x.operator r.2.0 r.2.2.0 r.2.2.1) (placed_shrinks b n free ExpPlace.Operand x.part r.0 r.2.0 r.2.1) (minus_stays n x.minus ts r.0 r.1) l)
    r.2.2.2)

operands_match : (b : Level) (n : ℕ) (free : Colons) (last : ExpPlace) → Matches (λ (p : List (Operand Exp) × Ending). exp_operands b.read n free last p.0 p.1) (exp_operands_found b.found n free last)
operands_match b n free last = record {
  sound = λ p ts us h. (operands_sound b n free last (length ts)).sound p ts us h;
  complete = λ p ts us r. operands_complete b n free last (length ts) p.0 p.1 ts us (all_fit (length ts)) r;
}

-- qualifiers
abbrev generator_of : Pat × (Item × Exp) → Qualifier-F Decl Exp Qualifier Alt
generator_of p = Qualifier-F.Generator p.0 p.1.0 p.1.1

abbrev locals_of : Item × Block Decl → Qualifier-F Decl Exp Qualifier Alt
locals_of p = Qualifier-F.Locals p.0 p.1

abbrev generator : (b : Level) (n : ℕ) → Production (qualifier_reading b.read n) generator_of
generator b n = (_, then_matches (b.each.pat n PatPlace.Whole) (then_matches (one_matches n (tests_reserved (codes "<-"))) (whole_matches b n Colons.Allowed)))

abbrev locals : (b : Level) (n : ℕ) → Production (qualifier_reading b.read n) locals_of
locals b n = (_, then_matches (one_matches n (tests_word (codes "let"))) (b.each.declarations n DeclPlace.Local))

abbrev test : (b : Level) (n : ℕ) → Production (qualifier_reading b.read n) Qualifier-F.Test
test b n = (_, whole_matches b n Colons.Allowed)

qualifier_sound : (b : Level) (n : ℕ) → Sound (qualifier_reading b.read n) (qualifier_layers b.found n)
qualifier_sound b n =
    any_sound (qualifier_ways b.found n) (sound_production generator_of (generator b n), (sound_production locals_of (locals b n), (sound_production Qualifier-F.Test (test b n), tt)))

qualifier_complete : (b : Level) (n : ℕ) (layer : Qualifier-F Decl Exp Qualifier Alt) (ts us : List Placed) → qualifier_reading b.read n layer ts us
    → Among {T = Way (Qualifier-F Decl Exp Qualifier Alt)} (layer, us) (qualifier_layers b.found n ts)
qualifier_complete b n (Qualifier-F.Generator pattern arrow part) ts us r =
    chosen (qualifier_ways b.found n) 0 _ ts us (produced (qualifier_reading b.read n) generator_of (generator b n) (pattern, (arrow, part)) ts us r)
qualifier_complete b n (Qualifier-F.Locals word block) ts us r =
    chosen (qualifier_ways b.found n) 1 _ ts us (produced (qualifier_reading b.read n) locals_of (locals b n) (word, block) ts us r)
qualifier_complete b n (Qualifier-F.Test part) ts us r =
    chosen (qualifier_ways b.found n) 2 _ ts us (produced (qualifier_reading b.read n) Qualifier-F.Test (test b n) part ts us r)

qualifiers_match : (b : Level) (n : ℕ) → Matches (qualifier_over b.read n) (qualifier_found b.found n)
qualifiers_match b n =
    made_matches roll-Qualifier out-Qualifier (λ x. roll-out-Qualifier x)
    (same_matches (λ layer ts us r. subst (λ l. qualifier_reading b.read n l ts us) (sym (out-roll-Qualifier layer)) r) (λ layer ts us r. subst (λ l. qualifier_reading b.read n l ts us) (out-roll-Qualifier layer) r)
    (record { sound = (qualifier_sound b n).sound; complete = qualifier_complete b n }))

whole_takes : (b : Level) (n : ℕ) (part : Exp) → Takes (whole b.read n Colons.Allowed part)
whole_takes b n part = takes_by (λ x. reading.inside (b.read.exp n Colons.Allowed ExpPlace.Whole x)) (placed_shrinks b n Colons.Allowed ExpPlace.Whole) part

qualifier_takes : (b : Level) (n : ℕ) (layer : Qualifier-F Decl Exp Qualifier Alt) → Takes (qualifier_reading b.read n layer)
qualifier_takes b n (Qualifier-F.Generator pattern arrow part) =
    first_takes (takes_by (b.read.pat n PatPlace.Whole) (b.less.pat n PatPlace.Whole) pattern) (both_stay (some (one_takes n IsBackArrow arrow)) (some (whole_takes b n part)))
qualifier_takes b n (Qualifier-F.Locals word block) = first_takes (one_takes n (IsWord (codes "let")) word) (record { no_more = b.less.declarations n DeclPlace.Local block })
qualifier_takes b n (Qualifier-F.Test part) = whole_takes b n part

qualifiers_shrink : (b : Level) (n : ℕ) → Shrinks (qualifier_over b.read n)
qualifiers_shrink b n x = (qualifier_takes b n (out-Qualifier x)).fewer

-- atoms
abbrev variable_atom : (b : Level) (n : ℕ) → Production (atom_reading b.read n) Exp-F.Variable
variable_atom b n = (_, named_variables_match n)

abbrev constructor_atom : (b : Level) (n : ℕ) → Production (atom_reading b.read n) Exp-F.Constructor
constructor_atom b n = (_, constructors_match n)

abbrev literal_atom : (b : Level) (n : ℕ) → Production (atom_reading b.read n) Exp-F.Literal
literal_atom b n = (_, one_matches n tests_literal)

abbrev group_of : Item × (Exp × Item) → Exp-F Decl Exp Qualifier Alt
group_of p = Exp-F.Group p.0 p.1.0 p.1.1

abbrev group_atom : (b : Level) (n : ℕ) → Production (atom_reading b.read n) group_of
group_atom b n = (_, then_matches (one_matches n (tests_special (codes "("))) (then_matches (whole_matches b n Colons.Allowed) (one_matches n (tests_special (codes ")")))))

abbrev tuple_of : Item × (List (Listed Exp) × Item) → Exp-F Decl Exp Qualifier Alt
tuple_of p = Exp-F.Tuple p.0 p.1.0 p.1.1

abbrev tuple_atom : (b : Level) (n : ℕ) → Production (atom_reading b.read n) tuple_of
tuple_atom b n = (
  _,
  passing_matches (tests_at (λ (p : Item × (List (Listed Exp) × Item)). p.1.0) tests_parts)
      (then_matches (one_matches n (tests_special (codes "("))) (then_matches (separated_matches (one_matches n (tests_special (codes ","))) (whole_matches b n Colons.Allowed) (one_shrinks n IsComma) (placed_shrinks b n Colons.Allowed ExpPlace.Whole)) (one_matches n (tests_special (codes ")"))))),
)

abbrev list_of : Item × (List (Listed Exp) × Item) → Exp-F Decl Exp Qualifier Alt
list_of p = Exp-F.List p.0 p.1.0 p.1.1

abbrev list_atom : (b : Level) (n : ℕ) → Production (atom_reading b.read n) list_of
list_atom b n = (
  _,
  passing_matches (tests_at (λ (p : Item × (List (Listed Exp) × Item)). p.1.0) tests_one)
      (then_matches (one_matches n (tests_special (codes "["))) (then_matches (separated_matches (one_matches n (tests_special (codes ","))) (whole_matches b n Colons.Allowed) (one_shrinks n IsComma) (placed_shrinks b n Colons.Allowed ExpPlace.Whole)) (one_matches n (tests_special (codes "]"))))),
)

abbrev from_of : Item × (Exp × (Item × Item)) → Exp-F Decl Exp Qualifier Alt
from_of p = Exp-F.From p.0 p.1.0 p.1.1.0 p.1.1.1

abbrev from_atom : (b : Level) (n : ℕ) → Production (atom_reading b.read n) from_of
from_atom b n = (_, then_matches (one_matches n (tests_special (codes "["))) (then_matches (whole_matches b n Colons.Allowed) (then_matches (one_matches n (tests_reserved (codes ".."))) (one_matches n (tests_special (codes "]"))))))

abbrev from_then_of : Item × (Exp × (Item × (Exp × (Item × Item)))) → Exp-F Decl Exp Qualifier Alt
from_then_of p = Exp-F.FromThen p.0 p.1.0 p.1.1.0 p.1.1.1.0 p.1.1.1.1.0 p.1.1.1.1.1

abbrev from_then_atom : (b : Level) (n : ℕ) → Production (atom_reading b.read n) from_then_of
from_then_atom b n = (_, then_matches (one_matches n (tests_special (codes "["))) (then_matches (whole_matches b n Colons.Allowed) (then_matches (one_matches n (tests_special (codes ","))) (then_matches (whole_matches b n Colons.Allowed) (then_matches (one_matches n (tests_reserved (codes ".."))) (one_matches n (tests_special (codes "]"))))))))

abbrev from_to_of : Item × (Exp × (Item × (Exp × Item))) → Exp-F Decl Exp Qualifier Alt
from_to_of p = Exp-F.FromTo p.0 p.1.0 p.1.1.0 p.1.1.1.0 p.1.1.1.1

abbrev from_to_atom : (b : Level) (n : ℕ) → Production (atom_reading b.read n) from_to_of
from_to_atom b n = (_, then_matches (one_matches n (tests_special (codes "["))) (then_matches (whole_matches b n Colons.Allowed) (then_matches (one_matches n (tests_reserved (codes ".."))) (then_matches (whole_matches b n Colons.Allowed) (one_matches n (tests_special (codes "]")))))))

abbrev from_then_to_of : Item × (Exp × (Item × (Exp × (Item × (Exp × Item))))) → Exp-F Decl Exp Qualifier Alt
from_then_to_of p = Exp-F.FromThenTo p.0 p.1.0 p.1.1.0 p.1.1.1.0 p.1.1.1.1.0 p.1.1.1.1.1.0 p.1.1.1.1.1.1

abbrev from_then_to_atom : (b : Level) (n : ℕ) → Production (atom_reading b.read n) from_then_to_of
from_then_to_atom b n = (_, then_matches (one_matches n (tests_special (codes "["))) (then_matches (whole_matches b n Colons.Allowed) (then_matches (one_matches n (tests_special (codes ","))) (then_matches (whole_matches b n Colons.Allowed) (then_matches (one_matches n (tests_reserved (codes ".."))) (then_matches (whole_matches b n Colons.Allowed) (one_matches n (tests_special (codes "]")))))))))

abbrev comprehension_of : Item × (Exp × (Item × (List (Listed Qualifier) × Item))) → Exp-F Decl Exp Qualifier Alt
comprehension_of p = Exp-F.Comprehension p.0 p.1.0 p.1.1.0 p.1.1.1.0 p.1.1.1.1

abbrev comprehension_atom : (b : Level) (n : ℕ) → Production (atom_reading b.read n) comprehension_of
comprehension_atom b n = (
  _,
  passing_matches (tests_at (λ (p : Item × (Exp × (Item × (List (Listed Qualifier) × Item)))). p.1.1.1.0) tests_one)
      (then_matches (one_matches n (tests_special (codes "["))) (then_matches (whole_matches b n Colons.Allowed) (then_matches (one_matches n (tests_reserved (codes "|"))) (then_matches (separated_matches (one_matches n (tests_special (codes ","))) (qualifiers_match b n) (one_shrinks n IsComma) (qualifiers_shrink b n)) (one_matches n (tests_special (codes "]"))))))),
)

abbrev left_section_of : Item × (Exp × (Operator × Item)) → Exp-F Decl Exp Qualifier Alt
left_section_of p = Exp-F.LeftSection p.0 p.1.0 p.1.1.0 p.1.1.1

abbrev left_section_atom : (b : Level) (n : ℕ) → Production (atom_reading b.read n) left_section_of
left_section_atom b n = (_, then_matches (one_matches n (tests_special (codes "("))) (then_matches (placed_matches b n Colons.Allowed ExpPlace.Sequence) (then_matches (operators_match n) (one_matches n (tests_special (codes ")"))))))

abbrev right_section_of : Item × (Operator × (Exp × Item)) → Exp-F Decl Exp Qualifier Alt
right_section_of p = Exp-F.RightSection p.0 p.1.0 p.1.1.0 p.1.1.1

abbrev right_section_atom : (b : Level) (n : ℕ) → Production (atom_reading b.read n) right_section_of
right_section_atom b n = (
  _,
  passing_matches (tests_at (λ (p : Item × (Operator × (Exp × Item))). p.1.0) tests_no_minus)
      (then_matches (one_matches n (tests_special (codes "("))) (then_matches (operators_match n) (then_matches (placed_matches b n Colons.Allowed ExpPlace.Sequence) (one_matches n (tests_special (codes ")")))))),
)

atoms_sound : (b : Level) (n : ℕ) → Sound (atom_reading b.read n) (atom_layers b.found n)
atoms_sound b n =
    any_sound (atom_ways b.found n) (
      sound_production Exp-F.Variable (variable_atom b n),
      (
        sound_production Exp-F.Constructor (constructor_atom b n),
        (
          sound_production Exp-F.Literal (literal_atom b n),
          (
            sound_production group_of (group_atom b n),
            (
              sound_production tuple_of (tuple_atom b n),
              (
                sound_production list_of (list_atom b n),
                (
                  sound_production from_of (from_atom b n),
                  (
                    sound_production from_then_of (from_then_atom b n),
                    (
                      sound_production from_to_of (from_to_atom b n),
                      (
                        sound_production from_then_to_of (from_then_to_atom b n),
                        (
                          sound_production comprehension_of (comprehension_atom b n),
                          (
                            sound_production left_section_of (left_section_atom b n),
                            (
                              sound_production right_section_of (right_section_atom b n),
                              tt,
                            ),
                          ),
                        ),
                      ),
                    ),
                  ),
                ),
              ),
            ),
          ),
        ),
      ),
    )

atoms_complete : (b : Level) (n : ℕ) (layer : Exp-F Decl Exp Qualifier Alt) (ts us : List Placed) → atom_reading b.read n layer ts us
    → Among {T = Way (Exp-F Decl Exp Qualifier Alt)} (layer, us) (atom_layers b.found n ts)
atoms_complete b n (Exp-F.Variable used) ts us r =
    chosen (atom_ways b.found n) 0 _ ts us (produced (atom_reading b.read n) Exp-F.Variable (variable_atom b n) used ts us r)
atoms_complete b n (Exp-F.Constructor named) ts us r =
    chosen (atom_ways b.found n) 1 _ ts us (produced (atom_reading b.read n) Exp-F.Constructor (constructor_atom b n) named ts us r)
atoms_complete b n (Exp-F.Literal item) ts us r =
    chosen (atom_ways b.found n) 2 _ ts us (produced (atom_reading b.read n) Exp-F.Literal (literal_atom b n) item ts us r)
atoms_complete b n (Exp-F.Group left part right) ts us r =
    chosen (atom_ways b.found n) 3 _ ts us (produced (atom_reading b.read n) group_of (group_atom b n) (left, (part, right)) ts us r)
atoms_complete b n (Exp-F.Tuple left parts right) ts us r =
    chosen (atom_ways b.found n) 4 _ ts us (produced (atom_reading b.read n) tuple_of (tuple_atom b n) (left, (parts, right)) ts us r)
atoms_complete b n (Exp-F.List left parts right) ts us r =
    chosen (atom_ways b.found n) 5 _ ts us (produced (atom_reading b.read n) list_of (list_atom b n) (left, (parts, right)) ts us r)
atoms_complete b n (Exp-F.From left part dots right) ts us r =
    chosen (atom_ways b.found n) 6 _ ts us (produced (atom_reading b.read n) from_of (from_atom b n) (left, (part, (dots, right))) ts us r)
atoms_complete b n (Exp-F.FromThen left part comma second dots right) ts us r =
    chosen (atom_ways b.found n) 7 _ ts us (produced (atom_reading b.read n) from_then_of (from_then_atom b n) (left, (part, (comma, (second, (dots, right))))) ts us r)
atoms_complete b n (Exp-F.FromTo left part dots last right) ts us r =
    chosen (atom_ways b.found n) 8 _ ts us (produced (atom_reading b.read n) from_to_of (from_to_atom b n) (left, (part, (dots, (last, right)))) ts us r)
atoms_complete b n (Exp-F.FromThenTo left part comma second dots last right) ts us r =
    chosen (atom_ways b.found n) 9 _ ts us (produced (atom_reading b.read n) from_then_to_of (from_then_to_atom b n) (left, (part, (comma, (second, (dots, (last, right)))))) ts us r)
atoms_complete b n (Exp-F.Comprehension left part bar qualifiers right) ts us r =
    chosen (atom_ways b.found n) 10 _ ts us (produced (atom_reading b.read n) comprehension_of (comprehension_atom b n) (left, (part, (bar, (qualifiers, right)))) ts us r)
atoms_complete b n (Exp-F.LeftSection left part operator right) ts us r =
    chosen (atom_ways b.found n) 11 _ ts us (produced (atom_reading b.read n) left_section_of (left_section_atom b n) (left, (part, (operator, right))) ts us r)
atoms_complete b n (Exp-F.RightSection left operator part right) ts us r =
    chosen (atom_ways b.found n) 12 _ ts us (produced (atom_reading b.read n) right_section_of (right_section_atom b n) (left, (operator, (part, right))) ts us r)
atoms_complete b n (Exp-F.Apply atoms) ts us r = elim r [ ]
atoms_complete b n (Exp-F.Infix operands) ts us r = elim r [ ]
atoms_complete b n (Exp-F.Annotated part colons ty) ts us r = elim r [ ]
atoms_complete b n (Exp-F.Lambda mark patterns arrow body) ts us r = elim r [ ]
atoms_complete b n (Exp-F.Let word block in_word body) ts us r = elim r [ ]
atoms_complete b n (Exp-F.If word test then_word first else_word second) ts us r = elim r [ ]
atoms_complete b n (Exp-F.Case word part of_word block) ts us r = elim r [ ]
atoms_complete b n (Exp-F.Fields part left fields right) ts us r = elim r [ ]

atoms_match : (b : Level) (n : ℕ) → Matches (atom_reading b.read n) (atom_layers b.found n)
atoms_match b n = record { sound = (atoms_sound b n).sound; complete = atoms_complete b n }

-- an atom ends as it does
atom_read : (b : Level) (n : ℕ) (free : Colons) (place : ExpPlace) (layer : Exp-F Decl Exp Qualifier Alt) (ts us : List Placed) → atom_reading b.read n layer ts us → exp_reading b.read n free place layer applied ts us
atom_read b n free place (Exp-F.Variable used) ts us r = (refl, r)
atom_read b n free place (Exp-F.Constructor named) ts us r = (refl, r)
atom_read b n free place (Exp-F.Literal item) ts us r = (refl, r)
atom_read b n free place (Exp-F.Group left part right) ts us r = (refl, r)
atom_read b n free place (Exp-F.Tuple left parts right) ts us r = (refl, r)
atom_read b n free place (Exp-F.List left parts right) ts us r = (refl, r)
atom_read b n free place (Exp-F.From left part dots right) ts us r = (refl, r)
atom_read b n free place (Exp-F.FromThen left part comma second dots right) ts us r = (refl, r)
atom_read b n free place (Exp-F.FromTo left part dots last right) ts us r = (refl, r)
atom_read b n free place (Exp-F.FromThenTo left part comma second dots last right) ts us r = (refl, r)
atom_read b n free place (Exp-F.Comprehension left part bar qualifiers right) ts us r = (refl, r)
atom_read b n free place (Exp-F.LeftSection left part operator right) ts us r = (refl, r)
atom_read b n free place (Exp-F.RightSection left operator part right) ts us r = (refl, r)
atom_read b n free place (Exp-F.Apply atoms) ts us r = elim r [ ]
atom_read b n free place (Exp-F.Infix operands) ts us r = elim r [ ]
atom_read b n free place (Exp-F.Annotated part colons ty) ts us r = elim r [ ]
atom_read b n free place (Exp-F.Lambda mark patterns arrow body) ts us r = elim r [ ]
atom_read b n free place (Exp-F.Let word block in_word body) ts us r = elim r [ ]
atom_read b n free place (Exp-F.If word test then_word first else_word second) ts us r = elim r [ ]
atom_read b n free place (Exp-F.Case word part of_word block) ts us r = elim r [ ]
atom_read b n free place (Exp-F.Fields part left fields right) ts us r = elim r [ ]

-- the other expressions, each with its ending
abbrev ExpReading : Level → ℕ → Colons → ExpPlace → Exp-F Decl Exp Qualifier Alt × Ending → Reading
ExpReading b n free place p = exp_reading b.read n free place p.0 p.1

abbrev apply_of : List Exp → Exp-F Decl Exp Qualifier Alt × Ending
apply_of atoms = (Exp-F.Apply atoms, applied)

abbrev case_of : Item × (Exp × (Item × Block Alt)) → Exp-F Decl Exp Qualifier Alt × Ending
case_of p = (Exp-F.Case p.0 p.1.0 p.1.1.0 p.1.1.1, closed)

abbrev lambda_of : Item × (List Pat × (Item × (Exp × Ending))) → Exp-F Decl Exp Qualifier Alt × Ending
lambda_of p = (Exp-F.Lambda p.0 p.1.0 p.1.1.0 p.1.1.1.0, p.1.1.1.1)

abbrev let_of : Item × (Block Decl × (Item × (Exp × Ending))) → Exp-F Decl Exp Qualifier Alt × Ending
let_of p = (Exp-F.Let p.0 p.1.0 p.1.1.0 p.1.1.1.0, p.1.1.1.1)

abbrev if_of : Item × (Exp × (Item × (Exp × (Item × (Exp × Ending))))) → Exp-F Decl Exp Qualifier Alt × Ending
if_of p = (Exp-F.If p.0 p.1.0 p.1.1.0 p.1.1.1.0 p.1.1.1.1.0 p.1.1.1.1.1.0, p.1.1.1.1.1.1)

abbrev infix_of : List (Operand Exp) × Ending → Exp-F Decl Exp Qualifier Alt × Ending
infix_of p = (Exp-F.Infix p.0, p.1)

abbrev annotated_of : Exp × (Item × Ty) → Exp-F Decl Exp Qualifier Alt × Ending
annotated_of p = (Exp-F.Annotated p.0 p.1.0 p.1.1, annotated)

abbrev apply : (b : Level) (n : ℕ) (free : Colons) (place : ExpPlace) → takes_operand place ≡ true → Production (ExpReading b n free place) apply_of
apply b n free place e =
    (_, so_given refl (so_given e (passing_matches tests_has_two (in_turn_matches (placed_matches b n free ExpPlace.Atom) (placed_shrinks b n free ExpPlace.Atom)))))

abbrev case : (b : Level) (n : ℕ) (free : Colons) (place : ExpPlace) → takes_operand place ≡ true → Production (ExpReading b n free place) case_of
case b n free place e = (_, so_matches (refl, e) (then_matches (one_matches n (tests_word (codes "case"))) (then_matches (whole_matches b n free) (then_matches (one_matches n (tests_word (codes "of"))) (b.each.alternatives n)))))

abbrev lambda : (b : Level) (n : ℕ) (free : Colons) (place : ExpPlace) → takes_open place ≡ true → Production (ExpReading b n free place) lambda_of
lambda b n free place e = (
  _,
  so_given e (passing_matches (tests_at (λ (p : Item × (List Pat × (Item × (Exp × Ending)))). p.1.0) tests_one)
      (then_matches (one_matches n (tests_reserved (codes "\\"))) (then_matches (in_turn_matches (b.each.pat n PatPlace.Atomic) (b.less.pat n PatPlace.Atomic)) (then_matches (one_matches n (tests_reserved (codes "->"))) (b.each.exp n free ExpPlace.Whole))))),
)

abbrev let_in : (b : Level) (n : ℕ) (free : Colons) (place : ExpPlace) → takes_open place ≡ true → Production (ExpReading b n free place) let_of
let_in b n free place e = (_, so_matches e (then_matches (one_matches n (tests_word (codes "let"))) (then_matches (b.each.declarations n DeclPlace.Local) (then_matches (one_matches n (tests_word (codes "in"))) (b.each.exp n free ExpPlace.Whole)))))

abbrev if_then : (b : Level) (n : ℕ) (free : Colons) (place : ExpPlace) → takes_open place ≡ true → Production (ExpReading b n free place) if_of
if_then b n free place e = (_, so_matches e (then_matches (one_matches n (tests_word (codes "if"))) (then_matches (whole_matches b n free) (then_matches (one_matches n (tests_word (codes "then"))) (then_matches (whole_matches b n free) (then_matches (one_matches n (tests_word (codes "else"))) (b.each.exp n free ExpPlace.Whole)))))))

abbrev infix_all : (b : Level) (n : ℕ) (free : Colons) (place : ExpPlace) → takes_infix place ≡ true → Production (ExpReading b n free place) infix_of
infix_all b n free place e =
    (_, so_given e (passing_matches (tests_at (λ (p : List (Operand Exp) × Ending). p.0) tests_sequence) (operands_match b n free (grammar.last_operand place))))

abbrev annotation : (b : Level) (n : ℕ) (free : Colons) (place : ExpPlace) → takes_annotation place ≡ true → free ≡ Colons.Allowed → Production (ExpReading b n free place) annotated_of
annotation b n free place e f = (_, so_matches (refl, (e, f)) (then_matches (placed_matches b n Colons.Allowed ExpPlace.Annotated) (then_matches (one_matches n (tests_reserved (codes "::"))) (b.each.ty n TyPlace.Whole))))

allowed_is : (free : Colons) → are_allowed free ≡ true → free ≡ Colons.Allowed
allowed_is Colons.Allowed e = refl
allowed_is Colons.Barred e = let no : ⊥ = cc in elim no [ ]

exps_sound : (b : Level) (n : ℕ) (free : Colons) (place : ExpPlace) → Sound (ExpReading b n free place) (exp_layers b.found n free place)
exps_sound b n free place =
    any_sound (exp_ways b.found n free place) (
      made_sound (λ x. (x, applied)) (record { sound = λ x ts us h. atom_read b n free place x ts us ((atoms_match b n).sound x ts us h) }),
      (
        on_sound (takes_operand place) (λ e. sound_production apply_of (apply b n free place e)),
        (
          on_sound (takes_operand place) (λ e. sound_production case_of (case b n free place e)),
          (
            on_sound (takes_open place) (λ e. sound_production lambda_of (lambda b n free place e)),
            (
              on_sound (takes_open place) (λ e. sound_production let_of (let_in b n free place e)),
              (
                on_sound (takes_open place) (λ e. sound_production if_of (if_then b n free place e)),
                (
                  on_sound (takes_infix place) (λ e. sound_production infix_of (infix_all b n free place e)),
                  (on_sound (takes_annotation place) (λ e. on_sound (are_allowed free) (λ f. sound_production annotated_of (annotation b n free place e (allowed_is free f)))), tt),
                ),
              ),
            ),
          ),
        ),
      ),
    )

found_atom : (b : Level) (n : ℕ) (free : Colons) (place : ExpPlace) (layer : Exp-F Decl Exp Qualifier Alt) (ending : Ending) (ts us : List Placed) → ending ≡ applied → atom_reading b.read n layer ts us
    → Among {T = Way (Exp-F Decl Exp Qualifier Alt × Ending)} ((layer, ending), us) (exp_layers b.found n free place ts)
found_atom b n free place layer ending ts us e r =
    chosen (exp_ways b.found n free place) 0 (layer, ending) ts us
    (subst (λ k. Among {T = Way (Exp-F Decl Exp Qualifier Alt × Ending)} ((layer, k), us) (made_by (λ x. (x, applied)) (atom_layers b.found n) ts)) (sym e)
    (made_found (λ x. (x, applied)) (atom_layers b.found n) layer ts us ((atoms_match b n).complete layer ts us r)))

exps_complete : (b : Level) (n : ℕ) (free : Colons) (place : ExpPlace) (layer : Exp-F Decl Exp Qualifier Alt) (ending : Ending) (ts us : List Placed) → exp_reading b.read n free place layer ending ts us
    → Among {T = Way (Exp-F Decl Exp Qualifier Alt × Ending)} ((layer, ending), us) (exp_layers b.found n free place ts)
exps_complete b n free place (Exp-F.Apply atoms) ending ts us r =
    with_ending (λ k. exp_reading b.read n free place (Exp-F.Apply atoms) k ts us) (Exp-F.Apply atoms) ending applied us (exp_layers b.found n free place ts) r.0.0
    (λ r. chosen (exp_ways b.found n free place) 1 _ ts us (produced_on (ExpReading b n free place) apply_of (takes_operand place) r.0.1.0 (apply b n free place r.0.1.0) atoms ts us r)) r
exps_complete b n free place (Exp-F.Case word part of_word block) ending ts us r =
    with_ending (λ k. exp_reading b.read n free place (Exp-F.Case word part of_word block) k ts us) (Exp-F.Case word part of_word block) ending closed us (exp_layers b.found n free place ts) r.0.0
    (λ r. chosen (exp_ways b.found n free place) 2 _ ts us (produced_on (ExpReading b n free place) case_of (takes_operand place) r.0.1 (case b n free place r.0.1) (word, (part, (of_word, block))) ts us r)) r
exps_complete b n free place (Exp-F.Lambda mark patterns arrow body) ending ts us r =
    chosen (exp_ways b.found n free place) 3 _ ts us (produced_on (ExpReading b n free place) lambda_of (takes_open place) r.0.0 (lambda b n free place r.0.0) (mark, (patterns, (arrow, (body, ending)))) ts us r)
exps_complete b n free place (Exp-F.Let word block in_word body) ending ts us r =
    chosen (exp_ways b.found n free place) 4 _ ts us (produced_on (ExpReading b n free place) let_of (takes_open place) r.0 (let_in b n free place r.0) (word, (block, (in_word, (body, ending)))) ts us r)
exps_complete b n free place (Exp-F.If word test then_word first else_word second) ending ts us r =
    chosen (exp_ways b.found n free place) 5 _ ts us
    (produced_on (ExpReading b n free place) if_of (takes_open place) r.0 (if_then b n free place r.0) (word, (test, (then_word, (first, (else_word, (second, ending)))))) ts us r)
exps_complete b n free place (Exp-F.Infix operands) ending ts us r =
    chosen (exp_ways b.found n free place) 6 _ ts us (produced_on (ExpReading b n free place) infix_of (takes_infix place) r.0.0 (infix_all b n free place r.0.0) (operands, ending) ts us r)
exps_complete b n free place (Exp-F.Annotated part colons ty) ending ts us r =
    with_ending (λ k. exp_reading b.read n free place (Exp-F.Annotated part colons ty) k ts us) (Exp-F.Annotated part colons ty) ending annotated us (exp_layers b.found n free place ts) r.0.0
    (λ r. chosen (exp_ways b.found n free place) 7 _ ts us
    (found_on (takes_annotation place) (on (are_allowed free) (made_by annotated_of (annotation b n free place r.0.1.0 r.0.1.1).0)) (annotated_of (part, (colons, ty)), us) ts r.0.1.0
    (produced_on (ExpReading b n free place) annotated_of (are_allowed free) (ap are_allowed r.0.1.1) (annotation b n free place r.0.1.0 r.0.1.1) (part, (colons, ty)) ts us r))) r
exps_complete b n free place (Exp-F.Fields part left fields right) ending ts us r = elim r [ ]
exps_complete b n free place (Exp-F.Variable used) ending ts us r = found_atom b n free place (Exp-F.Variable used) ending ts us r.0 r.1
exps_complete b n free place (Exp-F.Constructor named) ending ts us r = found_atom b n free place (Exp-F.Constructor named) ending ts us r.0 r.1
exps_complete b n free place (Exp-F.Literal item) ending ts us r = found_atom b n free place (Exp-F.Literal item) ending ts us r.0 r.1
exps_complete b n free place (Exp-F.Group left part right) ending ts us r = found_atom b n free place (Exp-F.Group left part right) ending ts us r.0 r.1
exps_complete b n free place (Exp-F.Tuple left parts right) ending ts us r = found_atom b n free place (Exp-F.Tuple left parts right) ending ts us r.0 r.1
exps_complete b n free place (Exp-F.List left parts right) ending ts us r = found_atom b n free place (Exp-F.List left parts right) ending ts us r.0 r.1
exps_complete b n free place (Exp-F.From left part dots right) ending ts us r = found_atom b n free place (Exp-F.From left part dots right) ending ts us r.0 r.1
exps_complete b n free place (Exp-F.FromThen left part comma second dots right) ending ts us r = found_atom b n free place (Exp-F.FromThen left part comma second dots right) ending ts us r.0 r.1
exps_complete b n free place (Exp-F.FromTo left part dots last right) ending ts us r = found_atom b n free place (Exp-F.FromTo left part dots last right) ending ts us r.0 r.1
exps_complete b n free place (Exp-F.FromThenTo left part comma second dots last right) ending ts us r = found_atom b n free place (Exp-F.FromThenTo left part comma second dots last right) ending ts us r.0 r.1
exps_complete b n free place (Exp-F.Comprehension left part bar qualifiers right) ending ts us r = found_atom b n free place (Exp-F.Comprehension left part bar qualifiers right) ending ts us r.0 r.1
exps_complete b n free place (Exp-F.LeftSection left part operator right) ending ts us r = found_atom b n free place (Exp-F.LeftSection left part operator right) ending ts us r.0 r.1
exps_complete b n free place (Exp-F.RightSection left operator part right) ending ts us r = found_atom b n free place (Exp-F.RightSection left operator part right) ending ts us r.0 r.1

exps_match : (b : Level) (n : ℕ) (free : Colons) (place : ExpPlace) → Matches (ExpReading b n free place) (exp_layers b.found n free place)
exps_match b n free place = record { sound = (exps_sound b n free place).sound; complete = λ p ts us r. exps_complete b n free place p.0 p.1 ts us r }

pub exp_matches : (b : Level) (n : ℕ) (free : Colons) (place : ExpPlace) → Matches (λ (p : Exp × Ending). exp_over b.read n free place p.0 p.1) (exp_found b.found n free place)
exp_matches b n free place =
    made_matches (λ (p : Exp-F Decl Exp Qualifier Alt × Ending). (roll-Exp p.0, p.1)) (λ (p : Exp × Ending). (out-Exp p.0, p.1)) (λ p j. (roll-out-Exp p.0 j, p.1))
    (same_matches (λ p ts us r. subst (λ l. exp_reading b.read n free place l p.1 ts us) (sym (out-roll-Exp p.0)) r) (λ p ts us r. subst (λ l. exp_reading b.read n free place l p.1 ts us) (out-roll-Exp p.0) r)
    (exps_match b n free place))
