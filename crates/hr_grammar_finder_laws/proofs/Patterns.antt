-- The patterns that are found are those that are read.
use Rattle.std.proofs.Common.{◌≡◌, ◌≤◌, ℕ, zero, suc, true, List, [], ◌∷◌, length, Option, Some, None, refl, sym, subst}
use lib.Chars.{codes}
use Rattle.hr_base.specs.declared.lexeme.Class.{Class}
use Rattle.hr_base.specs.declared.lexeme.Item.{Item}
use Rattle.hr_rules.specs.declared.block.Placed.{Placed}
use Rattle.hr_tree.specs.declared.lists.Listed.{Listed}
use Rattle.hr_tree.specs.declared.lists.Operand.{Operand}
use Rattle.hr_tree.specs.declared.names.Constructor.{Constructor}
use Rattle.hr_tree.specs.declared.names.Operator.{Operator}
use Rattle.hr_tree.specs.declared.names.Variable.{Variable}
use Rattle.hr_tree.specs.declared.patterns.Pat.{Pat, out-Pat, roll-Pat}
use Rattle.hr_tree.specs.declared.patterns.Pat.TheOpen.{Pat-F}
use Rattle.hr_tree.specs.declared.patterns.Pat.TheViews.{roll-out-Pat, out-roll-Pat}
use Rattle.hr_tree.specs.Names.{operator_items}
use Rattle.hr_grammar.specs.Nodes.{PatPlace}
use Rattle.hr_grammar.specs.Patterns.{takes_operand, takes_infix}
use Rattle.hr_grammar.specs.Spelled.{IsConstructorOperator}
use Rattle.hr_grammar.specs.Words.{IsComma}
use Rattle.hr_grammar_cases.specs.Readings.{◌▷◌, spelled}
use Rattle.hr_grammar_cases.specs.Readings as reading
use Rattle.hr_grammar_cases.specs.Patterns.{pat_operands, pat_reading, pat_over}
use Rattle.hr_grammar_finder_laws.specs.Ways.{Among, Way, ◌▶◌, made_by}
use Rattle.hr_grammar_finder_laws.specs.Names.{constructor_operators}
use Rattle.hr_grammar_finder_laws.specs.Patterns.{last_operand, operand_then, operands_by, pat_operands_found, pat_ways, pat_layers, pat_found}
use Rattle.hr_grammar_finder_laws.proofs.Ways.{among_left, among_right, Sound, Matches, Production, is_sound, either_sound, made_sound, made_found, followed_by_sound, followed_by_found, any_sound, chosen, on_sound, produced, produced_on, sound_production, made_matches, one_matches, then_matches, passing_matches, so_matches, so_given, same_matches}
use Rattle.hr_grammar_finder_laws.proofs.Tests.{tests_of, tests_word, tests_reserved, tests_special, tests_literal, tests_minus, tests_one, tests_has_two, tests_parts, tests_at}
use Rattle.hr_grammar_finder_laws.proofs.Lists.{in_turn_matches, separated_matches, none_left, all_fit, twice_shorter, there_shrinks}
use Rattle.hr_grammar_finder_laws.proofs.Names.{one_shrinks, operator_shrinks, variables_match, constructors_match, constructor_operators_match}
use Rattle.hr_grammar_finder_laws.proofs.Finders.{Level}

-- operands
more_operands : (b : Level) (n : ℕ) (part : Pat) (operator : Operator) (rest : List (Operand Pat)) (ts us : List Placed)
    → (b.read.pat n PatPlace.Operand part ▷ (spelled n IsConstructorOperator operator_items operator ▷ pat_operands b.read n rest)) ts us
    → pat_operands b.read n (operand_then (part, (operator, rest))) ts us
more_operands b n part operator [] ts us r = elim r.2.2 [ ]
more_operands b n part operator (next ∷ rest) ts us r = (refl, r)

operands_sound : (b : Level) (n k : ℕ) → Sound (pat_operands b.read n) (operands_by b.found n k)
operands_sound b n zero = record { sound = λ x ts us h. elim h [ ] }
operands_sound b n (suc k) =
    either_sound (made_sound last_operand (record { sound = λ x ts us h. ((refl, refl), (b.each.pat n PatPlace.Operand).sound x ts us h) }))
    (made_sound operand_then (record {
      sound = λ p ts us h.
          more_operands b n p.0 p.1.0 p.1.1 ts us
          ((followed_by_sound {R = b.read.pat n PatPlace.Operand} {Q = λ x p. spelled n IsConstructorOperator operator_items p.0 ▷ pat_operands b.read n p.1} (is_sound (b.each.pat n PatPlace.Operand))
          (λ x. followed_by_sound {R = spelled n IsConstructorOperator operator_items} {Q = λ y. pat_operands b.read n} (is_sound (constructor_operators_match n)) (λ y. operands_sound b n k))).sound p ts us h);
    }))

last_found : (b : Level) (n k : ℕ) (operand : Operand Pat) (ts us : List Placed) → operand.minus ≡ None → operand.operator ≡ None → b.read.pat n PatPlace.Operand operand.part ts us
    → Among {T = Way (List (Operand Pat))} (operand ∷ [], us) (operands_by b.found n (suc k) ts)
last_found b n k operand ts us e f r =
    among_left (operand ∷ [], us) (made_by last_operand (b.found.pat n PatPlace.Operand) ts) _
    (subst (λ (m : Option Item). Among {T = Way (List (Operand Pat))} (record { minus = m; part = operand.part; operator = operand.operator } ∷ [], us) (made_by last_operand (b.found.pat n PatPlace.Operand) ts)) (sym e)
    (subst (λ (o : Option Operator). Among {T = Way (List (Operand Pat))} (record { minus = None; part = operand.part; operator = o } ∷ [], us) (made_by last_operand (b.found.pat n PatPlace.Operand) ts)) (sym f)
    (made_found last_operand (b.found.pat n PatPlace.Operand) operand.part ts us ((b.each.pat n PatPlace.Operand).complete operand.part ts us r))))

more_found : (b : Level) (n k : ℕ) (minus : Option Item) (part : Pat) (operator : Option Operator) (rest : List (Operand Pat)) (ts vs ws us : List Placed) → minus ≡ None
    → b.read.pat n PatPlace.Operand part ts vs → reading.there (spelled n IsConstructorOperator operator_items) operator vs ws
    → Among {T = Way (List (Operand Pat))} (rest, us) (operands_by b.found n k ws)
    → Among {T = Way (List (Operand Pat))} (record { minus = minus; part = part; operator = operator } ∷ rest, us) (operands_by b.found n (suc k) ts)
more_found b n k (Some item) part operator rest ts vs ws us e r t h = let never : ⊥ = cc in elim never [ ]
more_found b n k None part None rest ts vs ws us e r t h = elim t [ ]
more_found b n k None part (Some operator) rest ts vs ws us e r t h =
    among_right _ (made_by last_operand (b.found.pat n PatPlace.Operand) ts) _
    (made_found operand_then (b.found.pat n PatPlace.Operand ▶ constructor_operators n ▶ operands_by b.found n k) (part, (operator, rest)) ts us
    (followed_by_found (b.found.pat n PatPlace.Operand) (λ x. constructor_operators n ▶ operands_by b.found n k) part (operator, rest) ts vs us ((b.each.pat n PatPlace.Operand).complete part ts vs r)
    (followed_by_found (constructor_operators n) (λ x. operands_by b.found n k) operator rest vs ws us ((constructor_operators_match n).complete operator vs ws t) h)))

operands_complete : (b : Level) (n k : ℕ) (operands : List (Operand Pat)) (ts us : List Placed) → length ts ≤ k → pat_operands b.read n operands ts us
    → Among {T = Way (List (Operand Pat))} (operands, us) (operands_by b.found n k ts)
operands_complete b n k [] ts us l r = elim r [ ]
operands_complete b n zero (x ∷ []) ts us l r = none_left (length us) (length ts) (b.less.pat n PatPlace.Operand x.part ts us r.1) l
operands_complete b n zero (x ∷ (y ∷ xs)) ts us l r = none_left (length r.1.0) (length ts) (b.less.pat n PatPlace.Operand x.part ts r.1.0 r.1.1) l
operands_complete b n (suc k) (x ∷ []) ts us l r = last_found b n k x ts us r.0.0 r.0.1 r.1
operands_complete b n (suc k) (x ∷ (y ∷ xs)) ts us l r =
    more_found b n k x.minus x.part x.operator (y ∷ xs) ts r.1.0 r.1.2.0 us r.0 r.1.1 r.1.2.1
    (operands_complete b n k (y ∷ xs) r.1.2.0 us
    (twice_shorter (length r.1.2.0) (length r.1.0) (length ts) k (there_shrinks (spelled n IsConstructorOperator operator_items) (operator_shrinks n IsConstructorOperator) x.operator r.1.0 r.1.2.0 r.1.2.1) (b.less.pat n PatPlace.Operand x.part ts r.1.0 r.1.1) l) r.1.2.2)

operands_match : (b : Level) (n : ℕ) → Matches (pat_operands b.read n) (pat_operands_found b.found n)
operands_match b n = record {
  sound = λ xs ts us h. (operands_sound b n (length ts)).sound xs ts us h;
  complete = λ xs ts us r. operands_complete b n (length ts) xs ts us (all_fit (length ts)) r;
}

-- the productions
abbrev as_of : Variable × (Item × Pat) → Pat-F Pat
as_of p = Pat-F.As p.0 p.1.0 p.1.1

abbrev lazy_of : Item × Pat → Pat-F Pat
lazy_of p = Pat-F.Lazy p.0 p.1

abbrev tuple_of : Item × (List (Listed Pat) × Item) → Pat-F Pat
tuple_of p = Pat-F.Tuple p.0 p.1.0 p.1.1

abbrev list_of : Item × (List (Listed Pat) × Item) → Pat-F Pat
list_of p = Pat-F.List p.0 p.1.0 p.1.1

abbrev group_of : Item × (Pat × Item) → Pat-F Pat
group_of p = Pat-F.Group p.0 p.1.0 p.1.1

abbrev negative_of : Item × Item → Pat-F Pat
negative_of p = Pat-F.Negative p.0 p.1

abbrev apply_of : Constructor × List Pat → Pat-F Pat
apply_of p = Pat-F.Apply p.0 p.1

abbrev variable : (b : Level) (n : ℕ) (place : PatPlace) → Production (pat_reading b.read n place) Pat-F.Variable
variable b n place = (_, variables_match n)

abbrev wildcard : (b : Level) (n : ℕ) (place : PatPlace) → Production (pat_reading b.read n place) Pat-F.Wildcard
wildcard b n place = (_, one_matches n (tests_word (codes "_")))

abbrev literal : (b : Level) (n : ℕ) (place : PatPlace) → Production (pat_reading b.read n place) Pat-F.Literal
literal b n place = (_, one_matches n tests_literal)

abbrev constructor : (b : Level) (n : ℕ) (place : PatPlace) → Production (pat_reading b.read n place) Pat-F.Constructor
constructor b n place = (_, constructors_match n)

abbrev as_pattern : (b : Level) (n : ℕ) (place : PatPlace) → Production (pat_reading b.read n place) as_of
as_pattern b n place = (_, then_matches (variables_match n) (then_matches (one_matches n (tests_reserved (codes "@"))) (b.each.pat n PatPlace.Atomic)))

abbrev lazy : (b : Level) (n : ℕ) (place : PatPlace) → Production (pat_reading b.read n place) lazy_of
lazy b n place = (_, then_matches (one_matches n (tests_reserved (codes "~"))) (b.each.pat n PatPlace.Atomic))

abbrev tuple : (b : Level) (n : ℕ) (place : PatPlace) → Production (pat_reading b.read n place) tuple_of
tuple b n place = (
  _,
  passing_matches (tests_at (λ (p : Item × (List (Listed Pat) × Item)). p.1.0) tests_parts)
      (then_matches (one_matches n (tests_special (codes "(")))
      (then_matches (separated_matches (one_matches n (tests_special (codes ","))) (b.each.pat n PatPlace.Whole) (one_shrinks n IsComma) (b.less.pat n PatPlace.Whole))
      (one_matches n (tests_special (codes ")"))))),
)

abbrev list : (b : Level) (n : ℕ) (place : PatPlace) → Production (pat_reading b.read n place) list_of
list b n place = (
  _,
  passing_matches (tests_at (λ (p : Item × (List (Listed Pat) × Item)). p.1.0) tests_one)
      (then_matches (one_matches n (tests_special (codes "[")))
      (then_matches (separated_matches (one_matches n (tests_special (codes ","))) (b.each.pat n PatPlace.Whole) (one_shrinks n IsComma) (b.less.pat n PatPlace.Whole))
      (one_matches n (tests_special (codes "]"))))),
)

abbrev group : (b : Level) (n : ℕ) (place : PatPlace) → Production (pat_reading b.read n place) group_of
group b n place = (_, then_matches (one_matches n (tests_special (codes "("))) (then_matches (b.each.pat n PatPlace.Whole) (one_matches n (tests_special (codes ")")))))

abbrev negative : (b : Level) (n : ℕ) (place : PatPlace) → takes_operand place ≡ true → Production (pat_reading b.read n place) negative_of
negative b n place e = (_, so_matches e (then_matches (one_matches n tests_minus) (one_matches n (tests_of Class.Integer))))

abbrev apply : (b : Level) (n : ℕ) (place : PatPlace) → takes_operand place ≡ true → Production (pat_reading b.read n place) apply_of
apply b n place e = (
  _,
  so_given e (passing_matches (tests_at (λ (p : Constructor × List Pat). p.1) tests_one)
      (then_matches (constructors_match n) (in_turn_matches (b.each.pat n PatPlace.Atomic) (b.less.pat n PatPlace.Atomic)))),
)

abbrev infix_of : (b : Level) (n : ℕ) (place : PatPlace) → takes_infix place ≡ true → Production (pat_reading b.read n place) Pat-F.Infix
infix_of b n place e = (_, so_given e (passing_matches tests_has_two (operands_match b n)))

layers_sound : (b : Level) (n : ℕ) (place : PatPlace) → Sound (pat_reading b.read n place) (pat_layers b.found n place)
layers_sound b n place =
    any_sound (pat_ways b.found n place) (
      sound_production Pat-F.Variable (variable b n place),
      (
        sound_production Pat-F.Wildcard (wildcard b n place),
        (
          sound_production Pat-F.Literal (literal b n place),
          (
            sound_production Pat-F.Constructor (constructor b n place),
            (
              sound_production as_of (as_pattern b n place),
              (
                sound_production lazy_of (lazy b n place),
                (
                  sound_production tuple_of (tuple b n place),
                  (
                    sound_production list_of (list b n place),
                    (
                      sound_production group_of (group b n place),
                      (
                        on_sound (takes_operand place) (λ e. sound_production negative_of (negative b n place e)),
                        (
                          on_sound (takes_operand place) (λ e. sound_production apply_of (apply b n place e)),
                          (on_sound (takes_infix place) (λ e. sound_production Pat-F.Infix (infix_of b n place e)), tt),
                        ),
                      ),
                    ),
                  ),
                ),
              ),
            ),
          ),
        ),
      ),
    )

layers_complete : (b : Level) (n : ℕ) (place : PatPlace) (layer : Pat-F Pat) (ts us : List Placed) → pat_reading b.read n place layer ts us
    → Among {T = Way (Pat-F Pat)} (layer, us) (pat_layers b.found n place ts)
layers_complete b n place (Pat-F.Variable bound) ts us r =
    chosen (pat_ways b.found n place) 0 _ ts us (produced (pat_reading b.read n place) Pat-F.Variable (variable b n place) bound ts us r)
layers_complete b n place (Pat-F.Wildcard word) ts us r =
    chosen (pat_ways b.found n place) 1 _ ts us (produced (pat_reading b.read n place) Pat-F.Wildcard (wildcard b n place) word ts us r)
layers_complete b n place (Pat-F.Literal item) ts us r =
    chosen (pat_ways b.found n place) 2 _ ts us (produced (pat_reading b.read n place) Pat-F.Literal (literal b n place) item ts us r)
layers_complete b n place (Pat-F.Constructor named) ts us r =
    chosen (pat_ways b.found n place) 3 _ ts us (produced (pat_reading b.read n place) Pat-F.Constructor (constructor b n place) named ts us r)
layers_complete b n place (Pat-F.As bound mark part) ts us r =
    chosen (pat_ways b.found n place) 4 _ ts us (produced (pat_reading b.read n place) as_of (as_pattern b n place) (bound, (mark, part)) ts us r)
layers_complete b n place (Pat-F.Lazy mark part) ts us r =
    chosen (pat_ways b.found n place) 5 _ ts us (produced (pat_reading b.read n place) lazy_of (lazy b n place) (mark, part) ts us r)
layers_complete b n place (Pat-F.Tuple left parts right) ts us r =
    chosen (pat_ways b.found n place) 6 _ ts us (produced (pat_reading b.read n place) tuple_of (tuple b n place) (left, (parts, right)) ts us r)
layers_complete b n place (Pat-F.List left parts right) ts us r =
    chosen (pat_ways b.found n place) 7 _ ts us (produced (pat_reading b.read n place) list_of (list b n place) (left, (parts, right)) ts us r)
layers_complete b n place (Pat-F.Group left part right) ts us r =
    chosen (pat_ways b.found n place) 8 _ ts us (produced (pat_reading b.read n place) group_of (group b n place) (left, (part, right)) ts us r)
layers_complete b n place (Pat-F.Negative minus number) ts us r =
    chosen (pat_ways b.found n place) 9 _ ts us (produced_on (pat_reading b.read n place) negative_of (takes_operand place) r.0 (negative b n place r.0) (minus, number) ts us r)
layers_complete b n place (Pat-F.Apply named arguments) ts us r =
    chosen (pat_ways b.found n place) 10 _ ts us (produced_on (pat_reading b.read n place) apply_of (takes_operand place) r.0.0 (apply b n place r.0.0) (named, arguments) ts us r)
layers_complete b n place (Pat-F.Infix operands) ts us r =
    chosen (pat_ways b.found n place) 11 _ ts us (produced_on (pat_reading b.read n place) Pat-F.Infix (takes_infix place) r.0.0 (infix_of b n place r.0.0) operands ts us r)
layers_complete b n place (Pat-F.Fields named left fields right) ts us r = elim r [ ]

layers_match : (b : Level) (n : ℕ) (place : PatPlace) → Matches (pat_reading b.read n place) (pat_layers b.found n place)
layers_match b n place = record { sound = (layers_sound b n place).sound; complete = layers_complete b n place }

pub pat_matches : (b : Level) (n : ℕ) (place : PatPlace) → Matches (pat_over b.read n place) (pat_found b.found n place)
pat_matches b n place =
    made_matches roll-Pat out-Pat (λ pat. roll-out-Pat pat)
    (same_matches (λ layer ts us r. subst (λ l. pat_reading b.read n place l ts us) (sym (out-roll-Pat layer)) r) (λ layer ts us r. subst (λ l. pat_reading b.read n place l ts us) (out-roll-Pat layer) r)
    (layers_match b n place))
