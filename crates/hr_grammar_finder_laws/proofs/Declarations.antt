-- The declarations and alternatives that are found are those that are read.
use Rattle.std.proofs.Common.{◌≡◌, ◌≤◌, ◌<◌, ℕ, zero, suc, Bool, true, false, ◌==◌, List, [], ◌∷◌, length, Option, Some, None, refl, sym, subst}
use Rattle.std.proofs.lemmas.Bool.{eqb-true, eq-eqb}
use lib.Chars.{codes}
use Rattle.hr_base.specs.declared.lexeme.Class.{Class}
use Rattle.hr_base.specs.declared.lexeme.Ending.{Ending}
use Rattle.hr_base.specs.declared.lexeme.Item.{Item}
use Rattle.hr_rules.specs.declared.block.Placed.{Placed}
use Rattle.hr_rules.specs.Names.{is_one_of}
use Rattle.hr_tree.specs.declared.lists.Listed.{Listed}
use Rattle.hr_tree.specs.declared.names.Constructor.{Constructor}
use Rattle.hr_tree.specs.declared.names.Operator.{Operator}
use Rattle.hr_tree.specs.declared.names.Variable.{Variable}
use Rattle.hr_tree.specs.declared.types.Ty.{Ty}
use Rattle.hr_tree.specs.declared.patterns.Pat.{Pat}
use Rattle.hr_tree.specs.declared.declarations.TypeHead.{TypeHead}
use Rattle.hr_tree.specs.declared.declarations.Construction.{Construction}
use Rattle.hr_tree.specs.declared.declarations.LeftSide.{LeftSide}
use Rattle.hr_tree.specs.declared.declarations.LeftHead.{LeftHead}
use Rattle.hr_tree.specs.declared.declarations.Closed.{Closed}
use Rattle.hr_tree.specs.declared.declarations.Body.{Body}
use Rattle.hr_tree.specs.declared.declarations.Guarded.{Guarded}
use Rattle.hr_tree.specs.declared.declarations.Where.{Where}
use Rattle.hr_tree.specs.declared.expressions.Exp.{Exp}
use Rattle.hr_tree.specs.declared.expressions.Decl.{Decl, out-Decl, roll-Decl}
use Rattle.hr_tree.specs.declared.expressions.Decl.TheOpen.{Decl-F, Alt-F}
use Rattle.hr_tree.specs.declared.expressions.Decl.TheViews.{roll-out-Decl, out-roll-Decl, roll-out-Alt, out-roll-Alt}
use Rattle.hr_tree.specs.declared.expressions.Qualifier.{Qualifier}
use Rattle.hr_tree.specs.declared.expressions.Alt.{Alt, out-Alt}
use Rattle.hr_tree.specs.declared.modules.Import.{Import}
use Rattle.hr_tree.specs.Names.{constructor_items, operator_items}
use Rattle.hr_grammar.specs.Nodes.{Colons, TyPlace, PatPlace, ExpPlace, DeclPlace}
use Rattle.hr_grammar.specs.Declarations.{fixity_words, takes_import, takes_top, takes_local}
use Rattle.hr_grammar.specs.Spans.{part_ending}
use Rattle.hr_grammar.specs.Spelled.{IsVariable, IsOwnConstructor, IsOwnConstructorOperator, IsOwnOperator}
use Rattle.hr_grammar.specs.Words.{IsOf, IsBar, IsComma, IsArrow, IsLeftParen, IsRightParen}
use Rattle.hr_grammar_cases.specs.Readings.{Reading, ◌▷◌, given, spelled}
use Rattle.hr_grammar_cases.specs.Readings as reading
use Rattle.hr_grammar_cases.specs.Declarations.{type_head_reading, construction_reading, new_construction_reading, arguments_reading, left_head_reading, closed_reading, left_side_reading, guarded_reading, guards_reading, plain_reading, body_reading, right_side_reading, decl_reading, decl_over, alt_over}
use Rattle.hr_grammar_finder_laws.specs.Ways.{Among, Way, ◌▶◌, made_by, one, inside}
use Rattle.hr_grammar_finder_laws.specs.Declarations.{type_head_of, type_heads, construction_ways, constructions, has_one_type, new_constructions, arguments, left_head_ways, left_heads, closed_of, closings, left_side_of, left_sides, guarded_of, guarded, last_guarded, guarded_then, guards_by, guards, body_ways, bodies, RightSide, without_where, with_where, right_side_ways, right_sides, decl_ways, decl_layers, decl_found, alt_of, alt_found}
use Rattle.hr_grammar_finder_laws.proofs.Ways.{among_left, among_right, Sound, Matches, Tests, Production, is_sound, either_sound, made_sound, made_found, followed_by_sound, followed_by_found, any_sound, chosen, on_sound, produced, produced_on, sound_production, made_matches, one_matches, then_matches, passing_matches, maybe_matches, inside_matches, so_matches, so_given, same_matches, with_ending}
use Rattle.hr_grammar_finder_laws.proofs.Tests.{tests_of, tests_word, tests_reserved, tests_special, tests_digit, tests_one, tests_both, tests_at}
use Rattle.hr_grammar_finder_laws.proofs.Lists.{Shrinks, in_turn_matches, separated_matches, shorter, none_left, all_fit}
use Rattle.hr_grammar_finder_laws.proofs.Names.{one_shrinks, variable_shrinks, operator_shrinks, constructor_shrinks, variables_match, own_constructors_match, own_variable_operators_match, own_constructor_operators_match, own_operators_match}
use Rattle.hr_grammar_finder_laws.proofs.Imports.{imports_match}
use Rattle.hr_grammar_finder_laws.proofs.Takes.{Stays, some, first_takes, both_stay, one_takes, takes_by, in_turn_stays}
use Rattle.hr_grammar_finder_laws.proofs.Finders.{Level}

type_heads_match : (n : ℕ) → Matches (type_head_reading n) (type_heads n)
type_heads_match n =
    made_matches type_head_of (λ head. (head.name, head.variables)) (λ head. refl)
    (then_matches (one_matches n (tests_of Class.ConId)) (in_turn_matches (one_matches n (tests_of Class.VarId)) (one_shrinks n (IsOf Class.VarId))))

-- constructions
abbrev prefix_of : Constructor × List Ty → Construction
prefix_of p = Construction.Prefix p.0 p.1

abbrev infix_of : Ty × (Operator × Ty) → Construction
infix_of p = Construction.Infix p.0 p.1.0 p.1.1

abbrev by_prefix : (b : Level) (n : ℕ) → Production (construction_reading b.read n) prefix_of
by_prefix b n = (_, then_matches (own_constructors_match n) (in_turn_matches (b.each.ty n TyPlace.Atomic) (b.less.ty n TyPlace.Atomic)))

abbrev by_infix : (b : Level) (n : ℕ) → Production (construction_reading b.read n) infix_of
by_infix b n = (_, then_matches (b.each.ty n TyPlace.Applied) (then_matches (own_constructor_operators_match n) (b.each.ty n TyPlace.Applied)))

constructions_complete : (b : Level) (n : ℕ) (x : Construction) (ts us : List Placed) → construction_reading b.read n x ts us → Among {T = Way Construction} (x, us) (constructions b.found n ts)
constructions_complete b n (Construction.Prefix constructor types) ts us r =
    chosen (construction_ways b.found n) 0 _ ts us (produced (construction_reading b.read n) prefix_of (by_prefix b n) (constructor, types) ts us r)
constructions_complete b n (Construction.Infix left operator right) ts us r =
    chosen (construction_ways b.found n) 1 _ ts us (produced (construction_reading b.read n) infix_of (by_infix b n) (left, (operator, right)) ts us r)
constructions_complete b n (Construction.Fields constructor left fields right) ts us r = elim r [ ]

constructions_match : (b : Level) (n : ℕ) → Matches (construction_reading b.read n) (constructions b.found n)
constructions_match b n = record {
  sound = (any_sound {R = construction_reading b.read n} (construction_ways b.found n) (sound_production prefix_of (by_prefix b n), (sound_production infix_of (by_infix b n), tt))).sound;
  complete = constructions_complete b n;
}

constructions_shrink : (b : Level) (n : ℕ) → Shrinks (construction_reading b.read n)
constructions_shrink b n (Construction.Prefix constructor types) =
    (first_takes (takes_by (spelled n IsOwnConstructor constructor_items) (constructor_shrinks n IsOwnConstructor) constructor)
    (in_turn_stays (b.read.ty n TyPlace.Atomic) (b.less.ty n TyPlace.Atomic) types)).fewer
constructions_shrink b n (Construction.Infix left operator right) =
    (first_takes (takes_by (b.read.ty n TyPlace.Applied) (b.less.ty n TyPlace.Applied) left)
    (both_stay (some (takes_by (spelled n IsOwnConstructorOperator operator_items) (operator_shrinks n IsOwnConstructorOperator) operator))
    (some (takes_by (b.read.ty n TyPlace.Applied) (b.less.ty n TyPlace.Applied) right)))).fewer
constructions_shrink b n (Construction.Fields constructor left fields right) = λ ts us r. elim r [ ]

-- of a `newtype`
one_type_read : (b : Level) (n : ℕ) (x : Construction) (ts us : List Placed) → has_one_type x ≡ true → construction_reading b.read n x ts us → new_construction_reading b.read n x ts us
one_type_read b n (Construction.Prefix constructor []) ts us e r = let never : ⊥ = cc in elim never [ ]
one_type_read b n (Construction.Prefix constructor (ty ∷ [])) ts us e r = r
one_type_read b n (Construction.Prefix constructor (ty ∷ (next ∷ types))) ts us e r = let never : ⊥ = cc in elim never [ ]
one_type_read b n (Construction.Infix left operator right) ts us e r = let never : ⊥ = cc in elim never [ ]
one_type_read b n (Construction.Fields constructor left fields right) ts us e r = let never : ⊥ = cc in elim never [ ]

read_one_type : (b : Level) (n : ℕ) (x : Construction) (ts us : List Placed) → new_construction_reading b.read n x ts us → given (has_one_type x ≡ true) (construction_reading b.read n x) ts us
read_one_type b n (Construction.Prefix constructor []) ts us r = elim r [ ]
read_one_type b n (Construction.Prefix constructor (ty ∷ [])) ts us r = (refl, r)
read_one_type b n (Construction.Prefix constructor (ty ∷ (next ∷ types))) ts us r = elim r [ ]
read_one_type b n (Construction.Infix left operator right) ts us r = elim r [ ]
read_one_type b n (Construction.Fields constructor left fields right) ts us r = elim r [ ]

tests_itself : {T : Type 0} (test : T → Bool) → Tests (λ x. test x ≡ true) test
tests_itself test = record { passes = λ x e. e; passed = λ x e. e }

new_constructions_match : (b : Level) (n : ℕ) → Matches (new_construction_reading b.read n) (new_constructions b.found n)
new_constructions_match b n =
    same_matches (λ x ts us r. one_type_read b n x ts us r.0 r.1) (λ x ts us r. read_one_type b n x ts us r) (passing_matches (tests_itself has_one_type) (constructions_match b n))

-- left sides
arguments_match : (b : Level) (n : ℕ) → Matches (arguments_reading b.read n) (arguments b.found n)
arguments_match b n = passing_matches tests_one (in_turn_matches (b.each.pat n PatPlace.Atomic) (b.less.pat n PatPlace.Atomic))

abbrev prefix_head_of : Variable × List Pat → LeftHead
prefix_head_of p = LeftHead.Prefix p.0 p.1

abbrev infix_head_of : Pat × (Operator × Pat) → LeftHead
infix_head_of p = LeftHead.Infix p.0 p.1.0 p.1.1

abbrev prefix_head : (b : Level) (n : ℕ) → Production (left_head_reading b.read n) prefix_head_of
prefix_head b n = (_, then_matches (variables_match n) (arguments_match b n))

abbrev infix_head : (b : Level) (n : ℕ) → Production (left_head_reading b.read n) infix_head_of
infix_head b n = (_, then_matches (b.each.pat n PatPlace.Whole) (then_matches (own_variable_operators_match n) (b.each.pat n PatPlace.Whole)))

left_heads_complete : (b : Level) (n : ℕ) (x : LeftHead) (ts us : List Placed) → left_head_reading b.read n x ts us → Among {T = Way LeftHead} (x, us) (left_heads b.found n ts)
left_heads_complete b n (LeftHead.Prefix variable patterns) ts us r =
    chosen (left_head_ways b.found n) 0 _ ts us (produced (left_head_reading b.read n) prefix_head_of (prefix_head b n) (variable, patterns) ts us r)
left_heads_complete b n (LeftHead.Infix left operator right) ts us r =
    chosen (left_head_ways b.found n) 1 _ ts us (produced (left_head_reading b.read n) infix_head_of (infix_head b n) (left, (operator, right)) ts us r)

left_heads_match : (b : Level) (n : ℕ) → Matches (left_head_reading b.read n) (left_heads b.found n)
left_heads_match b n = record {
  sound = (any_sound {R = left_head_reading b.read n} (left_head_ways b.found n) (sound_production prefix_head_of (prefix_head b n), (sound_production infix_head_of (infix_head b n), tt))).sound;
  complete = left_heads_complete b n;
}

closings_match : (b : Level) (n : ℕ) → Matches (closed_reading b.read n) (closings b.found n)
closings_match b n = made_matches closed_of (λ closed. (closed.right, closed.patterns)) (λ closed. refl) (then_matches (one_matches n (tests_special (codes ")"))) (arguments_match b n))

arguments_stay : (b : Level) (n : ℕ) (patterns : List Pat) → Stays (arguments_reading b.read n patterns)
arguments_stay b n patterns = record { no_more = λ ts us r. (in_turn_stays (b.read.pat n PatPlace.Atomic) (b.less.pat n PatPlace.Atomic) patterns).no_more ts us r.1 }

closings_shrink : (b : Level) (n : ℕ) → Shrinks (closed_reading b.read n)
closings_shrink b n closed = (first_takes (one_takes n IsRightParen closed.right) (arguments_stay b n closed.patterns)).fewer

abbrev SideParts : Type 0
SideParts = List Item × (LeftHead × List Closed)

tests_same_length : Tests (λ (p : SideParts). length p.0 ≡ length p.1.1) (λ (p : SideParts). length p.0 == length p.1.1)
tests_same_length = record { passes = λ p e. eqb-true (length p.0) (length p.1.1) e; passed = λ p e. eq-eqb (length p.0) (length p.1.1) e }

left_sides_match : (b : Level) (n : ℕ) → Matches (left_side_reading b.read n) (left_sides b.found n)
left_sides_match b n =
    made_matches left_side_of (λ left. (left.opens, (left.head, left.closes))) (λ left. refl)
    (passing_matches tests_same_length
    (then_matches (in_turn_matches (one_matches n (tests_special (codes "("))) (one_shrinks n IsLeftParen))
    (then_matches (left_heads_match b n) (in_turn_matches (closings_match b n) (closings_shrink b n)))))

-- guards
abbrev GuardedReading : Level → ℕ → (Item → Type 0) → Guarded Exp × Ending → Reading
GuardedReading b n IsMark p = guarded_reading b.read n IsMark p.0 p.1

guarded_match : (b : Level) (n : ℕ) {IsMark : Item → Type 0} {is_mark : Item → Bool} → Tests IsMark is_mark → Matches (GuardedReading b n IsMark) (guarded b.found n is_mark)
guarded_match b n {IsMark} {is_mark} t =
    made_matches guarded_of (λ (p : Guarded Exp × Ending). (p.0.bar, (p.0.guard, (p.0.mark, (p.0.body, p.1))))) (λ p. refl)
    (then_matches (one_matches n (tests_reserved (codes "|")))
    (then_matches (inside_matches (b.each.exp n Colons.Barred ExpPlace.Sequence)) (then_matches (one_matches n t) (b.each.exp n Colons.Allowed ExpPlace.Whole))))

guarded_takes : (b : Level) (n : ℕ) (IsMark : Item → Type 0) (guarded : Guarded Exp) (ending : Ending) (ts us : List Placed) → guarded_reading b.read n IsMark guarded ending ts us → length us < length ts
guarded_takes b n IsMark guarded ending =
    (first_takes (one_takes n IsBar guarded.bar)
    (both_stay (some (record { fewer = λ ts us r. b.less.exp n Colons.Barred ExpPlace.Sequence (guarded.guard, r.0) ts us r.1 }))
    (both_stay (some (one_takes n IsMark guarded.mark)) (some (takes_by (λ (p : Exp × Ending). b.read.exp n Colons.Allowed ExpPlace.Whole p.0 p.1) (b.less.exp n Colons.Allowed ExpPlace.Whole) (guarded.body, ending)))))).fewer

guards_so : (b : Level) (n : ℕ) (IsMark : Item → Type 0) (x : Guarded Exp) (rest : List (Guarded Exp)) (ending : Ending) (ts us : List Placed)
    → (reading.inside (guarded_reading b.read n IsMark x) ▷ guards_reading b.read n IsMark rest ending) ts us → guards_reading b.read n IsMark (x ∷ rest) ending ts us
guards_so b n IsMark x [] ending ts us r = elim r.2 [ ]
guards_so b n IsMark x (next ∷ rest) ending ts us r = r

guards_sound : (b : Level) (n : ℕ) {IsMark : Item → Type 0} {is_mark : Item → Bool} → Tests IsMark is_mark → (k : ℕ)
    → Sound (λ (p : List (Guarded Exp) × Ending). guards_reading b.read n IsMark p.0 p.1) (guards_by b.found n is_mark k)
guards_sound b n t zero = record { sound = λ x ts us h. elim h [ ] }
guards_sound b n {IsMark} {is_mark} t (suc k) =
    either_sound (made_sound last_guarded (record { sound = λ p ts us h. (guarded_match b n t).sound p ts us h }))
    (made_sound guarded_then (record {
      sound = λ p ts us h.
          guards_so b n IsMark p.0 p.1.0 p.1.1 ts us
          ((followed_by_sound {R = λ x. reading.inside (guarded_reading b.read n IsMark x)} {Q = λ x (p : List (Guarded Exp) × Ending). guards_reading b.read n IsMark p.0 p.1}
          (is_sound (inside_matches (guarded_match b n t))) (λ x. guards_sound b n t k)).sound p ts us h);
    }))

guards_complete : (b : Level) (n : ℕ) {IsMark : Item → Type 0} {is_mark : Item → Bool} → Tests IsMark is_mark → (k : ℕ) (xs : List (Guarded Exp)) (ending : Ending) (ts us : List Placed)
    → length ts ≤ k → guards_reading b.read n IsMark xs ending ts us → Among {T = Way (List (Guarded Exp) × Ending)} ((xs, ending), us) (guards_by b.found n is_mark k ts)
guards_complete b n t k [] ending ts us l r = elim r [ ]
guards_complete b n {IsMark} t zero (x ∷ []) ending ts us l r = none_left (length us) (length ts) (guarded_takes b n IsMark x ending ts us r) l
guards_complete b n {IsMark} t zero (x ∷ (y ∷ xs)) ending ts us l r = none_left (length r.0) (length ts) (guarded_takes b n IsMark x r.1.0 ts r.0 r.1.1) l
guards_complete b n {IsMark} {is_mark} t (suc k) (x ∷ []) ending ts us l r =
    among_left _ (made_by last_guarded (guarded b.found n is_mark) ts) (made_by guarded_then (inside (guarded b.found n is_mark) ▶ guards_by b.found n is_mark k) ts)
    (made_found last_guarded (guarded b.found n is_mark) (x, ending) ts us ((guarded_match b n t).complete (x, ending) ts us r))
guards_complete b n {IsMark} {is_mark} t (suc k) (x ∷ (y ∷ xs)) ending ts us l r =
    among_right _ (made_by last_guarded (guarded b.found n is_mark) ts) (made_by guarded_then (inside (guarded b.found n is_mark) ▶ guards_by b.found n is_mark k) ts)
    (made_found guarded_then (inside (guarded b.found n is_mark) ▶ guards_by b.found n is_mark k) (x, (y ∷ xs, ending)) ts us
    (followed_by_found (inside (guarded b.found n is_mark)) (λ z. guards_by b.found n is_mark k) x (y ∷ xs, ending) ts r.0 us ((inside_matches (guarded_match b n t)).complete x ts r.0 r.1)
    (guards_complete b n t k (y ∷ xs) ending r.0 us (shorter (length r.0) (length ts) k (guarded_takes b n IsMark x r.1.0 ts r.0 r.1.1) l) r.2)))

guards_match : (b : Level) (n : ℕ) {IsMark : Item → Type 0} {is_mark : Item → Bool} → Tests IsMark is_mark
    → Matches (λ (p : List (Guarded Exp) × Ending). guards_reading b.read n IsMark p.0 p.1) (guards b.found n is_mark)
guards_match b n t = record {
  sound = λ p ts us h. (guards_sound b n t (length ts)).sound p ts us h;
  complete = λ p ts us r. guards_complete b n t (length ts) p.0 p.1 ts us (all_fit (length ts)) r;
}

-- bodies and right sides
abbrev BodyReading : Level → ℕ → (Item → Type 0) → Body Exp × Ending → Reading
BodyReading b n IsMark p = body_reading b.read n IsMark p.0 p.1

abbrev plain_of : Item × (Exp × Ending) → Body Exp × Ending
plain_of p = (Body.Plain p.0 p.1.0, p.1.1)

abbrev many_of : List (Guarded Exp) × Ending → Body Exp × Ending
many_of p = (Body.Guarded p.0, p.1)

abbrev turned : Bool → Body Exp × Ending → Body Exp × Ending
turned guarded p = (p.0, part_ending guarded p.1)

plain_match : (b : Level) (n : ℕ) {IsMark : Item → Type 0} {is_mark : Item → Bool} → Tests IsMark is_mark
    → Matches (λ (p : Item × (Exp × Ending)). plain_reading b.read n IsMark p.0 p.1.0 p.1.1) (one n is_mark ▶ b.found.exp n Colons.Allowed ExpPlace.Whole)
plain_match b n t = then_matches (one_matches n t) (b.each.exp n Colons.Allowed ExpPlace.Whole)

bodies_sound : (b : Level) (n : ℕ) {IsMark : Item → Type 0} {is_mark : Item → Bool} → Tests IsMark is_mark → Sound (BodyReading b n IsMark) (bodies b.found n is_mark)
bodies_sound b n {IsMark} {is_mark} t =
    any_sound (body_ways b.found n is_mark) (
      made_sound (turned false) (made_sound plain_of (record { sound = λ p ts us h. (p.1.1, refl, (plain_match b n t).sound p ts us h) })),
      (made_sound (turned true) (made_sound many_of (record { sound = λ p ts us h. (p.1, refl, (guards_match b n t).sound p ts us h) })), tt),
    )

bodies_complete : (b : Level) (n : ℕ) {IsMark : Item → Type 0} {is_mark : Item → Bool} → Tests IsMark is_mark → (body : Body Exp) (ending : Ending) (ts us : List Placed)
    → body_reading b.read n IsMark body ending ts us → Among {T = Way (Body Exp × Ending)} ((body, ending), us) (bodies b.found n is_mark ts)
bodies_complete b n {IsMark} {is_mark} t (Body.Plain mark body) ending ts us r =
    subst (λ e. Among {T = Way (Body Exp × Ending)} ((Body.Plain mark body, e), us) (bodies b.found n is_mark ts)) (sym r.1)
    (chosen (body_ways b.found n is_mark) 0 _ ts us
    (made_found (turned false) (made_by plain_of (one n is_mark ▶ b.found.exp n Colons.Allowed ExpPlace.Whole)) (Body.Plain mark body, r.0) ts us
    (made_found plain_of (one n is_mark ▶ b.found.exp n Colons.Allowed ExpPlace.Whole) (mark, (body, r.0)) ts us ((plain_match b n t).complete (mark, (body, r.0)) ts us r.2))))
bodies_complete b n {IsMark} {is_mark} t (Body.Guarded list) ending ts us r =
    subst (λ e. Among {T = Way (Body Exp × Ending)} ((Body.Guarded list, e), us) (bodies b.found n is_mark ts)) (sym r.1)
    (chosen (body_ways b.found n is_mark) 1 _ ts us
    (made_found (turned true) (made_by many_of (guards b.found n is_mark)) (Body.Guarded list, r.0) ts us
    (made_found many_of (guards b.found n is_mark) (list, r.0) ts us ((guards_match b n t).complete (list, r.0) ts us r.2))))

bodies_match : (b : Level) (n : ℕ) {IsMark : Item → Type 0} {is_mark : Item → Bool} → Tests IsMark is_mark → Matches (BodyReading b n IsMark) (bodies b.found n is_mark)
bodies_match b n t = record { sound = (bodies_sound b n t).sound; complete = λ p ts us r. bodies_complete b n t p.0 p.1 ts us r }

abbrev SideReading : Level → ℕ → (Item → Type 0) → RightSide → Reading
SideReading b n IsMark p = right_side_reading b.read n IsMark p.0.0 p.0.1 p.1

abbrev without : (b : Level) (n : ℕ) {IsMark : Item → Type 0} {is_mark : Item → Bool} → Tests IsMark is_mark → Production (SideReading b n IsMark) without_where
without b n t = (_, bodies_match b n t)

abbrev with_locals : (b : Level) (n : ℕ) {IsMark : Item → Type 0} {is_mark : Item → Bool} → Tests IsMark is_mark → Production (SideReading b n IsMark) with_where
with_locals b n t =
    (_, so_matches refl (then_matches (inside_matches (bodies_match b n t)) (then_matches (one_matches n (tests_word (codes "where"))) (b.each.declarations n DeclPlace.Local))))

sides_complete : (b : Level) (n : ℕ) {IsMark : Item → Type 0} {is_mark : Item → Bool} (t : Tests IsMark is_mark) (body : Body Exp) (locals : Option (Where Decl)) (ending : Ending) (ts us : List Placed)
    → right_side_reading b.read n IsMark body locals ending ts us → Among {T = Way RightSide} (((body, locals), ending), us) (right_sides b.found n is_mark ts)
sides_complete b n {IsMark} {is_mark} t body None ending ts us r =
    chosen (right_side_ways b.found n is_mark) 0 _ ts us (produced (SideReading b n IsMark) without_where (without b n t) (body, ending) ts us r)
sides_complete b n {IsMark} {is_mark} t body (Some locals) ending ts us r =
    subst (λ e. Among {T = Way RightSide} (((body, Some locals), e), us) (right_sides b.found n is_mark ts)) (sym r.0)
    (chosen (right_side_ways b.found n is_mark) 1 _ ts us (produced (SideReading b n IsMark) with_where (with_locals b n t) (body, (locals.word, locals.block)) ts us (refl, r.1)))

right_sides_match : (b : Level) (n : ℕ) {IsMark : Item → Type 0} {is_mark : Item → Bool} → Tests IsMark is_mark → Matches (SideReading b n IsMark) (right_sides b.found n is_mark)
right_sides_match b n {IsMark} {is_mark} t = record {
  sound = (any_sound {R = SideReading b n IsMark} (right_side_ways b.found n is_mark) (sound_production without_where (without b n t), (sound_production with_where (with_locals b n t), tt))).sound;
  complete = λ p ts us r. sides_complete b n t p.0.0 p.0.1 p.1 ts us r;
}

-- the declarations
abbrev DeclReading : Level → ℕ → DeclPlace → Decl-F Decl Exp Qualifier Alt × Ending → Reading
DeclReading b n place p = decl_reading b.read n place p.0 p.1

abbrev import_of : Import → Decl-F Decl Exp Qualifier Alt × Ending
import_of import = (Decl-F.Import import, Ending.WhereBlock)

abbrev synonym_of : Item × (TypeHead × (Item × Ty)) → Decl-F Decl Exp Qualifier Alt × Ending
synonym_of p = (Decl-F.Synonym p.0 p.1.0 p.1.1.0 p.1.1.1, Ending.WhereBlock)

abbrev DataParts : Type 0
DataParts = Item × (TypeHead × (Item × List (Listed Construction)))

abbrev data_of : DataParts → Decl-F Decl Exp Qualifier Alt × Ending
data_of p = (Decl-F.Data p.0 p.1.0 p.1.1.0 p.1.1.1, Ending.WhereBlock)

abbrev newtype_of : Item × (TypeHead × (Item × Construction)) → Decl-F Decl Exp Qualifier Alt × Ending
newtype_of p = (Decl-F.Newtype p.0 p.1.0 p.1.1.0 p.1.1.1, Ending.WhereBlock)

abbrev SignatureParts : Type 0
SignatureParts = List (Listed Variable) × (Item × Ty)

abbrev signature_of : SignatureParts → Decl-F Decl Exp Qualifier Alt × Ending
signature_of p = (Decl-F.Signature p.0 p.1.0 p.1.1, Ending.Signature)

abbrev FixityParts : Type 0
FixityParts = Item × (Option Item × List (Listed Operator))

abbrev fixity_of : FixityParts → Decl-F Decl Exp Qualifier Alt × Ending
fixity_of p = (Decl-F.Fixity p.0 p.1.0 p.1.1, Ending.Fixity)

abbrev equation_of : LeftSide × RightSide → Decl-F Decl Exp Qualifier Alt × Ending
equation_of p = (Decl-F.Equation p.0 p.1.0.0 p.1.0.1, p.1.1)

abbrev binding_of : Pat × RightSide → Decl-F Decl Exp Qualifier Alt × Ending
binding_of p = (Decl-F.Binding p.0 p.1.0.0 p.1.0.1, p.1.1)

abbrev import_decl : (b : Level) (n : ℕ) (place : DeclPlace) → takes_import place ≡ true → Production (DeclReading b n place) import_of
import_decl b n place e = (_, so_matches (refl, e) (imports_match n))

abbrev synonym : (b : Level) (n : ℕ) (place : DeclPlace) → takes_top place ≡ true → Production (DeclReading b n place) synonym_of
synonym b n place e = (
  _,
  so_matches (refl, e)
      (then_matches (one_matches n (tests_word (codes "type"))) (then_matches (type_heads_match n) (then_matches (one_matches n (tests_reserved (codes "="))) (b.each.ty n TyPlace.Whole)))),
)

abbrev data_decl : (b : Level) (n : ℕ) (place : DeclPlace) → takes_top place ≡ true → Production (DeclReading b n place) data_of
data_decl b n place e = (
  _,
  so_given refl (so_given e (passing_matches (tests_at (λ (p : DataParts). p.1.1.1) tests_one)
      (then_matches (one_matches n (tests_word (codes "data")))
      (then_matches (type_heads_match n)
      (then_matches (one_matches n (tests_reserved (codes "="))) (separated_matches (one_matches n (tests_reserved (codes "|"))) (constructions_match b n) (one_shrinks n IsBar) (constructions_shrink b n))))))),
)

abbrev newtype : (b : Level) (n : ℕ) (place : DeclPlace) → takes_top place ≡ true → Production (DeclReading b n place) newtype_of
newtype b n place e = (
  _,
  so_matches (refl, e)
      (then_matches (one_matches n (tests_word (codes "newtype"))) (then_matches (type_heads_match n) (then_matches (one_matches n (tests_reserved (codes "="))) (new_constructions_match b n)))),
)

abbrev signature : (b : Level) (n : ℕ) (place : DeclPlace) → takes_local place ≡ true → Production (DeclReading b n place) signature_of
signature b n place e = (
  _,
  so_given refl (so_given e (passing_matches (tests_at (λ (p : SignatureParts). p.0) tests_one)
      (then_matches (separated_matches (one_matches n (tests_special (codes ","))) (variables_match n) (one_shrinks n IsComma) (variable_shrinks n IsVariable))
      (then_matches (one_matches n (tests_reserved (codes "::"))) (b.each.ty n TyPlace.Whole))))),
)

abbrev fixity : (b : Level) (n : ℕ) (place : DeclPlace) → takes_local place ≡ true → Production (DeclReading b n place) fixity_of
fixity b n place e = (
  _,
  so_given refl (so_given e (passing_matches
      (tests_both (tests_itself (λ (p : FixityParts). is_one_of fixity_words p.0.lexeme.text)) (tests_at (λ (p : FixityParts). p.1.1) tests_one))
      (then_matches (one_matches n (tests_of Class.ReservedId))
      (then_matches (maybe_matches (one_matches n tests_digit))
      (separated_matches (one_matches n (tests_special (codes ","))) (own_operators_match n) (one_shrinks n IsComma) (operator_shrinks n IsOwnOperator)))))),
)

abbrev equation : (b : Level) (n : ℕ) (place : DeclPlace) → takes_local place ≡ true → Production (DeclReading b n place) equation_of
equation b n place e = (_, so_matches e (then_matches (left_sides_match b n) (right_sides_match b n (tests_reserved (codes "=")))))

abbrev binding : (b : Level) (n : ℕ) (place : DeclPlace) → takes_local place ≡ true → Production (DeclReading b n place) binding_of
binding b n place e = (_, so_matches e (then_matches (b.each.pat n PatPlace.Whole) (right_sides_match b n (tests_reserved (codes "=")))))

decls_sound : (b : Level) (n : ℕ) (place : DeclPlace) → Sound (DeclReading b n place) (decl_layers b.found n place)
decls_sound b n place =
    any_sound (decl_ways b.found n place) (
      on_sound (takes_import place) (λ e. sound_production import_of (import_decl b n place e)),
      (
        on_sound (takes_top place) (λ e. sound_production synonym_of (synonym b n place e)),
        (
          on_sound (takes_top place) (λ e. sound_production data_of (data_decl b n place e)),
          (
            on_sound (takes_top place) (λ e. sound_production newtype_of (newtype b n place e)),
            (
              on_sound (takes_local place) (λ e. sound_production signature_of (signature b n place e)),
              (
                on_sound (takes_local place) (λ e. sound_production fixity_of (fixity b n place e)),
                (
                  on_sound (takes_local place) (λ e. sound_production equation_of (equation b n place e)),
                  (on_sound (takes_local place) (λ e. sound_production binding_of (binding b n place e)), tt),
                ),
              ),
            ),
          ),
        ),
      ),
    )

decls_complete : (b : Level) (n : ℕ) (place : DeclPlace) (layer : Decl-F Decl Exp Qualifier Alt) (ending : Ending) (ts us : List Placed) → decl_reading b.read n place layer ending ts us
    → Among {T = Way (Decl-F Decl Exp Qualifier Alt × Ending)} ((layer, ending), us) (decl_layers b.found n place ts)
decls_complete b n place (Decl-F.Import import) ending ts us r =
    with_ending (λ k. decl_reading b.read n place (Decl-F.Import import) k ts us) (Decl-F.Import import) ending Ending.WhereBlock us (decl_layers b.found n place ts) r.0.0
    (λ r. chosen (decl_ways b.found n place) 0 _ ts us (produced_on (DeclReading b n place) import_of (takes_import place) r.0.1 (import_decl b n place r.0.1) import ts us r)) r
decls_complete b n place (Decl-F.Synonym word head equals ty) ending ts us r =
    with_ending (λ k. decl_reading b.read n place (Decl-F.Synonym word head equals ty) k ts us) (Decl-F.Synonym word head equals ty) ending Ending.WhereBlock us (decl_layers b.found n place ts) r.0.0
    (λ r. chosen (decl_ways b.found n place) 1 _ ts us (produced_on (DeclReading b n place) synonym_of (takes_top place) r.0.1 (synonym b n place r.0.1) (word, (head, (equals, ty))) ts us r)) r
decls_complete b n place (Decl-F.Data word head equals constructions) ending ts us r =
    with_ending (λ k. decl_reading b.read n place (Decl-F.Data word head equals constructions) k ts us) (Decl-F.Data word head equals constructions) ending Ending.WhereBlock us (decl_layers b.found n place ts) r.0.0
    (λ r. chosen (decl_ways b.found n place) 2 _ ts us (produced_on (DeclReading b n place) data_of (takes_top place) r.0.1.0 (data_decl b n place r.0.1.0) (word, (head, (equals, constructions))) ts us r)) r
decls_complete b n place (Decl-F.Newtype word head equals construction) ending ts us r =
    with_ending (λ k. decl_reading b.read n place (Decl-F.Newtype word head equals construction) k ts us) (Decl-F.Newtype word head equals construction) ending Ending.WhereBlock us (decl_layers b.found n place ts) r.0.0
    (λ r. chosen (decl_ways b.found n place) 3 _ ts us (produced_on (DeclReading b n place) newtype_of (takes_top place) r.0.1 (newtype b n place r.0.1) (word, (head, (equals, construction))) ts us r)) r
decls_complete b n place (Decl-F.Signature names colons ty) ending ts us r =
    with_ending (λ k. decl_reading b.read n place (Decl-F.Signature names colons ty) k ts us) (Decl-F.Signature names colons ty) ending Ending.Signature us (decl_layers b.found n place ts) r.0.0
    (λ r. chosen (decl_ways b.found n place) 4 _ ts us (produced_on (DeclReading b n place) signature_of (takes_local place) r.0.1.0 (signature b n place r.0.1.0) (names, (colons, ty)) ts us r)) r
decls_complete b n place (Decl-F.Fixity word level operators) ending ts us r =
    with_ending (λ k. decl_reading b.read n place (Decl-F.Fixity word level operators) k ts us) (Decl-F.Fixity word level operators) ending Ending.Fixity us (decl_layers b.found n place ts) r.0.0
    (λ r. chosen (decl_ways b.found n place) 5 _ ts us (produced_on (DeclReading b n place) fixity_of (takes_local place) r.0.1.0 (fixity b n place r.0.1.0) (word, (level, operators)) ts us r)) r
decls_complete b n place (Decl-F.Equation left body locals) ending ts us r =
    chosen (decl_ways b.found n place) 6 _ ts us (produced_on (DeclReading b n place) equation_of (takes_local place) r.0 (equation b n place r.0) (left, ((body, locals), ending)) ts us r)
decls_complete b n place (Decl-F.Binding pattern body locals) ending ts us r =
    chosen (decl_ways b.found n place) 7 _ ts us (produced_on (DeclReading b n place) binding_of (takes_local place) r.0 (binding b n place r.0) (pattern, ((body, locals), ending)) ts us r)

decls_match : (b : Level) (n : ℕ) (place : DeclPlace) → Matches (DeclReading b n place) (decl_layers b.found n place)
decls_match b n place = record { sound = (decls_sound b n place).sound; complete = λ p ts us r. decls_complete b n place p.0 p.1 ts us r }

pub decl_matches : (b : Level) (n : ℕ) (place : DeclPlace) → Matches (λ (p : Decl × Ending). decl_over b.read n place p.0 p.1) (decl_found b.found n place)
decl_matches b n place =
    made_matches (λ (p : Decl-F Decl Exp Qualifier Alt × Ending). (roll-Decl p.0, p.1)) (λ (p : Decl × Ending). (out-Decl p.0, p.1)) (λ p j. (roll-out-Decl p.0 j, p.1))
    (same_matches (λ p ts us r. subst (λ l. decl_reading b.read n place l p.1 ts us) (sym (out-roll-Decl p.0)) r) (λ p ts us r. subst (λ l. decl_reading b.read n place l p.1 ts us) (out-roll-Decl p.0) r)
    (decls_match b n place))

-- alternatives
abbrev AltParts : Type 0
AltParts = Pat × RightSide

abbrev alt_layer : AltParts → Alt-F Decl Exp Qualifier Alt
alt_layer p = record { pattern = p.0; body = p.1.0.0; locals = p.1.0.1 }

abbrev AltReading : Level → ℕ → Alt-F Decl Exp Qualifier Alt → Ending → Reading
AltReading b n layer ending = b.read.pat n PatPlace.Whole layer.pattern ▷ right_side_reading b.read n IsArrow layer.body layer.locals ending

pub alt_matches : (b : Level) (n : ℕ) → Matches (λ (p : Alt × Ending). alt_over b.read n p.0 p.1) (alt_found b.found n)
alt_matches b n =
    made_matches alt_of (λ (p : Alt × Ending). ((out-Alt p.0).pattern, (((out-Alt p.0).body, (out-Alt p.0).locals), p.1))) (λ p j. (roll-out-Alt p.0 j, p.1))
    (same_matches (λ p ts us r. subst (λ l. AltReading b n l p.1.1 ts us) (sym (out-roll-Alt (alt_layer p))) r) (λ p ts us r. subst (λ l. AltReading b n l p.1.1 ts us) (out-roll-Alt (alt_layer p)) r)
    (then_matches (b.each.pat n PatPlace.Whole) (right_sides_match b n (tests_reserved (codes "->")))))
