-- What is found on each level is what is read there, and so for modules.
use Rattle.std.proofs.Common.{◌≡◌, ◌≤◌, ◌<◌, ℕ, zero, suc, Bool, List, [], ◌∷◌, ◌++◌, length, Option, refl, sym, ap, ◌∙◌, subst, inl, inr, arith}
use Rattle.hr_base.specs.declared.lexeme.Ending.{Ending}
use Rattle.hr_base.specs.declared.lexeme.Item.{Item}
use Rattle.hr_base.specs.declared.lexeme.Items.{Items}
use Rattle.hr_rules.specs.declared.role.Role.{Role}
use Rattle.hr_rules.specs.declared.block.BlockKind.{BlockKind}
use Rattle.hr_rules.specs.declared.block.Placed.{Placed}
use Rattle.hr_rules.specs.Blocks.{placed_of}
use Rattle.hr_tree.specs.declared.lists.Block.{Block}
use Rattle.hr_tree.specs.declared.expressions.Decl.{Decl}
use Rattle.hr_tree.specs.declared.expressions.Alt.{Alt}
use Rattle.hr_tree.specs.declared.modules.Header.{Header}
use Rattle.hr_tree.specs.declared.modules.Module.{Module}
use Rattle.hr_tree.specs.Lists.{block_items}
use Rattle.hr_tree.specs.Yields.{decl_items, alt_items}
use Rattle.hr_grammar.specs.Firsts.{FirstHas, opens_part, kind_at}
use Rattle.hr_grammar.specs.Nodes.{DeclPlace}
use Rattle.hr_grammar.specs.Yields.{Yields, nesting_limit}
use Rattle.hr_grammar.proofs.PartFirsts.{declarations_begin_lem, alternatives_begin_lem}
use Rattle.hr_grammar_cases.specs.Readings.{Reading, ◌▷◌, given}
use Rattle.hr_grammar_cases.specs.Readings as reading
use Rattle.hr_grammar_cases.specs.Imports.{header_reading}
use Rattle.hr_grammar_cases.specs.Modules.{Derives, comes_behind, decl_parts, alt_parts, declarations_over, alternatives_over, derivations, module_reading}
use Rattle.hr_grammar_cases.specs.Laws.{items_left, Gives}
use Rattle.hr_grammar_cases.proofs.Modules.{levels_give_lem}
use Rattle.hr_grammar_cases.proofs.GrammaticalModules.{levels_are_lem}
use Rattle.hr_grammar_cases.proofs.StandingModules.{modules_yield_lem}
use Rattle.hr_grammar_cases.proofs.Shrinks.{readings_shrink_lem}
use Rattle.hr_grammar_finder_laws.specs.Ways.{Among, Way, Finder, made_by, ◌▶◌, maybe}
use Rattle.hr_grammar_finder_laws.specs.Imports.{headers}
use Rattle.hr_grammar_finder_laws.specs.Modules.{decl_of_place, decl_parts_found, alt_parts_found, declarations_found, alternatives_found, finders, module_of, module_finder, complete, trees_of}
use Rattle.hr_grammar_finder_laws.specs.Laws.{DerivedAreFound, FoundAreDerived, FoundAreRead}
use Rattle.hr_grammar_finder_laws.proofs.Ways.{Sound, Matches, none_matches, made_sound, made_found, on_sound, found_on, any_sound, chosen, among_flat, flat_among, then_matches, maybe_matches}
use Rattle.hr_grammar_finder_laws.proofs.Lists.{all_fit}
use Rattle.hr_grammar_finder_laws.proofs.Finders.{AllMatch, AllShrink, Level}
use Rattle.hr_grammar_finder_laws.proofs.Types.{ty_matches}
use Rattle.hr_grammar_finder_laws.proofs.Patterns.{pat_matches}
use Rattle.hr_grammar_finder_laws.proofs.Expressions.{exp_matches}
use Rattle.hr_grammar_finder_laws.proofs.Declarations.{decl_matches, alt_matches}
use Rattle.hr_grammar_finder_laws.proofs.Imports.{headers_match}
use Rattle.hr_grammar_finder_laws.proofs.Blocks.{PartsMatch, PartsShrink, block_matches}

-- the parts of blocks
abbrev DeclPart : Type 0
DeclPart = Decl × (DeclPlace × Ending)

abbrev of_place : DeclPlace → Decl × Ending → DeclPart
of_place next p = (p.0, (next, p.1))

abbrev DeclParts : Level → ℕ → DeclPlace → DeclPart → Reading
DeclParts b n place p = decl_parts b.read n place p.1.0 p.0 p.1.1

place_sound : (b : Level) (n : ℕ) (place next : DeclPlace) → Sound (DeclParts b n place) (decl_of_place b.found n place next)
place_sound b n place next = on_sound (comes_behind place next) (λ e. made_sound (of_place next) (record { sound = λ p ts us h. (e, (b.each.decl n next).sound p ts us h) }))

place_found : (b : Level) (n : ℕ) (place next : DeclPlace) (part : Decl) (ending : Ending) (ts us : List Placed) → decl_parts b.read n place next part ending ts us
    → Among {T = Way DeclPart} ((part, (next, ending)), us) (decl_of_place b.found n place next ts)
place_found b n place next part ending ts us r =
    found_on (comes_behind place next) (made_by (of_place next) (b.found.decl n next)) ((part, (next, ending)), us) ts r.0
    (made_found (of_place next) (b.found.decl n next) (part, ending) ts us ((b.each.decl n next).complete (part, ending) ts us r.1))

abbrev place_ways : Level → ℕ → DeclPlace → List (Finder DeclPart)
place_ways b n place = decl_of_place b.found n place DeclPlace.First ∷ (decl_of_place b.found n place DeclPlace.Top ∷ (decl_of_place b.found n place DeclPlace.Local ∷ []))

decl_part_complete : (b : Level) (n : ℕ) (place next : DeclPlace) (part : Decl) (ending : Ending) (ts us : List Placed) → decl_parts b.read n place next part ending ts us
    → Among {T = Way DeclPart} ((part, (next, ending)), us) (decl_parts_found b.found n place ts)
decl_part_complete b n place DeclPlace.First part ending ts us r = chosen (place_ways b n place) 0 _ ts us (place_found b n place DeclPlace.First part ending ts us r)
decl_part_complete b n place DeclPlace.Top part ending ts us r = chosen (place_ways b n place) 1 _ ts us (place_found b n place DeclPlace.Top part ending ts us r)
decl_part_complete b n place DeclPlace.Local part ending ts us r = chosen (place_ways b n place) 2 _ ts us (place_found b n place DeclPlace.Local part ending ts us r)

decl_parts_match : (b : Level) → PartsMatch (decl_parts b.read) (decl_parts_found b.found)
decl_parts_match b n place = record {
  sound = (any_sound {R = DeclParts b n place} (place_ways b n place) (place_sound b n place DeclPlace.First, (place_sound b n place DeclPlace.Top, (place_sound b n place DeclPlace.Local, tt)))).sound;
  complete = λ p ts us r. decl_part_complete b n place p.1.0 p.0 p.1.1 ts us r;
}

decl_parts_shrink : (b : Level) → PartsShrink (decl_parts b.read)
decl_parts_shrink b n place next part ending ts us r = b.less.decl n next (part, ending) ts us r.1

abbrev AltPart : Type 0
AltPart = Alt × (DeclPlace × Ending)

abbrev alt_of_place : DeclPlace → Alt × Ending → AltPart
alt_of_place place p = (p.0, (place, p.1))

alt_part_complete : (b : Level) (n : ℕ) (place next : DeclPlace) (part : Alt) (ending : Ending) (ts us : List Placed) → alt_parts b.read n place next part ending ts us
    → Among {T = Way AltPart} ((part, (next, ending)), us) (alt_parts_found b.found n place ts)
alt_part_complete b n place next part ending ts us r =
    subst (λ k. Among {T = Way AltPart} ((part, (k, ending)), us) (alt_parts_found b.found n place ts)) (sym r.0)
    (made_found (alt_of_place place) (b.found.alt n) (part, ending) ts us ((b.each.alt n).complete (part, ending) ts us r.1))

alt_parts_match : (b : Level) → PartsMatch (alt_parts b.read) (alt_parts_found b.found)
alt_parts_match b n place = record {
  sound = (made_sound {R = λ (p : AltPart). alt_parts b.read n place p.1.0 p.0 p.1.1} (alt_of_place place) (record { sound = λ p ts us h. (refl, (b.each.alt n).sound p ts us h) })).sound;
  complete = λ p ts us r. alt_part_complete b n place p.1.0 p.0 p.1.1 ts us r;
}

alt_parts_shrink : (b : Level) → PartsShrink (alt_parts b.read)
alt_parts_shrink b n place next part ending ts us r = b.less.alt n (part, ending) ts us r.1

declarations_match : (b : Level) (m : ℕ) (place : DeclPlace) → Matches (declarations_over b.read m place) (declarations_found b.found m place)
declarations_match b m DeclPlace.First = none_matches (λ x ts us r. r)
declarations_match b m DeclPlace.Top = block_matches (decl_parts b.read) (decl_parts_found b.found) (decl_parts_match b) (decl_parts_shrink b) BlockKind.Body m DeclPlace.First
declarations_match b m DeclPlace.Local = block_matches (decl_parts b.read) (decl_parts_found b.found) (decl_parts_match b) (decl_parts_shrink b) BlockKind.Declarations m DeclPlace.Local

alternatives_match : (b : Level) (m : ℕ) → Matches (alternatives_over b.read m) (alternatives_found b.found m)
alternatives_match b m = block_matches (alt_parts b.read) (alt_parts_found b.found) (alt_parts_match b) (alt_parts_shrink b) BlockKind.Alternatives m DeclPlace.Local

-- how much is taken on each level
left_length : (ts : List Placed) → length (items_left ts) ≡ length ts
left_length [] = refl
left_length (next ∷ ts) = ap suc (left_length ts)

both_length : (items others : List Item) → length others ≤ length (items ++ others)
both_length [] others = all_fit (length others)
both_length (item ∷ items) others = longer (length others) (length (items ++ others)) (both_length items others)
  where
    longer : (a b : ℕ) → a ≤ b → a ≤ suc b
    longer a b l = omega arith

given_stays : (items : List Item) (R : Reading) → Gives items R → (ts us : List Placed) → R ts us → length us ≤ length ts
given_stays items R g ts us r =
    subst (λ k. k ≤ length ts) (left_length us) (subst (λ k. length (items_left us) ≤ k) (sym (ap length (g.gives ts us r)) ∙ left_length ts) (both_length items (items_left us)))

begun : (test : Role → Bool) (items : List Item) (R : Reading) → FirstHas test items → Gives items R → (ts us : List Placed) → R ts us → length us < length ts
begun test [] R b g ts us r = elim b [ ]
begun test (item ∷ items) R b g ts us r =
    subst (λ k. k < length ts) (left_length us)
    (subst (λ k. length (items_left us) < k) (sym (ap length (g.gives ts us r)) ∙ left_length ts) (one_more (length (items_left us)) (length (items ++ items_left us)) (both_length items (items_left us))))
  where
    one_more : (a b : ℕ) → a ≤ b → a < suc b
    one_more a b l = omega arith

levels_shrink : (levels : ℕ) → AllShrink (derivations levels)
levels_shrink levels = record {
  ty = λ n place x ts us r. readings_shrink_lem.types levels n place x ts us r;
  pat = λ n place x ts us r. readings_shrink_lem.patterns levels n place x ts us r;
  exp = λ n free place p ts us r. readings_shrink_lem.expressions levels n free place p.0 p.1 ts us r;
  decl = λ n place p ts us r.
      begun (opens_part (kind_at place)) (decl_items p.0) ((derivations levels).decl n place p.0 p.1) (declarations_begin_lem levels place p.0 ((levels_are_lem levels).decl n place p.0 p.1 ts us r))
      ((levels_give_lem levels).decl n place p.0 p.1) ts us r;
  alt = λ n p ts us r.
      begun (opens_part BlockKind.Alternatives) (alt_items p.0) ((derivations levels).alt n p.0 p.1) (alternatives_begin_lem levels p.0 ((levels_are_lem levels).alt n p.0 p.1 ts us r))
      ((levels_give_lem levels).alt n p.0 p.1) ts us r;
  declarations = λ m place block ts us r. given_stays (block_items decl_items block) ((derivations levels).declarations m place block) ((levels_give_lem levels).declarations m place block) ts us r;
  alternatives = λ m block ts us r. given_stays (block_items alt_items block) ((derivations levels).alternatives m block) ((levels_give_lem levels).alternatives m block) ts us r;
}

abbrev level_of : (levels : ℕ) → AllMatch (derivations levels) (finders levels) → Level
level_of levels each = record { read = derivations levels; found = finders levels; each = each; less = levels_shrink levels }

levels_match : (levels : ℕ) → AllMatch (derivations levels) (finders levels)
levels_match zero = record {
  ty = λ n place. none_matches (λ x ts us r. r);
  pat = λ n place. none_matches (λ x ts us r. r);
  exp = λ n free place. none_matches (λ x ts us r. r);
  decl = λ n place. none_matches (λ x ts us r. r);
  alt = λ n. none_matches (λ x ts us r. r);
  declarations = λ m place. none_matches (λ x ts us r. r);
  alternatives = λ m. none_matches (λ x ts us r. r);
}
levels_match (suc levels) = record {
  ty = λ n place. ty_matches (level_of levels (levels_match levels)) n place;
  pat = λ n place. pat_matches (level_of levels (levels_match levels)) n place;
  exp = λ n free place. exp_matches (level_of levels (levels_match levels)) n free place;
  decl = λ n place. decl_matches (level_of levels (levels_match levels)) n place;
  alt = λ n. alt_matches (level_of levels (levels_match levels)) n;
  declarations = λ m place. declarations_match (level_of levels (levels_match levels)) m place;
  alternatives = λ m. alternatives_match (level_of levels (levels_match levels)) m;
}

-- modules
abbrev ModuleParts : Type 0
ModuleParts = Option Header × Block Decl

parts_match : (levels : ℕ) → Matches (λ (p : ModuleParts). reading.maybe header_reading p.0 ▷ (derivations levels).declarations 0 DeclPlace.Top p.1) (maybe headers ▶ (finders levels).declarations 0 DeclPlace.Top)
parts_match levels = then_matches (maybe_matches headers_match) ((levels_match levels).declarations 0 DeclPlace.Top)

-- a module with what is behind its last lexeme
abbrev TailedReading : ℕ → List ℕ → Module → Reading
TailedReading levels tail tree = given (tree.tail ≡ tail) (module_reading levels tree)

modules_sound : (levels : ℕ) (tail : List ℕ) → Sound (TailedReading levels tail) (module_finder levels tail)
modules_sound levels tail = made_sound (module_of tail) (record { sound = λ p ts us h. (refl, (parts_match levels).sound p ts us h) })

modules_complete : (levels : ℕ) (tail : List ℕ) (tree : Module) (ts us : List Placed) → tree.tail ≡ tail → module_reading levels tree ts us
    → Among {T = Way Module} (tree, us) (module_finder levels tail ts)
modules_complete levels tail tree ts us e r =
    subst (λ k. Among {T = Way Module} (record { header = tree.header; body = tree.body; tail = k }, us) (module_finder levels tail ts)) (sym e)
    (made_found (module_of tail) (maybe headers ▶ (finders levels).declarations 0 DeclPlace.Top) (tree.header, tree.body) ts us ((parts_match levels).complete (tree.header, tree.body) ts us r))

whole_way : (way : Way Module) (tree : Module) → Among tree (complete way) → (tree ≡ way.0) × (way.1 ≡ [])
whole_way way tree h = by way.0 way.1 h
  where
    by : (x : Module) (ts : List Placed) → Among tree (complete (x, ts)) → (tree ≡ x) × (ts ≡ [])
    by x [] (inl e) = (e, refl)
    by x [] (inr h) = elim h [ ]
    by x (next ∷ ts) h = elim h [ ]

found_reading : (levels : ℕ) (items : Items) (tree : Module) → Among tree (trees_of levels items) → TailedReading levels items.tail tree (placed_of items.list) []
found_reading levels items tree h =
    let k = among_flat complete (module_finder levels items.tail (placed_of items.list)) tree h in
    let w = whole_way k.0 tree k.2 in
    subst (λ us. TailedReading levels items.tail tree (placed_of items.list) us) w.1
    (subst (λ x. TailedReading levels items.tail x (placed_of items.list) k.0.1) (sym w.0) ((modules_sound levels items.tail).sound k.0.0 (placed_of items.list) k.0.1 k.1))

derived_found : (levels : ℕ) (items : Items) (tree : Module) → Derives levels tree items.list → tree.tail ≡ items.tail → Among tree (trees_of levels items)
derived_found levels items tree d e =
    flat_among complete (module_finder levels items.tail (placed_of items.list)) (tree, []) tree (modules_complete levels items.tail tree (placed_of items.list) [] e d) (inl refl)

pub found_are_derived_lem : FoundAreDerived
found_are_derived_lem = record {
  derived = λ levels items tree h. (found_reading levels items tree h).1;
  tail = λ levels items tree h. (found_reading levels items tree h).0;
}

pub found_are_read_lem : FoundAreRead
found_are_read_lem items tree h =
    let r = found_reading nesting_limit items tree h in
    let m = modules_yield_lem.yields tree items.list r.1 in
    (subst (λ tail. Yields tree (record { list = items.list; tail = tail })) r.0 m.0, m.1)

pub only_one : {T : Type 0} (x : T) (xs : List T) → length xs ≡ 1 → Among x xs → xs ≡ x ∷ []
only_one x [] e h = elim h [ ]
only_one x (y ∷ []) e (inl f) = ap (λ z. z ∷ []) (sym f)
only_one x (y ∷ []) e (inr h) = elim h [ ]
only_one x (y ∷ (z ∷ ys)) e h = absurd (omega arith)

pub the_only : {T : Type 0} (x y : T) → Among x (y ∷ []) → x ≡ y
the_only x y (inl e) = e
the_only x y (inr h) = elim h [ ]

pub derived_are_found_lem : DerivedAreFound
derived_are_found_lem = record {
  found = derived_found;
  none = λ levels items e tree d f. subst (λ trees. Among tree trees) e (derived_found levels items tree d f);
  alone = λ levels items e tree other d o f g.
      sym (the_only other tree (subst (λ trees. Among other trees) (only_one tree (trees_of levels items) e (derived_found levels items tree d f)) (derived_found levels items other o g)));
}
