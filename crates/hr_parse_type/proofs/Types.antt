-- Each node of a type is read where its parts are.
use Rattle.std.proofs.Common.{◌≡◌, ◌≢◌, ℕ, zero, suc, ◌+◌, ◌-◌, ◌<◌, ◌≤◌, max, true, List, [], ◌∷◌, ◌++◌, length, Some, None, refl, sym, ap, ◌∙◌, subst, arith, length-append}
use Rattle.std.proofs.lemmas.Bool.{false≢true}
use Rattle.hr_base.specs.declared.lexeme.Class.{Class}
use Rattle.hr_base.specs.declared.lexeme.Item.{Item}
use Rattle.hr_rules.specs.declared.block.Placed.{Placed}
use Rattle.hr_layout.specs.Standing.{Standing}
use Rattle.hr_tree.specs.declared.lists.Listed.{Listed}
use Rattle.hr_tree.specs.declared.names.Constructor.{Constructor}
use Rattle.hr_tree.specs.declared.types.Ty.{Ty, out-Ty}
use Rattle.hr_tree.specs.declared.types.Ty.TheVariants.{Variable, Constructor as Nullary, Apply, Function, Tuple, List as ListOf, Group}
use Rattle.hr_tree.specs.declared.types.Ty.TheOpen.{Ty-F}
use Rattle.hr_tree.specs.declared.types.Ty.TheViews.{out-roll-Ty, rolls-Variable, rolls-Constructor, rolls-Apply, rolls-Function, rolls-Tuple, rolls-List, rolls-Group}
use Rattle.hr_tree.specs.Names.{constructor_items}
use Rattle.hr_grammar.specs.Words.{IsOf, IsLeftParen, IsRightParen, IsLeftSquare, IsRightSquare, IsComma, IsArrow}
use Rattle.hr_grammar.specs.Spelled.{IsTypeConstructor, AreParts}
use Rattle.hr_grammar.specs.Nodes.{TyPlace}
use Rattle.hr_grammar_cases.specs.Derivations.{Derivations}
use Rattle.hr_grammar_cases.specs.Types.{ty_reading}
use Rattle.hr_grammar_cases.specs.Modules.{derivations}
use Rattle.hr_grammar_cases.proofs.Shrinks.{readings_shrink_lem}
use Rattle.hr_parse_lexeme.specs.declared.nesting.Measured.{Measured}
use Rattle.hr_parse_lexeme.specs.Reads.{Consumes, Takes, Spells, ReadsEach, ReadsParts}
use Rattle.hr_parse_lexeme.proofs.Phrases.{last, then, item, last_item, name, last_name, where_given, parts_close, only_part, none_between, raised, placed_as, each_none, each_more, parts_begin, parts_more}
use Rattle.hr_parse_type.specs.declared.nodes.Parts.{Parts}
use Rattle.hr_parse_type.specs.declared.nodes.Head.{Head}
use Rattle.hr_parse_type.specs.Heads.{head_height, ReadsTy, ReadsHead, ReadsArguments, ReadsTypes}
use Rattle.hr_parse_type.specs.Nodes.{atom_of, applied_of, closed_by, closed_of}

-- a node, on the level above its parts
node : {h : ℕ} {a b : Standing} (place : TyPlace) (layer : Ty-F Ty) (ty : Ty) → out-Ty ty ≡ layer → Consumes h (λ below n. ty_reading below n place layer) a b
    → Consumes (h + 1) (λ below n. below.ty n place ty) a b
node place layer ty e p =
    raised (λ below n. below.ty n place ty) (λ levels n ts us r. subst (λ l. ty_reading (derivations levels) n place l ts us) (sym e) r) p

out_variable : (name : Item) → out-Ty (Variable name) ≡ Ty-F.Variable name
out_variable name = ap out-Ty (sym (rolls-Variable name)) ∙ out-roll-Ty (Ty-F.Variable name)

out_nullary : (named : Constructor) → out-Ty (Nullary named) ≡ Ty-F.Constructor named
out_nullary named = ap out-Ty (sym (rolls-Constructor named)) ∙ out-roll-Ty (Ty-F.Constructor named)

out_apply : (named : Constructor) (arguments : List Ty) → out-Ty (Apply named arguments) ≡ Ty-F.Apply named arguments
out_apply named arguments = ap out-Ty (sym (rolls-Apply named arguments)) ∙ out-roll-Ty (Ty-F.Apply named arguments)

out_function : (from : Ty) (arrow : Item) (to : Ty) → out-Ty (Function from arrow to) ≡ Ty-F.Function from arrow to
out_function from arrow to = ap out-Ty (sym (rolls-Function from arrow to)) ∙ out-roll-Ty (Ty-F.Function from arrow to)

out_tuple : (left : Item) (parts : List (Listed Ty)) (right : Item) → out-Ty (Tuple left parts right) ≡ Ty-F.Tuple left parts right
out_tuple left parts right = ap out-Ty (sym (rolls-Tuple left parts right)) ∙ out-roll-Ty (Ty-F.Tuple left parts right)

out_list : (left : Item) (part : Ty) (right : Item) → out-Ty (ListOf left part right) ≡ Ty-F.List left part right
out_list left part right = ap out-Ty (sym (rolls-List left part right)) ∙ out-roll-Ty (Ty-F.List left part right)

out_group : (left : Item) (part : Ty) (right : Item) → out-Ty (Group left part right) ≡ Ty-F.Group left part right
out_group left part right = ap out-Ty (sym (rolls-Group left part right)) ∙ out-roll-Ty (Ty-F.Group left part right)

not_empty : {T : Type 0} (x : T) (xs : List T) → (x ∷ xs) ≢ []
not_empty x xs = λ e. cc

pub variable_read : {name : Item} {a b : Standing} → Takes (IsOf Class.VarId) name a b → ReadsTy TyPlace.Atomic (record { tree = Variable name; height = 1 }) a b
variable_read {name} p = node TyPlace.Atomic (Ty-F.Variable name) (Variable name) (out_variable name) (last_item {m = 0} p)

nullary_read : (place : TyPlace) {named : Constructor} {a b : Standing} → Spells IsTypeConstructor constructor_items named a b
    → ReadsTy place (record { tree = Nullary named; height = 1 }) a b
nullary_read place {named} p = node place (Ty-F.Constructor named) (Nullary named) (out_nullary named) (last_name {m = 0} p)

-- a constructor where no argument may follow
pub named_read : {named : Constructor} {a b : Standing} → Spells IsTypeConstructor constructor_items named a b → ReadsTy TyPlace.Atomic (record { tree = Nullary named; height = 1 }) a b
named_read p = nullary_read TyPlace.Atomic p

-- with its arguments
applied_by : (named : Constructor) (arguments : List Ty) (h : ℕ) {a b c : Standing} → Spells IsTypeConstructor constructor_items named a b
    → ReadsEach h (λ below n. below.ty n TyPlace.Atomic) arguments b c → ReadsTy TyPlace.Applied (applied_of named arguments h) a c
applied_by named [] h p q = none_between q (nullary_read TyPlace.Applied p)
applied_by named (first ∷ rest) h p q =
    node TyPlace.Applied (Ty-F.Apply named (first ∷ rest)) (Apply named (first ∷ rest)) (out_apply named (first ∷ rest))
    (where_given _ (refl, not_empty first rest) (name p q.reads))

pub applied_read : {named : Constructor} {arguments : Measured (List Ty)} {a b c : Standing} → Spells IsTypeConstructor constructor_items named a b → ReadsArguments arguments b c
    → ReadsTy TyPlace.Applied (applied_of named arguments.tree arguments.height) a c
applied_read {named} {arguments} p q = applied_by named arguments.tree arguments.height p q

left_of_max : (a b : ℕ) → a ≤ max a b
left_of_max a b = omega arith

right_of_max : (a b : ℕ) → b ≤ max a b
right_of_max a b = omega arith

-- an arrow between its sides
pub function_read : {from to : Measured Ty} {arrow : Item} {a b c d : Standing} → ReadsTy TyPlace.Applied from a b → Takes IsArrow arrow b c → ReadsTy TyPlace.Whole to c d
    → ReadsTy TyPlace.Whole (record { tree = Function from.tree arrow to.tree; height = max from.height to.height + 1 }) a d
function_read {from} {to} {arrow} p q r =
    node TyPlace.Whole (Ty-F.Function from.tree arrow to.tree) (Function from.tree arrow to.tree) (out_function from.tree arrow to.tree)
    (where_given _ refl (then p (left_of_max from.height to.height) (item q (last r (right_of_max from.height to.height)))))

-- a type between square brackets
pub list_read : {left : Item} {part : Measured Ty} {right : Item} {a b c d : Standing} → Takes IsLeftSquare left a b → ReadsTy TyPlace.Whole part b c → Takes IsRightSquare right c d
    → ReadsTy TyPlace.Atomic (record { tree = ListOf left part.tree right; height = part.height + 1 }) a d
list_read {left} {part} {right} p q r =
    node TyPlace.Atomic (Ty-F.List left part.tree right) (ListOf left part.tree right) (out_list left part.tree right) (item p (then q (omega arith) (last_item r)))

-- what stands in parentheses
two_parts : (others : List (Listed Ty)) (first last : Listed Ty) → length (first ∷ others) ≤ 14 → AreParts (length ((first ∷ others) ++ last ∷ []))
two_parts others first last room = (omega (arith, length-append (first ∷ others) (last ∷ [])), omega (arith, length-append (first ∷ others) (last ∷ [])))

closed_in : (left : Item) (others : List (Listed Ty)) (last : Ty) (h : ℕ) (right : Item) {a b c d : Standing} → Takes IsLeftParen left a b
    → ReadsParts h IsComma (λ below n. below.ty n TyPlace.Whole) others last b c → length others ≤ 14 → Takes IsRightParen right c d → ReadsTy TyPlace.Atomic (closed_by left others last h right) a d
closed_in left [] last h right p q few r =
    node TyPlace.Atomic (Ty-F.Group left last right) (Group left last right) (out_group left last right) (item p (then (only_part q) (omega arith) (last_item r)))
closed_in left (first ∷ others) last h right p q few r =
    node TyPlace.Atomic (Ty-F.Tuple left ((first ∷ others) ++ record { part = last; separator = None } ∷ []) right) (Tuple left ((first ∷ others) ++ record { part = last; separator = None } ∷ []) right)
    (out_tuple left ((first ∷ others) ++ record { part = last; separator = None } ∷ []) right)
    (where_given _ (two_parts others first (record { part = last; separator = None }) few) (item p (then (parts_close q) (omega arith) (last_item r))))

pub closed_read : {left : Item} {parts : Parts} {right : Item} {a b c d : Standing} → Takes IsLeftParen left a b → ReadsTypes parts b c → length parts.others ≤ 14 → Takes IsRightParen right c d
    → ReadsTy TyPlace.Atomic (closed_of left parts right) a d
closed_read {left} {parts} {right} p q few r = closed_in left parts.others parts.last parts.height right p q few r

-- what may stand at a place may stand where more may
applied_too : (below : Derivations) (n : ℕ) (layer : Ty-F Ty) (ts us : List Placed) → ty_reading below n TyPlace.Atomic layer ts us → ty_reading below n TyPlace.Applied layer ts us
applied_too below n (Ty-F.Variable name) ts us r = r
applied_too below n (Ty-F.Constructor named) ts us r = r
applied_too below n (Ty-F.Tuple left parts right) ts us r = r
applied_too below n (Ty-F.List left part right) ts us r = r
applied_too below n (Ty-F.Group left part right) ts us r = r
applied_too below n (Ty-F.Apply named arguments) ts us r = absurd (false≢true r.0.0)
applied_too below n (Ty-F.Function from arrow to) ts us r = absurd (false≢true r.0)

whole_too : (below : Derivations) (n : ℕ) (layer : Ty-F Ty) (ts us : List Placed) → ty_reading below n TyPlace.Applied layer ts us → ty_reading below n TyPlace.Whole layer ts us
whole_too below n (Ty-F.Variable name) ts us r = r
whole_too below n (Ty-F.Constructor named) ts us r = r
whole_too below n (Ty-F.Tuple left parts right) ts us r = r
whole_too below n (Ty-F.List left part right) ts us r = r
whole_too below n (Ty-F.Group left part right) ts us r = r
whole_too below n (Ty-F.Apply named arguments) ts us r = r
whole_too below n (Ty-F.Function from arrow to) ts us r = absurd (false≢true r.0)

on_level : (first second : TyPlace) → ((below : Derivations) (n : ℕ) (layer : Ty-F Ty) (ts us : List Placed) → ty_reading below n first layer ts us → ty_reading below n second layer ts us)
    → (ty : Ty) (levels n : ℕ) (ts us : List Placed) → (derivations levels).ty n first ty ts us → (derivations levels).ty n second ty ts us
on_level first second turn ty zero n ts us r = elim r [ ]
on_level first second turn ty (suc levels) n ts us r = turn (derivations levels) n (out-Ty ty) ts us r

pub as_applied : {ty : Measured Ty} {a b : Standing} → ReadsTy TyPlace.Atomic ty a b → ReadsTy TyPlace.Applied ty a b
as_applied {ty} p = placed_as (λ below n. below.ty n TyPlace.Applied ty.tree) (on_level TyPlace.Atomic TyPlace.Applied applied_too ty.tree) p

pub as_whole : {ty : Measured Ty} {a b : Standing} → ReadsTy TyPlace.Applied ty a b → ReadsTy TyPlace.Whole ty a b
as_whole {ty} p = placed_as (λ below n. below.ty n TyPlace.Whole ty.tree) (on_level TyPlace.Applied TyPlace.Whole whole_too ty.tree) p

-- a type is a lexeme or more
pub ty_shrinks : {place : TyPlace} {ty : Measured Ty} {a b : Standing} → ReadsTy place ty a b → length b.rest < length a.rest
ty_shrinks {place} {ty} {a} {b} p = readings_shrink_lem.types ty.height _ place ty.tree a.rest b.rest (p.read ty.height (omega arith))

-- a type that equals one that is read
pub made : {place : TyPlace} {found ty : Measured Ty} {a b : Standing} → found ≡ ty → ReadsTy place ty a b → ReadsTy place found a b
made {place} {a} {b} e p = subst (λ t. ReadsTy place t a b) (sym e) p

pub made_tree : {place : TyPlace} {found ty : Ty} {h : ℕ} {a b : Standing} → found ≡ ty → ReadsTy place (record { tree = ty; height = h }) a b → ReadsTy place (record { tree = found; height = h }) a b
made_tree {place} {h = h} {a} {b} e p = subst (λ t. ReadsTy place (record { tree = t; height = h }) a b) (sym e) p

pub atom_read : (head : Head) {a b : Standing} → ReadsHead head a b → ReadsTy TyPlace.Atomic (atom_of head) a b
atom_read (Head.Named named) p = named_read p
atom_read (Head.Atom ty) p = p

pub made_name : {found named : Constructor} {a b : Standing} → found ≡ named → Spells IsTypeConstructor constructor_items named a b → Spells IsTypeConstructor constructor_items found a b
made_name {a} {b} e p = subst (λ t. Spells IsTypeConstructor constructor_items t a b) (sym e) p

-- arguments: none yet, and one more
pub no_arguments : {list : List Ty} (a : Standing) → list ≡ [] → ReadsEach 0 (λ below n. below.ty n TyPlace.Atomic) list a a
no_arguments a e = subst (λ l. ReadsEach 0 (λ below n. below.ty n TyPlace.Atomic) l a a) (sym e) (each_none _ a)

pub one_argument : {h m : ℕ} {list more : List Ty} {ty : Measured Ty} {part : Ty} {a b c : Standing} → ReadsEach h (λ below n. below.ty n TyPlace.Atomic) list a b
    → ReadsTy TyPlace.Atomic ty b c → part ≡ ty.tree → more ≡ list ++ part ∷ [] → m ≡ max ty.height h → ReadsEach m (λ below n. below.ty n TyPlace.Atomic) more a c
one_argument {h} {m} {list} {ty} {a} {c} p q t e f =
    subst (λ l. ReadsEach m (λ below n. below.ty n TyPlace.Atomic) l a c) (sym (e ∙ ap (λ x. list ++ x ∷ []) t))
    (subst (λ k. ReadsEach k (λ below n. below.ty n TyPlace.Atomic) (list ++ ty.tree ∷ []) a c) (sym f) (each_more (max ty.height h) p (right_of_max ty.height h) q (left_of_max ty.height h)))

-- types with commas: a first one, and one more
pub first_type : {ty : Measured Ty} {others : List (Listed Ty)} {a b : Standing} → ReadsTy TyPlace.Whole ty a b → others ≡ []
    → ReadsParts ty.height IsComma (λ below n. below.ty n TyPlace.Whole) others ty.tree a b
first_type {ty} {a} {b} p e = subst (λ l. ReadsParts ty.height IsComma (λ below n. below.ty n TyPlace.Whole) l ty.tree a b) (sym e) (parts_begin IsComma _ ty.tree p)

pub next_type : {h m : ℕ} {others more : List (Listed Ty)} {last part : Ty} {next : Measured Ty} {comma : Item} {a b c d : Standing} → ReadsParts h IsComma (λ below n. below.ty n TyPlace.Whole) others last a b
    → Takes IsComma comma b c → ReadsTy TyPlace.Whole next c d → part ≡ last → more ≡ others ++ record { part = part; separator = Some comma } ∷ [] → m ≡ max next.height h
    → ReadsParts m IsComma (λ below n. below.ty n TyPlace.Whole) more next.tree a d
next_type {h} {m} {others} {last} {next} {comma} {a} {d} p q r t e f =
    subst (λ l. ReadsParts m IsComma (λ below n. below.ty n TyPlace.Whole) l next.tree a d) (sym (e ∙ ap (λ x. others ++ record { part = x; separator = Some comma } ∷ []) t))
    (subst (λ k. ReadsParts k IsComma (λ below n. below.ty n TyPlace.Whole) (others ++ record { part = last; separator = Some comma } ∷ []) next.tree a d) (sym f)
    (parts_more next.tree (max next.height h) p (right_of_max next.height h) q r (left_of_max next.height h)))

pub parts_stay : {parts : Parts} {a b c : Standing} → c ≡ b → ReadsTypes parts a b → ReadsTypes parts a c
parts_stay {parts} {a} e p = subst (λ s. ReadsTypes parts a s) (sym e) p

-- heights that fit below a depth
pub more_fits : (depth h k m : ℕ) → depth + h ≤ 256 → depth + k ≤ 256 → m ≡ max k h → depth + m ≤ 256
more_fits depth h k m p q e = omega arith

pub head_fits : (depth h m : ℕ) (head : Head) (found : Measured Ty) → found ≡ atom_of head → depth + h ≤ 256 → depth + head_height head ≤ 256 → m ≡ max found.height h → depth + m ≤ 256
head_fits depth h m (Head.Named named) found e p q f = more_fits depth h found.height m p (subst (λ t. depth + t ≤ 256) (sym (ap (λ t. t.height) e)) q) f
head_fits depth h m (Head.Atom ty) found e p q f = more_fits depth h found.height m p (subst (λ t. depth + t ≤ 256) (sym (ap (λ t. t.height) e)) q) f

-- how many parts there are
pub none_few : (others : List (Listed Ty)) → others ≡ [] → length others ≤ 14
none_few others e = omega (arith, ap length e)

pub more_few : (others more : List (Listed Ty)) (part : Listed Ty) → more ≡ others ++ part ∷ [] → length others < 14 → length more ≤ 14
more_few others more part e h = omega (arith, ap length e, length-append others (part ∷ []))

pub one_fewer : (others more : List (Listed Ty)) (part : Listed Ty) → more ≡ others ++ part ∷ [] → length others < 14 → 14 - length more < 14 - length others
one_fewer others more part e h = omega (arith, ap length e, length-append others (part ∷ []))

within : (depth h : ℕ) → depth + h ≤ 256 → h ≤ 256 - depth
within depth h p = omega arith

-- on all the levels below a depth
pub within_depth : (depth : ℕ) {ty : Measured Ty} {found : Ty} {a b : Standing} → found ≡ ty.tree → ReadsTy TyPlace.Whole ty a b → depth + ty.height ≤ 256
    → Consumes (256 - depth) (λ below n. below.ty n TyPlace.Whole found) a b
within_depth depth {ty} {a = a} {b} e p fits = subst (λ t. Consumes (256 - depth) (λ below n. below.ty n TyPlace.Whole t) a b) (sym e) (last p (within depth ty.height fits))
