-- The types that are found are those that are read.
use Rattle.std.proofs.Common.{◌≡◌, ℕ, true, List, sym, subst}
use lib.Chars.{codes}
use Rattle.hr_base.specs.declared.lexeme.Class.{Class}
use Rattle.hr_base.specs.declared.lexeme.Item.{Item}
use Rattle.hr_rules.specs.declared.block.Placed.{Placed}
use Rattle.hr_tree.specs.declared.lists.Listed.{Listed}
use Rattle.hr_tree.specs.declared.names.Constructor.{Constructor}
use Rattle.hr_tree.specs.declared.types.Ty.{Ty, out-Ty, roll-Ty}
use Rattle.hr_tree.specs.declared.types.Ty.TheOpen.{Ty-F}
use Rattle.hr_tree.specs.declared.types.Ty.TheViews.{roll-out-Ty, out-roll-Ty}
use Rattle.hr_grammar.specs.Nodes.{TyPlace}
use Rattle.hr_grammar.specs.Types.{takes_application, takes_function}
use Rattle.hr_grammar.specs.Words.{IsComma}
use Rattle.hr_grammar_cases.specs.Types.{ty_reading, ty_over}
use Rattle.hr_grammar_finder_laws.specs.Ways.{Among, Way}
use Rattle.hr_grammar_finder_laws.specs.Types.{ty_ways, ty_layers, ty_found}
use Rattle.hr_grammar_finder_laws.proofs.Ways.{Sound, Matches, Production, any_sound, chosen, on_sound, produced, produced_on, sound_production, made_matches, one_matches, then_matches, passing_matches, so_matches, so_given, same_matches}
use Rattle.hr_grammar_finder_laws.proofs.Tests.{tests_of, tests_reserved, tests_special, tests_one, tests_parts, tests_at}
use Rattle.hr_grammar_finder_laws.proofs.Lists.{in_turn_matches, separated_matches}
use Rattle.hr_grammar_finder_laws.proofs.Names.{one_shrinks, type_constructors_match}
use Rattle.hr_grammar_finder_laws.proofs.Finders.{Level}

abbrev tuple_of : Item × (List (Listed Ty) × Item) → Ty-F Ty
tuple_of p = Ty-F.Tuple p.0 p.1.0 p.1.1

abbrev list_of : Item × (Ty × Item) → Ty-F Ty
list_of p = Ty-F.List p.0 p.1.0 p.1.1

abbrev group_of : Item × (Ty × Item) → Ty-F Ty
group_of p = Ty-F.Group p.0 p.1.0 p.1.1

abbrev apply_of : Constructor × List Ty → Ty-F Ty
apply_of p = Ty-F.Apply p.0 p.1

abbrev function_of : Ty × (Item × Ty) → Ty-F Ty
function_of p = Ty-F.Function p.0 p.1.0 p.1.1

abbrev variable : (b : Level) (n : ℕ) (place : TyPlace) → Production (ty_reading b.read n place) Ty-F.Variable
variable b n place = (_, one_matches n (tests_of Class.VarId))

abbrev constructor : (b : Level) (n : ℕ) (place : TyPlace) → Production (ty_reading b.read n place) Ty-F.Constructor
constructor b n place = (_, type_constructors_match n)

abbrev tuple : (b : Level) (n : ℕ) (place : TyPlace) → Production (ty_reading b.read n place) tuple_of
tuple b n place = (
  _,
  passing_matches (tests_at (λ (p : Item × (List (Listed Ty) × Item)). p.1.0) tests_parts)
      (then_matches (one_matches n (tests_special (codes "(")))
      (then_matches (separated_matches (one_matches n (tests_special (codes ","))) (b.each.ty n TyPlace.Whole) (one_shrinks n IsComma) (b.less.ty n TyPlace.Whole))
      (one_matches n (tests_special (codes ")"))))),
)

abbrev list : (b : Level) (n : ℕ) (place : TyPlace) → Production (ty_reading b.read n place) list_of
list b n place = (_, then_matches (one_matches n (tests_special (codes "["))) (then_matches (b.each.ty n TyPlace.Whole) (one_matches n (tests_special (codes "]")))))

abbrev group : (b : Level) (n : ℕ) (place : TyPlace) → Production (ty_reading b.read n place) group_of
group b n place = (_, then_matches (one_matches n (tests_special (codes "("))) (then_matches (b.each.ty n TyPlace.Whole) (one_matches n (tests_special (codes ")")))))

abbrev apply : (b : Level) (n : ℕ) (place : TyPlace) → takes_application place ≡ true → Production (ty_reading b.read n place) apply_of
apply b n place e = (
  _,
  so_given e (passing_matches (tests_at (λ (p : Constructor × List Ty). p.1) tests_one)
      (then_matches (type_constructors_match n) (in_turn_matches (b.each.ty n TyPlace.Atomic) (b.less.ty n TyPlace.Atomic)))),
)

abbrev function : (b : Level) (n : ℕ) (place : TyPlace) → takes_function place ≡ true → Production (ty_reading b.read n place) function_of
function b n place e =
    (_, so_matches e (then_matches (b.each.ty n TyPlace.Applied) (then_matches (one_matches n (tests_reserved (codes "->"))) (b.each.ty n TyPlace.Whole))))

layers_sound : (b : Level) (n : ℕ) (place : TyPlace) → Sound (ty_reading b.read n place) (ty_layers b.found n place)
layers_sound b n place =
    any_sound (ty_ways b.found n place) (
      sound_production Ty-F.Variable (variable b n place),
      (
        sound_production Ty-F.Constructor (constructor b n place),
        (
          sound_production tuple_of (tuple b n place),
          (
            sound_production list_of (list b n place),
            (
              sound_production group_of (group b n place),
              (
                on_sound (takes_application place) (λ e. sound_production apply_of (apply b n place e)),
                (on_sound (takes_function place) (λ e. sound_production function_of (function b n place e)), tt),
              ),
            ),
          ),
        ),
      ),
    )

layers_complete : (b : Level) (n : ℕ) (place : TyPlace) (layer : Ty-F Ty) (ts us : List Placed) → ty_reading b.read n place layer ts us
    → Among {T = Way (Ty-F Ty)} (layer, us) (ty_layers b.found n place ts)
layers_complete b n place (Ty-F.Variable name) ts us r =
    chosen (ty_ways b.found n place) 0 _ ts us (produced (ty_reading b.read n place) Ty-F.Variable (variable b n place) name ts us r)
layers_complete b n place (Ty-F.Constructor named) ts us r =
    chosen (ty_ways b.found n place) 1 _ ts us (produced (ty_reading b.read n place) Ty-F.Constructor (constructor b n place) named ts us r)
layers_complete b n place (Ty-F.Tuple left parts right) ts us r =
    chosen (ty_ways b.found n place) 2 _ ts us (produced (ty_reading b.read n place) tuple_of (tuple b n place) (left, (parts, right)) ts us r)
layers_complete b n place (Ty-F.List left part right) ts us r =
    chosen (ty_ways b.found n place) 3 _ ts us (produced (ty_reading b.read n place) list_of (list b n place) (left, (part, right)) ts us r)
layers_complete b n place (Ty-F.Group left part right) ts us r =
    chosen (ty_ways b.found n place) 4 _ ts us (produced (ty_reading b.read n place) group_of (group b n place) (left, (part, right)) ts us r)
layers_complete b n place (Ty-F.Apply named arguments) ts us r =
    chosen (ty_ways b.found n place) 5 _ ts us (produced_on (ty_reading b.read n place) apply_of (takes_application place) r.0.0 (apply b n place r.0.0) (named, arguments) ts us r)
layers_complete b n place (Ty-F.Function from arrow to) ts us r =
    chosen (ty_ways b.found n place) 6 _ ts us (produced_on (ty_reading b.read n place) function_of (takes_function place) r.0 (function b n place r.0) (from, (arrow, to)) ts us r)

layers_match : (b : Level) (n : ℕ) (place : TyPlace) → Matches (ty_reading b.read n place) (ty_layers b.found n place)
layers_match b n place = record { sound = (layers_sound b n place).sound; complete = layers_complete b n place }

pub ty_matches : (b : Level) (n : ℕ) (place : TyPlace) → Matches (ty_over b.read n place) (ty_found b.found n place)
ty_matches b n place =
    made_matches roll-Ty out-Ty (λ ty. roll-out-Ty ty)
    (same_matches (λ layer ts us r. subst (λ l. ty_reading b.read n place l ts us) (sym (out-roll-Ty layer)) r) (λ layer ts us r. subst (λ l. ty_reading b.read n place l ts us) (out-roll-Ty layer) r)
    (layers_match b n place))
