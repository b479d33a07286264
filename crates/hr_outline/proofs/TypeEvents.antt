-- What is read of the nodes of a type.
use Rattle.std.proofs.Common.{◌≡◌, List, [], ◌∷◌, ◌++◌, sym, ap, ◌∙◌, refl}
use Rattle.std.specs.List.{flat_map}
use Rattle.std.proofs.lemmas.List.Folds.{flat_map-map}
use Rattle.std.proofs.lemmas.List.Sums.{fold-append}
use Rattle.hr_base.specs.declared.lexeme.Item.{Item}
use Rattle.hr_tree.specs.declared.lists.Listed.{Listed}
use Rattle.hr_tree.specs.declared.names.Constructor.{Constructor}
use Rattle.hr_tree.specs.declared.types.Ty.{Ty}
use Rattle.hr_tree.specs.declared.types.Ty.TheOpen.{Ty-F}
use Rattle.hr_tree.specs.declared.types.Ty.TheVariants.{Apply, Function, Tuple, List as ListOf, Group}
use Rattle.hr_tree.specs.declared.types.Ty.TheFolds.{fold-roll-Ty}
use Rattle.hr_tree.specs.declared.types.Ty.TheViews.{rolls-Apply, rolls-Function, rolls-Tuple, rolls-List, rolls-Group}
use Rattle.hr_scope_rules.specs.declared.naming.Naming.{Naming}
use Rattle.hr_scope_rules.specs.Events.{Event, plain}
use Rattle.hr_scope_rules.specs.Phrases.{constructor_events, listed_events, done, ty_layer, ty_events}

pub ty_function : (from : Ty) (arrow : Item) (to : Ty) → ty_events (Function from arrow to) ≡ ty_events from ++ plain arrow ∷ ty_events to
ty_function from arrow to = ap ty_events (sym (rolls-Function from arrow to)) ∙ fold-roll-Ty (List Event) ty_layer (Ty-F.Function from arrow to)

pub ty_group : (left : Item) (part : Ty) (right : Item) → ty_events (Group left part right) ≡ plain left ∷ (ty_events part ++ plain right ∷ [])
ty_group left part right = ap ty_events (sym (rolls-Group left part right)) ∙ fold-roll-Ty (List Event) ty_layer (Ty-F.Group left part right)

pub ty_list : (left : Item) (part : Ty) (right : Item) → ty_events (ListOf left part right) ≡ plain left ∷ (ty_events part ++ plain right ∷ [])
ty_list left part right = ap ty_events (sym (rolls-List left part right)) ∙ fold-roll-Ty (List Event) ty_layer (Ty-F.List left part right)

pub ty_apply : (constructor : Constructor) (arguments : List Ty) → ty_events (Apply constructor arguments) ≡ constructor_events Naming.Type constructor ++ flat_map ty_events arguments
ty_apply constructor arguments =
    ap ty_events (sym (rolls-Apply constructor arguments)) ∙ fold-roll-Ty (List Event) ty_layer (Ty-F.Apply constructor arguments)
    ∙ ap (λ l. constructor_events Naming.Type constructor ++ l) (flat_map-map done ty_events arguments)

pub ty_tuple : (left : Item) (parts : List (Listed Ty)) (right : Item) → ty_events (Tuple left parts right) ≡ plain left ∷ (flat_map (listed_events ty_events) parts ++ plain right ∷ [])
ty_tuple left parts right =
    ap ty_events (sym (rolls-Tuple left parts right)) ∙ fold-roll-Ty (List Event) ty_layer (Ty-F.Tuple left parts right)
    ∙ ap (λ l. plain left ∷ (l ++ plain right ∷ [])) (flat_map-map (listed_events done) (λ (l : Listed Ty). record { part = ty_events l.part; separator = l.separator }) parts)

pub ruleset ty_read = (fold-append, ty_function, ty_group, ty_list, ty_apply, ty_tuple)
