-- What the nodes of a type yield.
use Rattle.std.proofs.Common.{◌≡◌, List, [], ◌∷◌, ◌++◌, sym, ap, ◌∙◌, refl}
use Rattle.std.specs.List.{flat_map}
use Rattle.std.proofs.lemmas.List.Folds.{flat_map-map}
use Rattle.std.proofs.lemmas.List.Sums.{fold-append}
use Rattle.hr_base.specs.declared.lexeme.Item.{Item}
use Rattle.hr_tree.specs.declared.lists.Listed.{Listed}
use Rattle.hr_tree.specs.declared.names.Constructor.{Constructor}
use Rattle.hr_tree.specs.declared.types.Ty.{Ty}
use Rattle.hr_tree.specs.declared.types.Ty.TheOpen.{Ty-F}
use Rattle.hr_tree.specs.declared.types.Ty.TheVariants.{Apply, Function, Tuple, List as ListOf, Group}
use Rattle.hr_tree.specs.declared.types.Ty.TheFolds.{fold-roll-Ty}
use Rattle.hr_tree.specs.declared.types.Ty.TheViews.{rolls-Apply, rolls-Function, rolls-Tuple, rolls-List, rolls-Group}
use Rattle.hr_tree.specs.Names.{constructor_items}
use Rattle.hr_tree.specs.Lists.{listed_items}
use Rattle.hr_tree.specs.Yields.{done, ty_layer, ty_items}

pub ty_function : (from : Ty) (arrow : Item) (to : Ty) → ty_items (Function from arrow to) ≡ ty_items from ++ arrow ∷ ty_items to
ty_function from arrow to = ap ty_items (sym (rolls-Function from arrow to)) ∙ fold-roll-Ty (List Item) ty_layer (Ty-F.Function from arrow to)

pub ty_group : (left : Item) (part : Ty) (right : Item) → ty_items (Group left part right) ≡ left ∷ (ty_items part ++ right ∷ [])
ty_group left part right = ap ty_items (sym (rolls-Group left part right)) ∙ fold-roll-Ty (List Item) ty_layer (Ty-F.Group left part right)

pub ty_list : (left : Item) (part : Ty) (right : Item) → ty_items (ListOf left part right) ≡ left ∷ (ty_items part ++ right ∷ [])
ty_list left part right = ap ty_items (sym (rolls-List left part right)) ∙ fold-roll-Ty (List Item) ty_layer (Ty-F.List left part right)

pub ty_apply : (constructor : Constructor) (arguments : List Ty) → ty_items (Apply constructor arguments) ≡ constructor_items constructor ++ flat_map ty_items arguments
ty_apply constructor arguments =
    ap ty_items (sym (rolls-Apply constructor arguments)) ∙ fold-roll-Ty (List Item) ty_layer (Ty-F.Apply constructor arguments)
    ∙ ap (λ l. constructor_items constructor ++ l) (flat_map-map done ty_items arguments)

pub ty_tuple : (left : Item) (parts : List (Listed Ty)) (right : Item) → ty_items (Tuple left parts right) ≡ left ∷ (flat_map (listed_items ty_items) parts ++ right ∷ [])
ty_tuple left parts right =
    ap ty_items (sym (rolls-Tuple left parts right)) ∙ fold-roll-Ty (List Item) ty_layer (Ty-F.Tuple left parts right)
    ∙ ap (λ l. left ∷ (l ++ right ∷ [])) (flat_map-map (listed_items done) (λ (l : Listed Ty). record { part = ty_items l.part; separator = l.separator }) parts)

pub ruleset ty_yields = (fold-append, ty_function, ty_group, ty_list, ty_apply, ty_tuple)
