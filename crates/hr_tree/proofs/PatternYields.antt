-- What the nodes of a pattern yield.
use Rattle.std.proofs.Common.{◌≡◌, List, [], ◌∷◌, ◌++◌, sym, ap, ◌∙◌}
use Rattle.std.specs.List.{flat_map}
use Rattle.std.proofs.lemmas.List.Folds.{flat_map-map}
use Rattle.std.proofs.lemmas.List.Sums.{fold-append}
use Rattle.hr_base.specs.declared.lexeme.Item.{Item}
use Rattle.hr_tree.specs.declared.lists.Listed.{Listed}
use Rattle.hr_tree.specs.declared.lists.Operand.{Operand}
use Rattle.hr_tree.specs.declared.lists.Field.{Field}
use Rattle.hr_tree.specs.declared.names.Variable.{Variable}
use Rattle.hr_tree.specs.declared.names.Constructor.{Constructor}
use Rattle.hr_tree.specs.declared.patterns.Pat.{Pat}
use Rattle.hr_tree.specs.declared.patterns.Pat.TheOpen.{Pat-F}
use Rattle.hr_tree.specs.declared.patterns.Pat.TheVariants.{As, Lazy, Apply, Infix, Tuple, List as ListOf, Group, Fields}
use Rattle.hr_tree.specs.declared.patterns.Pat.TheFolds.{fold-roll-Pat}
use Rattle.hr_tree.specs.declared.patterns.Pat.TheViews.{rolls-As, rolls-Lazy, rolls-Apply, rolls-Infix, rolls-Tuple, rolls-List, rolls-Group, rolls-Fields}
use Rattle.hr_tree.specs.Names.{variable_items, constructor_items}
use Rattle.hr_tree.specs.Lists.{listed_items, operand_items, field_items}
use Rattle.hr_tree.specs.Yields.{done, pat_layer, pat_items}

pub pat_as : (variable : Variable) (mark : Item) (part : Pat) → pat_items (As variable mark part) ≡ variable_items variable ++ mark ∷ pat_items part
pat_as variable mark part =
    ap pat_items (sym (rolls-As variable mark part)) ∙ fold-roll-Pat (List Item) pat_layer (Pat-F.As variable mark part)

pub pat_lazy : (mark : Item) (part : Pat) → pat_items (Lazy mark part) ≡ mark ∷ pat_items part
pat_lazy mark part =
    ap pat_items (sym (rolls-Lazy mark part)) ∙ fold-roll-Pat (List Item) pat_layer (Pat-F.Lazy mark part)

pub pat_apply : (constructor : Constructor) (arguments : List Pat) → pat_items (Apply constructor arguments) ≡ constructor_items constructor ++ flat_map pat_items arguments
pat_apply constructor arguments =
    ap pat_items (sym (rolls-Apply constructor arguments)) ∙ fold-roll-Pat (List Item) pat_layer (Pat-F.Apply constructor arguments)
    ∙ ap (λ l. constructor_items constructor ++ l) (flat_map-map done pat_items arguments)

pub pat_infix : (operands : List (Operand Pat)) → pat_items (Infix operands) ≡ flat_map (operand_items pat_items) operands
pat_infix operands =
    ap pat_items (sym (rolls-Infix operands)) ∙ fold-roll-Pat (List Item) pat_layer (Pat-F.Infix operands)
    ∙ flat_map-map (operand_items done) (λ (o : Operand Pat). record { minus = o.minus; part = pat_items o.part; operator = o.operator }) operands

pub pat_tuple : (left : Item) (parts : List (Listed Pat)) (right : Item) → pat_items (Tuple left parts right) ≡ left ∷ (flat_map (listed_items pat_items) parts ++ right ∷ [])
pat_tuple left parts right =
    ap pat_items (sym (rolls-Tuple left parts right)) ∙ fold-roll-Pat (List Item) pat_layer (Pat-F.Tuple left parts right)
    ∙ ap (λ l. left ∷ (l ++ right ∷ [])) (flat_map-map (listed_items done) (λ (l : Listed Pat). record { part = pat_items l.part; separator = l.separator }) parts)

pub pat_list : (left : Item) (parts : List (Listed Pat)) (right : Item) → pat_items (ListOf left parts right) ≡ left ∷ (flat_map (listed_items pat_items) parts ++ right ∷ [])
pat_list left parts right =
    ap pat_items (sym (rolls-List left parts right)) ∙ fold-roll-Pat (List Item) pat_layer (Pat-F.List left parts right)
    ∙ ap (λ l. left ∷ (l ++ right ∷ [])) (flat_map-map (listed_items done) (λ (l : Listed Pat). record { part = pat_items l.part; separator = l.separator }) parts)

pub pat_group : (left : Item) (part : Pat) (right : Item) → pat_items (Group left part right) ≡ left ∷ (pat_items part ++ right ∷ [])
pat_group left part right =
    ap pat_items (sym (rolls-Group left part right)) ∙ fold-roll-Pat (List Item) pat_layer (Pat-F.Group left part right)

pub pat_fields : (constructor : Constructor) (left : Item) (fields : List (Listed (Field Pat))) (right : Item) → pat_items (Fields constructor left fields right) ≡ constructor_items constructor ++ left ∷ (flat_map (listed_items (field_items pat_items)) fields ++ right ∷ [])
pat_fields constructor left fields right =
    ap pat_items (sym (rolls-Fields constructor left fields right)) ∙ fold-roll-Pat (List Item) pat_layer (Pat-F.Fields constructor left fields right)
    ∙ ap (λ l. constructor_items constructor ++ left ∷ (l ++ right ∷ [])) (flat_map-map (listed_items (field_items done)) (λ (l : Listed (Field Pat)). record { part = record { name = l.part.name; equals = l.part.equals; part = pat_items l.part.part }; separator = l.separator }) fields)

pub ruleset pat_yields = (fold-append, pat_as, pat_lazy, pat_apply, pat_infix, pat_tuple, pat_list, pat_group, pat_fields)
