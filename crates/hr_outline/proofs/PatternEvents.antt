-- What is read of the nodes of a pattern.
use Rattle.std.proofs.Common.{◌≡◌, List, [], ◌∷◌, ◌++◌, sym, ap, ◌∙◌}
use Rattle.std.specs.List.{flat_map}
use Rattle.std.proofs.lemmas.List.Folds.{flat_map-map}
use Rattle.std.proofs.lemmas.List.Sums.{fold-append}
use Rattle.hr_base.specs.declared.lexeme.Item.{Item}
use Rattle.hr_tree.specs.declared.lists.Listed.{Listed}
use Rattle.hr_tree.specs.declared.lists.Operand.{Operand}
use Rattle.hr_tree.specs.declared.lists.Field.{Field}
use Rattle.hr_tree.specs.declared.names.Variable.{Variable}
use Rattle.hr_tree.specs.declared.names.Constructor.{Constructor}
use Rattle.hr_tree.specs.declared.patterns.Pat.{Pat}
use Rattle.hr_tree.specs.declared.patterns.Pat.TheOpen.{Pat-F}
use Rattle.hr_tree.specs.declared.patterns.Pat.TheVariants.{As, Lazy, Apply, Infix, Tuple, List as ListOf, Group, Fields}
use Rattle.hr_tree.specs.declared.patterns.Pat.TheFolds.{fold-roll-Pat}
use Rattle.hr_tree.specs.declared.patterns.Pat.TheViews.{rolls-As, rolls-Lazy, rolls-Apply, rolls-Infix, rolls-Tuple, rolls-List, rolls-Group, rolls-Fields}
use Rattle.hr_scope_rules.specs.declared.naming.Naming.{Naming}
use Rattle.hr_scope_rules.specs.declared.joint.Joint.{Joint}
use Rattle.hr_scope_rules.specs.Events.{Event, plain}
use Rattle.hr_scope_rules.specs.Phrases.{variable_events, constructor_events, listed_events, operand_events, sequence_events, field_events, done, pat_layer, pat_events}

pub pat_as : (variable : Variable) (mark : Item) (part : Pat) → pat_events (As variable mark part) ≡ variable_events Naming.Bound variable ++ plain mark ∷ pat_events part
pat_as variable mark part =
    ap pat_events (sym (rolls-As variable mark part)) ∙ fold-roll-Pat (List Event) pat_layer (Pat-F.As variable mark part)

pub pat_lazy : (mark : Item) (part : Pat) → pat_events (Lazy mark part) ≡ plain mark ∷ pat_events part
pat_lazy mark part =
    ap pat_events (sym (rolls-Lazy mark part)) ∙ fold-roll-Pat (List Event) pat_layer (Pat-F.Lazy mark part)

pub pat_apply : (constructor : Constructor) (arguments : List Pat) → pat_events (Apply constructor arguments) ≡ constructor_events Naming.Used constructor ++ flat_map pat_events arguments
pat_apply constructor arguments =
    ap pat_events (sym (rolls-Apply constructor arguments)) ∙ fold-roll-Pat (List Event) pat_layer (Pat-F.Apply constructor arguments)
    ∙ ap (λ l. constructor_events Naming.Used constructor ++ l) (flat_map-map done pat_events arguments)

pub pat_infix : (operands : List (Operand Pat)) → pat_events (Infix operands) ≡ sequence_events Joint.Pattern pat_events operands
pat_infix operands =
    ap pat_events (sym (rolls-Infix operands)) ∙ fold-roll-Pat (List Event) pat_layer (Pat-F.Infix operands)
    ∙ ap (λ l. Event.Join Joint.Pattern ∷ (l ++ Event.Join Joint.End ∷ [])) (flat_map-map (operand_events done) (λ (o : Operand Pat). record { minus = o.minus; part = pat_events o.part; operator = o.operator }) operands)

pub pat_tuple : (left : Item) (parts : List (Listed Pat)) (right : Item) → pat_events (Tuple left parts right) ≡ plain left ∷ (flat_map (listed_events pat_events) parts ++ plain right ∷ [])
pat_tuple left parts right =
    ap pat_events (sym (rolls-Tuple left parts right)) ∙ fold-roll-Pat (List Event) pat_layer (Pat-F.Tuple left parts right)
    ∙ ap (λ l. plain left ∷ (l ++ plain right ∷ [])) (flat_map-map (listed_events done) (λ (l : Listed Pat). record { part = pat_events l.part; separator = l.separator }) parts)

pub pat_list : (left : Item) (parts : List (Listed Pat)) (right : Item) → pat_events (ListOf left parts right) ≡ plain left ∷ (flat_map (listed_events pat_events) parts ++ plain right ∷ [])
pat_list left parts right =
    ap pat_events (sym (rolls-List left parts right)) ∙ fold-roll-Pat (List Event) pat_layer (Pat-F.List left parts right)
    ∙ ap (λ l. plain left ∷ (l ++ plain right ∷ [])) (flat_map-map (listed_events done) (λ (l : Listed Pat). record { part = pat_events l.part; separator = l.separator }) parts)

pub pat_group : (left : Item) (part : Pat) (right : Item) → pat_events (Group left part right) ≡ plain left ∷ (pat_events part ++ plain right ∷ [])
pat_group left part right =
    ap pat_events (sym (rolls-Group left part right)) ∙ fold-roll-Pat (List Event) pat_layer (Pat-F.Group left part right)

pub pat_fields : (constructor : Constructor) (left : Item) (fields : List (Listed (Field Pat))) (right : Item) → pat_events (Fields constructor left fields right) ≡ constructor_events Naming.Used constructor ++ plain left ∷ (flat_map (listed_events (field_events pat_events)) fields ++ plain right ∷ [])
pat_fields constructor left fields right =
    ap pat_events (sym (rolls-Fields constructor left fields right)) ∙ fold-roll-Pat (List Event) pat_layer (Pat-F.Fields constructor left fields right)
    ∙ ap (λ l. constructor_events Naming.Used constructor ++ plain left ∷ (l ++ plain right ∷ [])) (flat_map-map (listed_events (field_events done)) (λ (l : Listed (Field Pat)). record { part = record { name = l.part.name; equals = l.part.equals; part = pat_events l.part.part }; separator = l.separator }) fields)

pub ruleset pat_read = (fold-append, pat_as, pat_lazy, pat_apply, pat_infix, pat_tuple, pat_list, pat_group, pat_fields)
