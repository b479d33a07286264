-- A pattern that is read takes its own items.
use Rattle.std.proofs.Common.{◌≡◌, ◌≢◌, ℕ, zero, suc, true, List, [], ◌∷◌, ◌++◌, length, None, sym, ap, ◌∙◌}
use Rattle.std.specs.List.{flat_map}
use lib.Chars.{codes}
use Rattle.hr_base.specs.declared.lexeme.Item.{Item}
use Rattle.hr_tree.specs.declared.lists.Operand.{Operand}
use Rattle.hr_tree.specs.declared.patterns.Pat.{Pat, out-Pat, roll-Pat}
use Rattle.hr_tree.specs.declared.patterns.Pat.TheOpen.{Pat-F}
use Rattle.hr_tree.specs.declared.patterns.Pat.TheFolds.{fold-roll-Pat}
use Rattle.hr_tree.specs.declared.patterns.Pat.TheViews.{roll-out-Pat, rolls-Apply, rolls-Infix, rolls-Tuple, rolls-List}
use Rattle.hr_tree.specs.Names.{maybe_item, maybe_operator, variable_items, constructor_items}
use Rattle.hr_tree.specs.Lists.{operand_items}
use Rattle.hr_tree.specs.Yields.{pat_layer, pat_items}
use Rattle.hr_tree.proofs.PatternYields.{pat_apply, pat_infix, pat_tuple, pat_list}
use Rattle.hr_grammar.specs.Words.{IsWord, IsReserved, IsLiteral, IsMinus, IsInteger, IsLeftParen, IsRightParen, IsLeftSquare, IsRightSquare, IsComma}
use Rattle.hr_grammar.specs.Spelled.{IsVariable, IsConstructor, IsConstructorOperator, AreParts}
use Rattle.hr_grammar.specs.Nodes.{PatPlace}
use Rattle.hr_grammar.specs.Patterns.{takes_operand, takes_infix, HasTwo}
use Rattle.hr_grammar_cases.specs.Derivations.{Derivations}
use Rattle.hr_grammar_cases.specs.Patterns.{pat_operands, pat_reading}
use Rattle.hr_grammar_cases.specs.Modules.{derivations}
use Rattle.hr_grammar_cases.specs.Laws.{PatternsGive}
use Rattle.hr_grammar_cases.proofs.Taken.{Takes, taken_gives, same_takes, never_takes, then_takes, given_takes, taken_same, one_takes, spelled_takes, in_turn_takes, separated_takes, operand_takes, last_operand, operator_there_takes}

pub no_minus : (items : List Item) (o : Operand Pat) → o.minus ≡ None → items ≡ maybe_item o.minus ++ items
no_minus items o e = sym (ap (λ m. maybe_item m ++ items) e)

operands_take : (below : Derivations) → ((n : ℕ) (place : PatPlace) (pat : Pat) → Takes n (pat_items pat) (below.pat n place pat))
    → (n : ℕ) (operands : List (Operand Pat)) → Takes n (flat_map (operand_items pat_items) operands) (pat_operands below n operands)
operands_take below each n [] = never_takes
operands_take below each n (operand ∷ []) =
    taken_same ((operand.minus ≡ None) × (operand.operator ≡ None))
    (λ e. last_operand pat_items operand e.1 ∙ ap (λ l. l ++ []) (no_minus (pat_items operand.part ++ maybe_operator operand.operator) operand e.0)) (each n PatPlace.Operand operand.part)
operands_take below each n (operand ∷ (next ∷ rest)) =
    taken_same (operand.minus ≡ None)
    (λ e. ap (λ l. l ++ flat_map (operand_items pat_items) (next ∷ rest)) (no_minus (pat_items operand.part ++ maybe_operator operand.operator) operand e))
    (operand_takes pat_items operand (each n PatPlace.Operand operand.part) (operator_there_takes n IsConstructorOperator operand.operator) (operands_take below each n (next ∷ rest)))

-- one level, where patterns on the level below take theirs
pub pat_takes : (below : Derivations) → ((n : ℕ) (place : PatPlace) (pat : Pat) → Takes n (pat_items pat) (below.pat n place pat))
    → (n : ℕ) (place : PatPlace) (layer : Pat-F Pat) → Takes n (pat_items (roll-Pat layer)) (pat_reading below n place layer)
pat_takes below each n place (Pat-F.Variable bound) =
    same_takes (sym (fold-roll-Pat (List Item) pat_layer (Pat-F.Variable bound))) (spelled_takes n IsVariable variable_items bound)
pat_takes below each n place (Pat-F.Wildcard word) =
    same_takes (sym (fold-roll-Pat (List Item) pat_layer (Pat-F.Wildcard word))) (one_takes n (IsWord (codes "_")) word)
pat_takes below each n place (Pat-F.Literal literal) =
    same_takes (sym (fold-roll-Pat (List Item) pat_layer (Pat-F.Literal literal))) (one_takes n IsLiteral literal)
pat_takes below each n place (Pat-F.Negative minus number) =
    same_takes (sym (fold-roll-Pat (List Item) pat_layer (Pat-F.Negative minus number)))
    (given_takes (takes_operand place ≡ true) (then_takes (one_takes n IsMinus minus) (one_takes n IsInteger number)))
pat_takes below each n place (Pat-F.Constructor named) =
    same_takes (sym (fold-roll-Pat (List Item) pat_layer (Pat-F.Constructor named))) (spelled_takes n IsConstructor constructor_items named)
pat_takes below each n place (Pat-F.As bound mark part) =
    same_takes (sym (fold-roll-Pat (List Item) pat_layer (Pat-F.As bound mark part)))
    (then_takes (spelled_takes n IsVariable variable_items bound) (then_takes (one_takes n (IsReserved (codes "@")) mark) (each n PatPlace.Atomic part)))
pat_takes below each n place (Pat-F.Lazy mark part) =
    same_takes (sym (fold-roll-Pat (List Item) pat_layer (Pat-F.Lazy mark part))) (then_takes (one_takes n (IsReserved (codes "~")) mark) (each n PatPlace.Atomic part))
pat_takes below each n place (Pat-F.Apply named arguments) =
    same_takes (sym (ap pat_items (rolls-Apply named arguments) ∙ pat_apply named arguments))
    (given_takes ((takes_operand place ≡ true) × (arguments ≢ []))
    (then_takes (spelled_takes n IsConstructor constructor_items named) (in_turn_takes pat_items _ (each n PatPlace.Atomic) arguments)))
pat_takes below each n place (Pat-F.Infix operands) =
    same_takes (sym (ap pat_items (rolls-Infix operands) ∙ pat_infix operands)) (given_takes ((takes_infix place ≡ true) × HasTwo operands) (operands_take below each n operands))
pat_takes below each n place (Pat-F.Tuple left parts right) =
    same_takes (sym (ap pat_items (rolls-Tuple left parts right) ∙ pat_tuple left parts right))
    (given_takes (AreParts (length parts))
    (then_takes (one_takes n IsLeftParen left) (then_takes (separated_takes n IsComma pat_items _ (each n PatPlace.Whole) parts) (one_takes n IsRightParen right))))
pat_takes below each n place (Pat-F.List left parts right) =
    same_takes (sym (ap pat_items (rolls-List left parts right) ∙ pat_list left parts right))
    (given_takes (parts ≢ [])
    (then_takes (one_takes n IsLeftSquare left) (then_takes (separated_takes n IsComma pat_items _ (each n PatPlace.Whole) parts) (one_takes n IsRightSquare right))))
pat_takes below each n place (Pat-F.Group left part right) =
    same_takes (sym (fold-roll-Pat (List Item) pat_layer (Pat-F.Group left part right)))
    (then_takes (one_takes n IsLeftParen left) (then_takes (each n PatPlace.Whole part) (one_takes n IsRightParen right)))
pat_takes below each n place (Pat-F.Fields named left fields right) = never_takes

pub patterns_take_lem : (levels n : ℕ) (place : PatPlace) (pat : Pat) → Takes n (pat_items pat) ((derivations levels).pat n place pat)
patterns_take_lem zero n place pat = never_takes
patterns_take_lem (suc levels) n place pat =
    same_takes (ap pat_items (roll-out-Pat pat)) (pat_takes (derivations levels) (patterns_take_lem levels) n place (out-Pat pat))

pub patterns_give_lem : PatternsGive
patterns_give_lem levels n place pat = taken_gives (patterns_take_lem levels n place pat)
