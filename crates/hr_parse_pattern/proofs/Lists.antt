-- How trees are read in lists, and then something else.
use Rattle.std.proofs.Common.{◌≡◌, ℕ, ◌+◌, ◌<◌, ◌≤◌, max, List, [], ◌∷◌, ◌++◌, Some, None, length, refl, sym, ap, ◌∙◌, subst, arith}
use Rattle.hr_base.specs.declared.lexeme.Item.{Item}
use Rattle.hr_rules.specs.declared.block.Placed.{Placed}
use Rattle.hr_rules.specs.Blocks.{enclosing}
use Rattle.hr_layout.specs.Standing.{Standing}
use Rattle.hr_tree.specs.declared.lists.Listed.{Listed}
use Rattle.hr_tree.specs.declared.lists.Operand.{Operand}
use Rattle.hr_tree.specs.declared.names.Operator.{Operator}
use Rattle.hr_tree.specs.declared.patterns.Pat.{Pat}
use Rattle.hr_tree.specs.Names.{operator_items}
use Rattle.hr_grammar.specs.Words.{IsComma}
use Rattle.hr_grammar.specs.Spelled.{IsConstructorOperator}
use Rattle.hr_grammar.specs.Nodes.{PatPlace}
use Rattle.hr_grammar_cases.specs.Readings.{Reading, ◌▷◌, in_turn}
use Rattle.hr_grammar_cases.specs.Modules.{derivations}
use Rattle.hr_parse_lexeme.specs.Reads.{Phrase, Trees, Consumes, Takes, Spells, ReadsEach, ReadsParts}
use Rattle.hr_parse_lexeme.proofs.Phrases.{last, then, item, last_item, last_name, where_given, none_between, each_none, each_more}
use Rattle.hr_parse_pattern.specs.declared.many.Many.{Many}
use Rattle.hr_parse_pattern.specs.declared.many.Parts.{Parts}
use Rattle.hr_parse_pattern.specs.declared.part.Operands.{Operands}
use Rattle.hr_parse_pattern.specs.declared.part.Part.{Part}
use Rattle.hr_parse_pattern.specs.Lists.{more_trees, more_parts, more_operands}
use Rattle.hr_parse_pattern.specs.Patterns.{ReadsPat, ReadsArguments, ReadsThen, ReadsPatterns, ReadsOperands, with_comma, with_operator}

pub left_of_max : (a b : ℕ) → a ≤ max a b
left_of_max a b = omega arith

le_self : (a : ℕ) → a ≤ a
le_self a = omega arith

pub right_of_max : (a b : ℕ) → b ≤ max a b
right_of_max a b = omega arith

-- behind an empty list
pub none_before : {T : Type 0} {of : Trees T} {h k : ℕ} {r : Phrase} {a b c : Standing} → ReadsEach h of [] a b → Consumes k r b c → Consumes k r a c
none_before {h = h} {r = r} {a} {b} {c} p q = record {
  read = λ levels le.
      subst (λ l. r (derivations levels) (enclosing a.blocks) l c.rest) (p.reads.read h (omega arith))
      (subst (λ blocks. r (derivations levels) (enclosing blocks) b.rest c.rest) p.reads.blocks (q.read levels le));
  blocks = q.blocks ∙ p.reads.blocks;
}

-- arguments: none yet, and one more
pub no_arguments : {many : Many Pat} (a : Standing) → many ≡ record { list = []; height = 0 } → ReadsArguments many a a
no_arguments a e = subst (λ m. ReadsArguments m a a) (sym e) (each_none _ a)

pub one_argument : {many more : Many Pat} {part : Part Pat} {a b c : Standing} → ReadsArguments many a b → ReadsPat PatPlace.Atomic part b c → more ≡ more_trees many part → ReadsArguments more a c
one_argument {many} {part = part} {a} {c = c} p q e =
    subst (λ m. ReadsArguments m a c) (sym e) (each_more (max many.height part.height) p (left_of_max many.height part.height) q (right_of_max many.height part.height))

-- no patterns before one
pub only_pattern : {parts : Parts Pat} {part : Part Pat} {a b : Standing} → parts ≡ record { list = []; height = 0 } → ReadsPat PatPlace.Whole part a b → ReadsPatterns parts part a b
only_pattern {part = part} {a} {b} e p = subst (λ l. ReadsPatterns l part a b) (sym e) (record { middle = a; others = each_none _ a; last = p })

-- a comma and another one
pub next_pattern : {parts more : Parts Pat} {part next : Part Pat} {comma : Item} {a b c d : Standing} → ReadsPatterns parts part a b → Takes IsComma comma b c
    → more ≡ more_parts parts part (Some comma) → ReadsPat PatPlace.Whole next c d → ReadsPatterns more next a d
next_pattern {parts} {part = part} {next} {comma} {a} {c = c} {d} p q e r =
    subst (λ l. ReadsPatterns l next a d) (sym e) (record {
      middle = c;
      others = each_more (max parts.height part.height) p.others (left_of_max parts.height part.height)
          (then p.last (le_self part.height) (last_item q)) (right_of_max parts.height part.height);
      last = r;
    })

-- no operands before one
pub only_operand : {operands : Operands Pat} {part : Part Pat} {a b : Standing} → operands ≡ record { list = []; height = 0 } → ReadsPat PatPlace.Operand part a b
    → ReadsOperands operands part a b
only_operand {part = part} {a} {b} e p = subst (λ l. ReadsOperands l part a b) (sym e) (record { middle = a; others = each_none _ a; last = p })

-- an operator and another one
pub next_operand : {operands more : Operands Pat} {part next : Part Pat} {operator : Operator} {a b c d : Standing} → ReadsOperands operands part a b
    → Spells IsConstructorOperator operator_items operator b c → more ≡ more_operands operands None part (Some operator) → ReadsPat PatPlace.Operand next c d → ReadsOperands more next a d
next_operand {operands} {part = part} {next} {operator} {a} {c = c} {d} p q e r =
    subst (λ l. ReadsOperands l next a d) (sym e) (record {
      middle = c;
      others = each_more (max operands.height part.height) p.others (left_of_max operands.height part.height)
          (where_given _ refl (then p.last (le_self part.height) (last_name q))) (right_of_max operands.height part.height);
      last = r;
    })

pub patterns_stay : {parts : Parts Pat} {part : Part Pat} {a b c : Standing} → c ≡ b → ReadsPatterns parts part a b → ReadsPatterns parts part a c
patterns_stay {parts} {part} {a} e p = subst (λ s. ReadsPatterns parts part a s) (sym e) p
