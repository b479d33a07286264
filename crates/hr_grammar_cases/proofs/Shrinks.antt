-- What is read of a tree is a lexeme or more, and a block leaves no more than there were.
use Rattle.std.proofs.Common.{◌≡◌, ◌+◌, ◌<◌, ◌≤◌, ℕ, suc, Bool, List, [], ◌∷◌, ◌++◌, length, refl, sym, ap, ◌∙◌, subst, arith}
use Rattle.hr_base.specs.declared.lexeme.Item.{Item}
use Rattle.hr_rules.specs.declared.role.Role.{Role}
use Rattle.hr_rules.specs.declared.block.Placed.{Placed}
use Rattle.hr_rules.specs.declared.block.BlockKind.{BlockKind}
use Rattle.hr_tree.specs.Yields.{ty_items, pat_items, exp_items, decl_items, alt_items}
use Rattle.hr_grammar.specs.Firsts.{FirstHas, begins_type, begins_pattern, BeginsExpression, kind_at, opens_part}
use Rattle.hr_grammar.proofs.Firsts.{types_begin_lem, patterns_begin_lem, expressions_begin_lem}
use Rattle.hr_grammar.proofs.PartFirsts.{declarations_begin_lem, alternatives_begin_lem}
use Rattle.hr_grammar_cases.specs.Readings.{Reading}
use Rattle.hr_grammar_cases.specs.Laws.{items_left, Gives, ReadingsShrink}
use Rattle.hr_grammar_cases.proofs.Modules.{levels_give_lem}
use Rattle.hr_grammar_cases.proofs.GrammaticalModules.{levels_are_lem}

left_length : (ts : List Placed) → length (items_left ts) ≡ length ts
left_length [] = refl
left_length (next ∷ ts) = ap suc (left_length ts)

suc_both : (a b c : ℕ) → a ≡ b + c → suc a ≡ suc b + c
suc_both a b c e = omega arith

both_length : (items others : List Item) → length (items ++ others) ≡ length items + length others
both_length [] others = omega arith
both_length (item ∷ items) others = suc_both (length (items ++ others)) (length items) (length others) (both_length items others)

more : (a b : ℕ) → b < suc (a + b)
more a b = omega arith

no_less : (a b : ℕ) → b ≤ a + b
no_less a b = omega arith

one_or_more : (item : Item) (items : List Item) (ts us : List Placed) → items_left ts ≡ (item ∷ items) ++ items_left us → length us < length ts
one_or_more item items ts us h =
    let e : length ts ≡ suc (length items + length us) =
    sym (left_length ts) ∙ ap length h ∙ ap suc (both_length items (items_left us) ∙ ap (λ k. length items + k) (left_length us)) in
    subst (λ k. length us < k) (sym e) (more (length items) (length us))

begun : (test : Role → Bool) (items : List Item) (ts us : List Placed) → FirstHas test items → items_left ts ≡ items ++ items_left us → length us < length ts
begun test [] ts us b h = elim b [ ]
begun test (item ∷ items) ts us b h = one_or_more item items ts us h

expression_begun : (items : List Item) (ts us : List Placed) → BeginsExpression items → items_left ts ≡ items ++ items_left us → length us < length ts
expression_begun [] ts us b h = elim b [ ]
expression_begun (item ∷ items) ts us b h = one_or_more item items ts us h

-- what takes its items leaves no more than there were
pub not_longer : {items : List Item} {reading : Reading} → Gives items reading → (ts us : List Placed) → reading ts us → length us ≤ length ts
not_longer {items} g ts us r =
    let e : length ts ≡ length items + length us =
    sym (left_length ts) ∙ ap length (g.gives ts us r) ∙ both_length items (items_left us) ∙ ap (λ k. length items + k) (left_length us) in
    subst (λ k. length us ≤ k) (sym e) (no_less (length items) (length us))

pub readings_shrink_lem : ReadingsShrink
readings_shrink_lem = record {
  types = λ levels n place ty ts us r.
      begun begins_type (ty_items ty) ts us (types_begin_lem levels place ty ((levels_are_lem levels).ty n place ty ts us r)) (((levels_give_lem levels).ty n place ty).gives ts us r);
  patterns = λ levels n place pat ts us r.
      begun begins_pattern (pat_items pat) ts us (patterns_begin_lem levels place pat ((levels_are_lem levels).pat n place pat ts us r)) (((levels_give_lem levels).pat n place pat).gives ts us r);
  expressions = λ levels n free place exp ending ts us r.
      expression_begun (exp_items exp) ts us (expressions_begin_lem levels free place exp ((levels_are_lem levels).exp n free place exp ending ts us r))
      (((levels_give_lem levels).exp n free place exp ending).gives ts us r);
  declarations = λ levels n place decl ending ts us r.
      begun (opens_part (kind_at place)) (decl_items decl) ts us (declarations_begin_lem levels place decl ((levels_are_lem levels).decl n place decl ending ts us r))
      (((levels_give_lem levels).decl n place decl ending).gives ts us r);
  alternatives = λ levels n alt ending ts us r.
      begun (opens_part BlockKind.Alternatives) (alt_items alt) ts us (alternatives_begin_lem levels alt ((levels_are_lem levels).alt n alt ending ts us r))
      (((levels_give_lem levels).alt n alt ending).gives ts us r);
  declaration_blocks = λ levels m place block ts us r. not_longer ((levels_give_lem levels).declarations m place block) ts us r;
  alternative_blocks = λ levels m block ts us r. not_longer ((levels_give_lem levels).alternatives m block) ts us r;
}
