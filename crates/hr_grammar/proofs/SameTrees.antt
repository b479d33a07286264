-- The `;` of blocks in braces, in trees that are equal up to trivia.
use Rattle.std.proofs.Common.{◌≡◌, ℕ, length, refl, ap, arith}
use Rattle.hr_tree.specs.declared.lists.Block.{Block}
use Rattle.hr_tree.specs.declared.expressions.Decl.{Decl}
use Rattle.hr_grammar.specs.SameTrees.{SemicolonsInBraces}

pub semicolons_in_braces_lem : SemicolonsInBraces
semicolons_in_braces_lem = record {
  more = λ left right semicolon other first second. refl;
  none = λ left right semicolon first second e. let pieces : ◌≡◌ {A = ℕ} 2 3 = ap (λ (b : Block Decl). length b.pieces) e in let no : ⊥ = omega (arith, pieces) in no;
}
