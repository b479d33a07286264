use Rattle.std.proofs.Common.{◌≡◌, ◌∙◌, sym, true}
use Rattle.hr_tree_items.specs.Same.{same_items}
use Rattle.hr_tree_items.proofs.Same.{all_is}
use Rattle.hr_tree_items.proofs.comparing.are_same.Goals as goal

pub returns-then-are_same_items : goal.returns-then-are_same_items
returns-then-are_same_items c =
    let found = sym c.are_same_items.ensures ∙ c.if-are_same_items.true in
    let same : same_items c.args.left.now.list c.args.right.now.list ≡ true = rw (c.as_slice.ensures, c.as_slice-2.ensures) at found in
    λ tail. all_is c.args.left.now c.args.right.now same (sym c.eq.ensures ∙ tail)
