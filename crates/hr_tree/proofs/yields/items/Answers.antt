use Rattle.std.proofs.Common.{◌≡◌, List, [], ◌∷◌, ◌++◌, fold, refl, sym, ap, ap₂, ◌∙◌, append_assoc, append-nil}
use Rattle.hr_base.specs.declared.lexeme.Item.{Item}
use Rattle.hr_tree.specs.Yields.{module_items}
use Rattle.hr_tree.proofs.yields.items.Goals as goal

-- items that are put behind others one by one
put_behind : (before items : List Item) → fold (λ (copies : List Item) (item : Item). copies ++ item ∷ []) before items ≡ before ++ items
put_behind before [] = sym (append-nil before)
put_behind before (item ∷ items) = put_behind (before ++ item ∷ []) items ∙ append_assoc before (item ∷ []) items

pub returns : goal.returns
returns c =
    let walked = c.in_ok-walk_module.ensures ∙ put_behind c.new.result.items (module_items c.args.tree.now) ∙ ap (λ l. l ++ module_items c.args.tree.now) c.new.ensures.items in
    let list : c.copies.inside.list.items ≡ module_items c.args.tree.now = cc (walked, c.copies.view_is) in
    let tail : c.in_ok-tail_of.field-0 ≡ c.args.tree.now.tail = c.in_ok-tail_of.ensures in
    λ i. record { list = list i; tail = tail i }
