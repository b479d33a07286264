use Rattle.std.proofs.Common.{◌≡◌, drop}
use Rattle.std.specs.List.{list_all}
use Rattle.hr_plain.specs.Form as spec
use Rattle.hr_plain.proofs.trivia.are_plain.Given as goal

-- all items are plain where those that are left are
abbrev pub invariant-loop-item : goal.invariant-loop-item
invariant-loop-item l =
    list_all (λ item. spec.is_plain_trivia item.trivia) (drop l.item-index l.item-items) ≡ list_all (λ item. spec.is_plain_trivia item.trivia) l.item-items
