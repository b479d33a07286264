-- The places of the items that are left, behind those that are done, are those of all.
use Rattle.std.proofs.Common.{◌≡◌, ◌++◌}
use Rattle.hr_rules.specs.Blocks.{placed_from, placed_of}
use Rattle.hr_rules.specs.Positions.{origin}
use Rattle.hr_rules.specs.PositionLaws.{behind_items}
use Rattle.hr_layout.proofs.cursor.Cursor.new.Given as goal

abbrev pub invariant-loop-item : goal.invariant-loop-item
invariant-loop-item l = record {
  placed : l.placed.items ++ placed_from l.end l.is_first l.item-iterator.rest.items ≡ placed_of l.fn.list;
  end : behind_items l.end l.item-iterator.rest.items ≡ behind_items origin l.fn.list;
}
