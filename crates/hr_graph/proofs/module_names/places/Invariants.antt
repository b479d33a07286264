use Rattle.std.proofs.Common.{take}
use Rattle.hr_graph.specs.Modules.{ArePlaces, HasNoRepeat}
use Rattle.hr_graph.proofs.module_names.places.Given as goal

abbrev pub invariant-loop-place : goal.invariant-loop-place
invariant-loop-place l = record {
  places : ArePlaces (take l.place l.names) l.places;
  distinct : HasNoRepeat (take l.place l.names);
}
