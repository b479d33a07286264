-- Each turn closes the last node of the path, which is the one at that place.
use Rattle.std.proofs.Common.{◌≡◌, ◌<◌, length, arith, refl, sym, ap, ◌∙◌, get_or}
use Rattle.std.proofs.lemmas.List.{take_all, length-set, length_push}
use Rattle.hr_graph.specs.declared.strong.Mark.TheVariants.{Labelled}
use Rattle.hr_graph.specs.Strong.{mark_of}
use Rattle.hr_graph.proofs.ShutSteps.{seen_within, none_labelled, node_at, front_rest, labelled_one, labelled_all, front_all}
use Rattle.hr_graph.proofs.strong.shut.Goals as goal

pub loop-path-init : goal.loop-path-init
loop-path-init c = record {
  front = sym (take_all (length c.args.path.now.items) c.args.path.now.items (omega arith));
  kept = λ _. refl;
  marks = λ v. none_labelled c.args.marks.now.items c.args.path.now.items c.args.label (length c.args.path.now.items) v c.requires (omega arith);
  long = refl;
}

pub index_mut-requires : goal.index_mut-requires
index_mut-requires c =
    let k = length c.pop.new.self.items in
    let at : (k < length c.args.path.now.items) × (get_or c.args.path.now.items k 0 ≡ c.in-Some.node)
    = node_at c.loop-path.path.items c.args.path.now.items c.pop.new.self.items c.in-Some.node c.loop-path.invariant.front c.in-Some.ensures.items in
    let within : c.in-Some.node < length c.args.marks.now.items
    = seen_within c.args.marks.now.items c.in-Some.node k (ap (mark_of c.args.marks.now.items) (sym at.1) ∙ c.requires.mark k at.0) in
    omega arith

pub loop-path-preserved-in-Some : goal.loop-path-preserved-in-Some
loop-path-preserved-in-Some c = record {
  front = front_rest c.loop-path.path.items c.args.path.now.items c.pop.new.self.items c.in-Some.node c.loop-path.invariant.front c.in-Some.ensures.items;
  kept = λ lt. absurd (omega (arith, ap length c.in-Some.ensures.items, length_push c.pop.new.self.items c.in-Some.node));
  marks = labelled_one c.args.marks.now.items c.loop-path.marks.items c.loop-path.path.items c.args.path.now.items c.pop.new.self.items c.in-Some.node c.args.label c.requires
      c.loop-path.invariant.front c.in-Some.ensures.items c.loop-path.invariant.long c.loop-path.invariant.marks;
  long = length-set c.loop-path.marks.items c.in-Some.node (Labelled c.args.label) ∙ c.loop-path.invariant.long;
}

pub returns-clause-marks : goal.returns-clause-marks
returns-clause-marks c = labelled_all c.args.marks.now.items c.loop-path.marks.items c.loop-path.path.items c.args.path.now.items c.args.start c.args.label c.requires
    (omega arith) c.loop-path.invariant.kept c.loop-path.invariant.marks

pub returns-clause-path : goal.returns-clause-path
returns-clause-path c = front_all c.loop-path.path.items c.args.path.now.items c.args.start (omega arith) c.loop-path.invariant.kept c.loop-path.invariant.front
