-- The node's row is read and written back without what is done behind the target that it waits for.
use Rattle.std.proofs.Common.{◌≡◌, ◌<◌, ◌++◌, ◌∷◌, ℕ, List, [], length, get_or, set, false, ◌⊎◌, subst, sym, ap, ◌∙◌, refl, inr, arith}
use Rattle.std.specs.Prelude.{Contains}
use Rattle.std.specs.Vec.{vec_len}
use Rattle.hr_graph.specs.Ready.{IsDone}
use Rattle.std.proofs.lemmas.List.{get_or_read}
use Rattle.hr_graph.proofs.ready.Agenda.settle.Goals as goal

-- the row that was read
row_is : (rows : List (List ℕ)) (v : ℕ) (row : List ℕ) → v < length rows → row ≡ get_or rows v row → row ≡ get_or rows v []
row_is rows v row within read = get_or_read rows v row within read []

pub last_needed-requires : goal.last_needed-requires
last_needed-requires c = λ v h.
    let is = row_is c.args.self.now.left.items c.args.node c.index_mut.result.now (omega arith) c.index_mut.ensures.value in
    let bound = c.requires.targets v (subst (λ row. Contains row v) is h) in
    omega arith

pub index_mut-requires-in-Some : goal.index_mut-requires-in-Some
index_mut-requires-in-Some c =
    let is = row_is c.args.self.now.left.items c.args.node c.index_mut.result.now (omega arith) c.index_mut.ensures.value in
    (c.requires.targets c.in-Some.target (subst (λ row. Contains row c.in-Some.target) is (c.in-Some.ensures.kept c.in-Some.target c.in-Some.ensures.some.0))).1

pub returns-in_ok-append-in-Some-clause-settled : goal.returns-in_ok-append-in-Some-clause-settled
returns-in_ok-append-in-Some-clause-settled c =
    let is = row_is c.args.self.now.left.items c.args.node c.index_mut.result.now (omega arith) c.index_mut.ensures.value in
    let told = c.in-Some.ensures in
    let within : c.in-Some.target < vec_len c.args.self.now.waiting = (c.requires.targets c.in-Some.target (subst (λ row. Contains row c.in-Some.target) is (told.kept c.in-Some.target told.some.0))).1 in
    record {
      row = c.last_needed.new.row;
      left_is = refl;
      kept = λ v h. subst (λ row. Contains row v) is (told.kept v h);
      dropped = λ v h. subst (λ done. Contains c.last_needed.new.row v ⊎ IsDone done v) c.as_slice.ensures.value (told.dropped v (subst (λ row. Contains row v) (sym is) h));
      outcome = inr (record {
        target = c.in-Some.target;
        among = told.some.0;
        needed = subst (λ done. get_or done c.in-Some.target false ≡ false) c.as_slice.ensures.value told.some.1;
        waiting_is = ap (set c.args.self.now.waiting.items c.in-Some.target)
            (c.in_ok-append-in-Some.ensures ∙ ap (λ row. row ++ c.args.node ∷ []) (row_is c.args.self.now.waiting.items c.in-Some.target c.index_mut-in-Some.result.now (omega arith) c.index_mut-in-Some.ensures.value));
        ready_is = refl;
      });
    }
