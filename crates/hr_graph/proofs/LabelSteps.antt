-- The search for strong components from its start to its end.
use Rattle.std.proofs.Common.{◌≡◌, ◌+◌, ◌<◌, ◌≤◌, ◌++◌, ◌∷◌, ℕ, [], List, length, map, get_or, set, replicate, arith, sym, ◌∙◌, ap, subst, refl, inl, inr}
use Rattle.std.specs.Prelude.{Contains}
use Rattle.std.proofs.lemmas.Bool.{cases_lt}
use Rattle.std.proofs.lemmas.List.{length_push, length-set, length-map, length-replicate, get_or-replicate, get_or_past, get_or-map}
use Rattle.hr_graph.specs.declared.strong.Mark.{Mark}
use Rattle.hr_graph.specs.declared.strong.Mark.TheVariants.{Unseen, Open, Labelled}
use Rattle.hr_graph.specs.Graph.{IsWithin, LeadsTo, here, along}
use Rattle.hr_graph.specs.Rows.{AreRows}
use Rattle.hr_graph.specs.Strong.{WayAlong, stay, go, mark_of, IsSearch, IsSearchBut, IsNotLater, IsSound, HasTargets, waiting, weigh, ones, IsSeen, label_in, AreLabels, IsFresh}
use Rattle.hr_graph.proofs.Members.{contains_none}
use Rattle.hr_graph.proofs.StrongSteps.{entered}
use Rattle.hr_graph.proofs.FollowSteps.{sound_same, weigh_entered}

weigh_ones : (rows : List (List ℕ)) (marks : List Mark) → weigh (ones rows) marks ≤ length rows
weigh_ones [] marks = omega arith
weigh_ones (row ∷ rows) [] = omega arith
weigh_ones (row ∷ rows) (Unseen ∷ marks) = omega (arith, weigh_ones rows marks)
weigh_ones (row ∷ rows) (Open p ∷ marks) = omega (arith, weigh_ones rows marks)
weigh_ones (row ∷ rows) (Labelled label ∷ marks) = omega (arith, weigh_ones rows marks)

all_unseen : (n v : ℕ) → mark_of (replicate n Unseen) v ≡ Unseen
all_unseen n v = elim (cases_lt v n) [
  | inl lt ↦ get_or-replicate n v Unseen Unseen lt
  | inr ge ↦ get_or_past (replicate n Unseen) v Unseen (omega (arith, length-replicate n Unseen, ge))
]

not_open : (n v p : ℕ) → mark_of (replicate n Unseen) v ≡ Open p → ⊥
not_open n v p is = let clash : Unseen ≡ Open p = sym (all_unseen n v) ∙ is in cc

not_labelled : (n v label : ℕ) → mark_of (replicate n Unseen) v ≡ Labelled label → ⊥
not_labelled n v label is = let clash : Unseen ≡ Labelled label = sym (all_unseen n v) ∙ is in cc

start_search : (rows : List (List ℕ)) (n : ℕ) → IsSearch rows (replicate n Unseen) [] [] [] 0
start_search rows n = record {
  on_path = record { place = λ v p is. absurd (not_open n v p is); mark = λ p lt. absurd (omega (arith, lt)) };
  begins = record { below = λ s h. absurd (contains_none s h); rise = λ i j d lt within. absurd (omega (arith, within)); cover = λ p lt. absurd (omega (arith, lt)) };
  way = λ p q lt. absurd (omega (arith, lt));
  waits = record { edge = λ p v h. absurd (contains_none (p, v) h); rise = λ i j d lt within. absurd (omega (arith, within)) };
  edge = λ p v lt. absurd (omega (arith, lt));
  shut = record {
    edge = λ u v label is. absurd (not_labelled n u label is);
    way = λ u v label is. absurd (not_labelled n u label is);
    below = λ u label is. absurd (not_labelled n u label is);
  };
}

pub fresh_sound : (rows : List (List ℕ)) (n : ℕ) (marks : List Mark) (path starts : List ℕ) (pending : List (ℕ × ℕ)) (labelled : ℕ)
    → length rows ≡ n → IsFresh n marks path starts pending labelled → IsSound rows marks path starts pending labelled
fresh_sound rows n marks path starts pending labelled long f =
    sound_same (replicate n Unseen) marks [] path [] starts [] pending 0 labelled f.marks_are f.path_is f.starts_are f.pending_is f.labelled_is
    (record { search = start_search rows n; long = length-replicate n Unseen ∙ sym long; room = omega (arith, weigh_ones rows (replicate n Unseen)) })

-- with no group there is no open node
no_place : (rows : List (List ℕ)) (marks : List Mark) (path starts : List ℕ) (pending : List (ℕ × ℕ)) (labelled p : ℕ) → IsSound rows marks path starts pending labelled → starts ≡ [] → p < length path → ⊥
no_place rows marks path starts pending labelled p sound empty within =
    let start : (s : ℕ) × Contains starts s × (s ≤ p) = sound.search.begins.cover p within in
    contains_none start.0 (subst (λ xs. Contains xs start.0) empty start.1)

pub enter_root : (rows : List (List ℕ)) (marks : List Mark) (path starts : List ℕ) (pending : List (ℕ × ℕ)) (labelled v : ℕ)
    → IsSound rows marks path starts pending labelled → starts ≡ [] → v < length rows → mark_of marks v ≡ Unseen
    → IsSound rows (set marks v (Open (length path))) (path ++ v ∷ []) (starts ++ length path ∷ []) (pending ++ waiting (length path) (get_or rows v [])) labelled
enter_root rows marks path starts pending labelled v sound empty within is =
    let in' : v < length marks = omega (arith, sound.long) in
    let weight : get_or (ones rows) v 0 + weigh (ones rows) (set marks v (Open (length path))) ≡ weigh (ones rows) marks
    = weigh_entered (ones rows) marks v (length path) in' is in
    let one : get_or (ones rows) v 0 ≡ 1 = get_or-map (λ row. 1) rows v [] 0 within in
    let but : IsSearchBut v rows marks path starts pending labelled = record {
      on_path = sound.search.on_path;
      begins = sound.search.begins;
      way = sound.search.way;
      waits = sound.search.waits;
      edge = λ p w lt target. absurd (no_place rows marks path starts pending labelled p sound empty lt);
      shut = sound.search.shut;
    } in
    record {
      search = entered rows marks path starts pending labelled v but in' is (λ q lt. absurd (no_place rows marks path starts pending labelled q sound empty lt));
      long = length-set marks v (Open (length path)) ∙ sound.long;
      room = omega (arith, sound.room, length_push starts (length path));
    }

pub targets_within : (n : ℕ) (edges : List (ℕ × ℕ)) (rows : List (List ℕ)) → AreRows n edges rows → IsWithin n edges → HasTargets rows
targets_within n edges rows are ends u v h =
    let edge : (k : ℕ) × (k < length edges) × (get_or edges k (u, v) ≡ (u, v)) = are.sound u v h in
    let below : (get_or edges edge.0 (u, v)).1 < n = (ends edge.0 (u, v) edge.1).1 in
    omega (arith, ap (λ e. e.1) edge.2, are.length_is)

-- a way along the rows is a way along the edges
pub reaches_by : (n : ℕ) (edges : List (ℕ × ℕ)) (rows : List (List ℕ)) (u w : ℕ) → AreRows n edges rows → WayAlong rows u w → LeadsTo edges u w
reaches_by n edges rows u w are (stay _) = here u
reaches_by n edges rows u w are (go _ v _ target rest) = along u v w (are.sound u v target) (reaches_by n edges rows v w are rest)

labelled_mark : (m : Mark) → IsSeen m → ((p : ℕ) → m ≡ Open p → ⊥) → (label : ℕ) × (m ≡ Labelled label)
labelled_mark Unseen seen none = absurd seen
labelled_mark (Open p) seen none = absurd (none p refl)
labelled_mark (Labelled label) seen none = (label, refl)

pub labels_done : (n : ℕ) (edges : List (ℕ × ℕ)) (rows : List (List ℕ)) (marks : List Mark) (path starts : List ℕ) (pending : List (ℕ × ℕ)) (labelled : ℕ)
    → AreRows n edges rows → IsWithin n edges → IsSound rows marks path starts pending labelled → starts ≡ [] → ((v : ℕ) → v < n → IsSeen (mark_of marks v))
    → AreLabels n edges (map label_in marks)
labels_done n edges rows marks path starts pending labelled are ends sound empty seen =
    let long : length marks ≡ n = sound.long ∙ are.length_is in
    let known : (v : ℕ) → v < n → (label : ℕ) × (mark_of marks v ≡ Labelled label)
    = λ v lt. labelled_mark (mark_of marks v) (seen v lt) (λ p is. no_place rows marks path starts pending labelled p sound empty (sound.search.on_path.place v p is).0) in
    let label_is : (v : ℕ) (lt : v < n) → get_or (map label_in marks) v 0 ≡ (known v lt).0
    = λ v lt. get_or-map label_in marks v Unseen 0 (omega arith) ∙ ap label_in (known v lt).1 in
    let both : (u v : ℕ) → Contains edges (u, v) → (u < n) × (v < n)
    = λ u v h.
    let end : ((get_or edges h.0 (u, v)).0 < n) × ((get_or edges h.0 (u, v)).1 < n) = ends h.0 (u, v) h.1 in
    (omega (arith, ap (λ e. e.0) h.2, end.0), omega (arith, ap (λ e. e.1) h.2, end.1)) in
    record {
      long = length-map marks label_in ∙ long;
      small = λ u lt. let below : (known u lt).0 < labelled = sound.search.shut.below u (known u lt).0 (known u lt).1 in omega (arith, label_is u lt, sound.room, are.length_is);
      falls = λ u v edge.
          let lu : u < n = (both u v edge).0 in
          let lv : v < n = (both u v edge).1 in
          let later : IsNotLater (known u lu).0 (mark_of marks v) = sound.search.shut.edge u v (known u lu).0 (known u lu).1 (are.complete u v edge) in
          let le : (known v lv).0 ≤ (known u lu).0 = subst (λ m. IsNotLater (known u lu).0 m) (known v lv).1 later in
          omega (arith, label_is u lu, label_is v lv);
      way = λ u v lu lv same.
          let e : (known v lv).0 ≡ (known u lu).0 = sym (label_is v lv) ∙ sym same ∙ label_is u lu in
          reaches_by n edges rows u v are (sound.search.shut.way u v (known u lu).0 (known u lu).1 ((known v lv).1 ∙ ap Labelled e));
    }
