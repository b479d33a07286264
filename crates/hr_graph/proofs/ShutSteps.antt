-- The nodes of the last group are labelled one after another, from the end of the path.
use Rattle.std.proofs.Common.{◌≡◌, ◌+◌, ◌<◌, ◌≤◌, ◌++◌, ◌∷◌, ℕ, [], List, length, take, get_or, set, arith, sym, ◌∙◌, ap, refl, inl, inr}
use Rattle.std.proofs.lemmas.Bool.{cases_eq, cases_lt}
use Rattle.std.proofs.lemmas.List.{length_push, length-take, get_or_push, get_or-take, get_or_past, take-take, take_at, take_all}
use Rattle.hr_graph.specs.declared.strong.Mark.{Mark}
use Rattle.hr_graph.specs.declared.strong.Mark.TheVariants.{Unseen, Open, Labelled}
use Rattle.hr_graph.specs.Strong.{mark_of, IsPath, labelled_from}
use Rattle.hr_graph.proofs.Members.{at_set}
use Rattle.hr_graph.proofs.StrongSteps.{at_place, past_place}

-- a node with a mark is one of the list
pub seen_within : (marks : List Mark) (v p : ℕ) → mark_of marks v ≡ Open p → v < length marks
seen_within marks v p is = elim (cases_lt v (length marks)) [
  | inl lt ↦ lt
  | inr ge ↦ let clash : Unseen ≡ Open p = sym (get_or_past marks v Unseen ge) ∙ is in cc
]

not_labelled : (marks : List Mark) (path : List ℕ) (label start v : ℕ) (m : Mark) → IsPath marks path → length path ≤ start → mark_of marks v ≡ m → labelled_from label start m ≡ m
not_labelled marks path label start v Unseen on long is = refl
not_labelled marks path label start v (Open p) on long is = let lt : p < length path = (on.place v p is).0 in at_place label start p (omega arith)
not_labelled marks path label start v (Labelled other) on long is = refl

-- nothing is labelled from behind the path on
pub none_labelled : (marks : List Mark) (path : List ℕ) (label start v : ℕ) → IsPath marks path → length path ≤ start → mark_of marks v ≡ labelled_from label start (mark_of marks v)
none_labelled marks path label start v on long = sym (not_labelled marks path label start v (mark_of marks v) on long refl)

pub node_at : (path all rest : List ℕ) (node : ℕ) → path ≡ take (length path) all → path ≡ rest ++ node ∷ [] → (length rest < length all) × (get_or all (length rest) 0 ≡ node)
node_at path all rest node front is =
    let grown : length path ≡ length rest + 1 = ap length is ∙ length_push rest node in
    let short : length path ≤ length all = omega (arith, ap length front, length-take (length path) all) in
    (omega arith, sym (get_or-take (length path) all (length rest) 0 (omega arith)) ∙ ap (λ xs. get_or xs (length rest) 0) (sym front ∙ is) ∙ get_or_push rest node 0 (length rest) refl)

pub front_rest : (path all rest : List ℕ) (node : ℕ) → path ≡ take (length path) all → path ≡ rest ++ node ∷ [] → rest ≡ take (length rest) all
front_rest path all rest node front is =
    let grown : length path ≡ length rest + 1 = ap length is ∙ length_push rest node in
    sym (take_at rest (node ∷ []) (length rest) refl) ∙ ap (take (length rest)) (sym is ∙ front) ∙ take-take (length rest) (length path) all (omega arith)

-- where no node is at the place, one place less is the same
closing_less : (label k : ℕ) (m : Mark) → (m ≡ Open k → ⊥) → labelled_from label (k + 1) m ≡ labelled_from label k m
closing_less label k Unseen ne = refl
closing_less label k (Open p) ne = elim (cases_lt p k) [
  | inl lt ↦ at_place label (k + 1) p (omega arith) ∙ sym (at_place label k p lt)
  | inr ge ↦ elim (cases_eq p k) [
    | inl e ↦ absurd (ne (ap Open e))
    | inr other ↦ past_place label (k + 1) p (omega arith) ∙ sym (past_place label k p ge)
  ]
]
closing_less label k (Labelled other) ne = refl

-- the last node of the path is labelled
pub labelled_one : (before marks : List Mark) (path all rest : List ℕ) (node label : ℕ) → IsPath before all
    → path ≡ take (length path) all → path ≡ rest ++ node ∷ [] → length marks ≡ length before
    → ((v : ℕ) → mark_of marks v ≡ labelled_from label (length path) (mark_of before v))
    → (v : ℕ) → mark_of (set marks node (Labelled label)) v ≡ labelled_from label (length rest) (mark_of before v)
labelled_one before marks path all rest node label on front is same each =
    let grown : length path ≡ length rest + 1 = ap length is ∙ length_push rest node in
    let at : (length rest < length all) × (get_or all (length rest) 0 ≡ node) = node_at path all rest node front is in
    let open_here : mark_of before node ≡ Open (length rest) = ap (mark_of before) (sym at.1) ∙ on.mark (length rest) at.0 in
    let within : node < length before = seen_within before node (length rest) open_here in
    at_set (λ v m. m ≡ labelled_from label (length rest) (mark_of before v)) marks node (Labelled label) Unseen (omega arith)
    (sym (ap (labelled_from label (length rest)) open_here ∙ past_place label (length rest) (length rest) (omega arith)))
    (λ v ne. each v ∙ ap (λ k. labelled_from label k (mark_of before v)) grown
    ∙ closing_less label (length rest) (mark_of before v) (λ here. ne (sym (on.place v (length rest) here).1 ∙ at.1)))

-- at the end the nodes from the start on are labelled
pub labelled_all : (before marks : List Mark) (path all : List ℕ) (start label : ℕ) → IsPath before all → length path ≤ start
    → (length path < start → path ≡ all) → ((v : ℕ) → mark_of marks v ≡ labelled_from label (length path) (mark_of before v))
    → (v : ℕ) → mark_of marks v ≡ labelled_from label start (mark_of before v)
labelled_all before marks path all start label on le kept each v = elim (cases_lt (length path) start) [
  | inl lt ↦
      let same : length path ≡ length all = ap length (kept lt) in
      each v ∙ ap (λ k. labelled_from label k (mark_of before v)) same ∙ sym (none_labelled before all label (length all) v on (omega arith)) ∙ none_labelled before all label start v on (omega arith)
  | inr ge ↦ let same : length path ≡ start = omega arith in each v ∙ ap (λ k. labelled_from label k (mark_of before v)) same
]

pub front_all : (path all : List ℕ) (start : ℕ) → length path ≤ start → (length path < start → path ≡ all) → path ≡ take (length path) all → path ≡ take start all
front_all path all start le kept front = elim (cases_lt (length path) start) [
  | inl lt ↦ kept lt ∙ sym (take_all start all (omega (arith, ap length (kept lt))))
  | inr ge ↦ let same : length path ≡ start = omega arith in front ∙ ap (λ k. take k all) same
]
