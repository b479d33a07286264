-- The agenda keeps its invariant, node by node.
use Rattle.std.proofs.Common.{◌≡◌, ◌⊎◌, ◌+◌, ◌<◌, ◌≤◌, ◌++◌, ◌∷◌, ℕ, zero, suc, Bool, true, false, [], List, length, take, drop, get_or, set, replicate, arith, sym, ◌∙◌, ap, subst, refl, inl, inr}
use Rattle.std.specs.Prelude.{Contains, All}
use Rattle.std.specs.BTreeSet.{insert_key}
use Rattle.std.specs.Ordering.{nat_cmp, match_ordering}
use Rattle.std.specs.declared.cmp.Ordering.{Ordering}
use Rattle.std.specs.declared.cmp.Ordering.TheVariants.{Less, Equal, Greater}
use Rattle.std.proofs.lemmas.Bool.{cases_eq, cases_lt}
use Rattle.std.proofs.lemmas.List.{length-set, get_or-set_same, get_or-set_other, get_or-replicate, get_or_past, length-replicate, take-append-le, take_at, take-append-drop, get_or_default, drop_more, drop_all}
use Rattle.std.proofs.lemmas.List.Elements.{Contains-push, Contains-push_cases, Contains-append_left, Contains-append_right, Contains-append_cases, All-contains}
use Rattle.std.proofs.lemmas.Cmp.{ranked}
use Rattle.hr_graph.specs.Graph.{IsWithin, MayCome, IsNext, IsInOrder}
use Rattle.hr_graph.specs.Rows.{AreRows}
use Rattle.hr_graph.specs.Strong.{IsSuccessor}
use Rattle.hr_graph.specs.Ready.{IsDone, Settled}
use Rattle.hr_graph.proofs.Members.{contains_none, contains_more, contains_kept, at_set}
use Rattle.hr_graph.proofs.RowLemmas.{empty_row}
use Rattle.hr_graph.proofs.StrongSteps.{at_push}

-- the node waits for another that isn't in order yet
pub record IsWaiting (waiting : List (List ℕ)) (order : List ℕ) (u : ℕ) : Type 0 where
  pub target : ℕ
  pub among : Contains (get_or waiting target []) u
  pub needed : Contains order target → ⊥

-- what the agenda keeps; the spare nodes are still to be settled
pub record IsAgenda (spare : ℕ → Type 0) (nodes : ℕ) (edges : List (ℕ × ℕ)) (left waiting : List (List ℕ)) (done : List Bool) (ready order : List ℕ) : Type 0 where
  pub left_long : length left ≡ nodes
  pub waiting_long : length waiting ≡ nodes
  pub done_long : length done ≡ nodes
  pub done_is : (v : ℕ) → IsDone done v → Contains order v
  pub is_done : (v : ℕ) → Contains order v → IsDone done v
  pub in_order : IsInOrder nodes edges order
  pub left_sound : (u v : ℕ) → IsSuccessor left u v → Contains edges (u, v)
  pub left_all : (u v : ℕ) → Contains edges (u, v) → IsSuccessor left u v ⊎ Contains order v
  pub ready_is : (v : ℕ) → Contains ready v → MayCome nodes edges order v
  pub waits : (u v : ℕ) → IsSuccessor waiting v u → Contains edges (u, v)
  pub placed : (u : ℕ) → u < nodes → (Contains order u ⊎ Contains ready u) ⊎ (IsWaiting waiting order u ⊎ spare u)

-- ---- a key in a set of numbers

key_cases : (x k : ℕ) (xs : List ℕ) (o : Ordering) → nat_cmp k x ≡ o → (P : ℕ → Type 0) → P k → ((y : ℕ) → Contains (x ∷ xs) y → P y) → ((y : ℕ) → Contains (insert_key nat_cmp xs k) y → P y)
    → (y : ℕ) → Contains (match_ordering o (k ∷ x ∷ xs) (x ∷ xs) (x ∷ insert_key nat_cmp xs k)) y → P y
key_cases x k xs Less is P here old later y h = elim (Contains-append_cases (k ∷ []) (x ∷ xs) y h) [
  | inl first ↦ elim (Contains-push_cases [] k y first) [ inl none ↦ absurd (contains_none y none) | inr e ↦ subst P e here ]
  | inr rest ↦ old y rest
]
key_cases x k xs Equal is P here old later y h = old y h
key_cases x k xs Greater is P here old later y h = elim (Contains-append_cases (x ∷ []) (insert_key nat_cmp xs k) y h) [
  | inl first ↦ old y (Contains-append_left (x ∷ []) xs y first)
  | inr rest ↦ later y rest
]

-- what holds of the old keys and of the new one holds of all
pub keys_more : (xs : List ℕ) (k : ℕ) (P : ℕ → Type 0) → P k → ((y : ℕ) → Contains xs y → P y) → (y : ℕ) → Contains (insert_key nat_cmp xs k) y → P y
keys_more [] k P here old y h = elim (Contains-push_cases [] k y h) [ inl none ↦ absurd (contains_none y none) | inr e ↦ subst P e here ]
keys_more (x ∷ xs) k P here old y h =
    key_cases x k xs (nat_cmp k x) refl P here old (keys_more xs k P here (λ y h. old y (Contains-append_right (x ∷ []) xs y h))) y h

key_kept_by : (x k : ℕ) (xs : List ℕ) (o : Ordering) → (y : ℕ) → Contains (x ∷ xs) y → (Contains xs y → Contains (insert_key nat_cmp xs k) y)
    → Contains (match_ordering o (k ∷ x ∷ xs) (x ∷ xs) (x ∷ insert_key nat_cmp xs k)) y
key_kept_by x k xs Less y h later = Contains-append_right (k ∷ []) (x ∷ xs) y h
key_kept_by x k xs Equal y h later = h
key_kept_by x k xs Greater y h later = elim (Contains-append_cases (x ∷ []) xs y h) [
  | inl first ↦ Contains-append_left (x ∷ []) (insert_key nat_cmp xs k) y first
  | inr rest ↦ Contains-append_right (x ∷ []) (insert_key nat_cmp xs k) y (later rest)
]

pub key_kept : (xs : List ℕ) (k y : ℕ) → Contains xs y → Contains (insert_key nat_cmp xs k) y
key_kept [] k y h = absurd (contains_none y h)
key_kept (x ∷ xs) k y h = key_kept_by x k xs (nat_cmp k x) y h (key_kept xs k y)

same_key : (k x : ℕ) → nat_cmp k x ≡ Equal → x ≡ k
same_key k x is = sym (ranked k x Equal (sym is))

key_new_by : (x k : ℕ) (xs : List ℕ) (o : Ordering) → nat_cmp k x ≡ o → Contains (insert_key nat_cmp xs k) k → Contains (match_ordering o (k ∷ x ∷ xs) (x ∷ xs) (x ∷ insert_key nat_cmp xs k)) k
key_new_by x k xs Less is later = Contains-append_left (k ∷ []) (x ∷ xs) k (Contains-push [] k)
key_new_by x k xs Equal is later = subst (λ y. Contains (x ∷ xs) y) (same_key k x is) (Contains-append_left (x ∷ []) xs x (Contains-push [] x))
key_new_by x k xs Greater is later = Contains-append_right (x ∷ []) (insert_key nat_cmp xs k) k later

pub key_new : (xs : List ℕ) (k : ℕ) → Contains (insert_key nat_cmp xs k) k
key_new [] k = Contains-push [] k
key_new (x ∷ xs) k = key_new_by x k xs (nat_cmp k x) refl (key_new xs k)

-- ---- a node is settled

not_true : (b : Bool) → b ≡ true → b ≡ false → ⊥
not_true b on off = let clash : true ≡ false = sym on ∙ off in cc

pub settled : (spare rest : ℕ → Type 0) (nodes : ℕ) (edges : List (ℕ × ℕ)) (left left_after waiting waiting_after : List (List ℕ)) (done : List Bool) (ready ready_after order : List ℕ) (node : ℕ)
    → IsWithin nodes edges
    → IsAgenda spare nodes edges left waiting done ready order → Settled left left_after waiting waiting_after done ready ready_after node
    → node < nodes → (Contains order node → ⊥) → ((u : ℕ) → spare u → rest u ⊎ (u ≡ node))
    → IsAgenda rest nodes edges left_after waiting_after done ready_after order
settled spare rest nodes edges left left_after waiting waiting_after done ready ready_after order node ends keeps s within fresh split =
    let long : node < length left = omega (arith, keeps.left_long) in
    let sound_row : (v : ℕ) → Contains s.row v → Contains edges (node, v) = λ v h. keeps.left_sound node v (s.kept v h) in
    let all_row : (v : ℕ) → Contains edges (node, v) → Contains s.row v ⊎ Contains order v = λ v h.
    elim (keeps.left_all node v h) [
      | inl in' ↦ elim (s.dropped v in') [ inl stays ↦ inl stays | inr is ↦ inr (keeps.done_is v is) ]
      | inr ordered ↦ inr ordered
    ] in
    let left_long : length left_after ≡ nodes = ap length s.left_is ∙ length-set left node s.row ∙ keeps.left_long in
    let left_sound : (u v : ℕ) → IsSuccessor left_after u v → Contains edges (u, v) = λ u v h.
    at_set (λ u row. Contains row v → Contains edges (u, v)) left node s.row [] long (sound_row v) (λ u ne h. keeps.left_sound u v h) u (subst (λ rows. IsSuccessor rows u v) s.left_is h) in
    let left_all : (u v : ℕ) → Contains edges (u, v) → IsSuccessor left_after u v ⊎ Contains order v = λ u v h.
    subst (λ rows. IsSuccessor rows u v ⊎ Contains order v) (sym s.left_is)
    (at_set (λ u row. Contains edges (u, v) → Contains row v ⊎ Contains order v) left node s.row [] long (all_row v) (λ u ne h. keeps.left_all u v h) u h) in
    elim s.outcome [
      | inl gets ↦ record {
        left_long = left_long;
        waiting_long = ap length gets.waiting_is ∙ keeps.waiting_long;
        done_long = keeps.done_long;
        done_is = keeps.done_is;
        is_done = keeps.is_done;
        in_order = keeps.in_order;
        left_sound = left_sound;
        left_all = left_all;
        ready_is = λ v h. keys_more ready node (MayCome nodes edges order)
            (record {
              below = within;
              fresh = fresh;
              after = λ v edge. elim (all_row v edge) [ inl in' ↦ absurd (contains_none v (subst (λ row. Contains row v) gets.row_is in')) | inr ordered ↦ ordered ];
            })
            keeps.ready_is v (subst (λ keys. Contains keys v) gets.ready_is h);
        waits = λ u v h. keeps.waits u v (subst (λ rows. IsSuccessor rows v u) gets.waiting_is h);
        placed = λ u u_in. elim (keeps.placed u u_in) [
          | inl known ↦ inl (elim known [
            | inl ordered ↦ inl ordered
            | inr in' ↦ inr (subst (λ keys. Contains keys u) (sym gets.ready_is) (key_kept ready node u in'))
          ])
          | inr later ↦ elim later [
            | inl w ↦ inr (inl (record { target = w.target; among = subst (λ rows. Contains (get_or rows w.target []) u) (sym gets.waiting_is) w.among; needed = w.needed }))
            | inr spares ↦ elim (split u spares) [
              | inl stays ↦ inr (inr stays)
              | inr e ↦ inl (inr (subst (λ keys. Contains keys u) (sym gets.ready_is) (subst (λ k. Contains (insert_key nat_cmp ready node) k) (sym e) (key_new ready node))))
            ]
          ]
        ];
      }
      | inr w ↦
          let edge : Contains edges (node, w.target) = sound_row w.target w.among in
          let target_in : w.target < length waiting = omega (arith, (ends edge.0 (node, w.target) edge.1).1, ap (λ e. e.1) edge.2, keeps.waiting_long) in
          let needed : Contains order w.target → ⊥ = λ h. not_true (get_or done w.target false) (keeps.is_done w.target h) w.needed in
          record {
            left_long = left_long;
            waiting_long = ap length w.waiting_is ∙ length-set waiting w.target (get_or waiting w.target [] ++ node ∷ []) ∙ keeps.waiting_long;
            done_long = keeps.done_long;
            done_is = keeps.done_is;
            is_done = keeps.is_done;
            in_order = keeps.in_order;
            left_sound = left_sound;
            left_all = left_all;
            ready_is = λ v h. keeps.ready_is v (subst (λ keys. Contains keys v) w.ready_is h);
            waits = λ u v h. at_set (λ v row. Contains row u → Contains edges (u, v)) waiting w.target (get_or waiting w.target [] ++ node ∷ []) [] target_in
                (contains_more (λ u. Contains edges (u, w.target)) (get_or waiting w.target []) node (λ u h. keeps.waits u w.target h) edge u)
                (λ v ne h. keeps.waits u v h) v (subst (λ rows. IsSuccessor rows v u) w.waiting_is h);
            placed = λ u u_in. elim (keeps.placed u u_in) [
              | inl known ↦ inl (elim known [ inl ordered ↦ inl ordered | inr in' ↦ inr (subst (λ keys. Contains keys u) (sym w.ready_is) in') ])
              | inr later ↦ elim later [
                | inl old ↦ inr (inl (record {
                  target = old.target;
                  among = subst (λ rows. Contains (get_or rows old.target []) u) (sym w.waiting_is)
                      (at_set (λ t row. t ≡ old.target → Contains row u) waiting w.target (get_or waiting w.target [] ++ node ∷ []) [] target_in
                      (λ same. contains_kept (get_or waiting w.target []) node u (subst (λ t. Contains (get_or waiting t []) u) (sym same) old.among))
                      (λ t ne same. subst (λ t. Contains (get_or waiting t []) u) (sym same) old.among) old.target refl);
                  needed = old.needed;
                }))
                | inr spares ↦ elim (split u spares) [
                  | inl stays ↦ inr (inr stays)
                  | inr e ↦ inr (inl (record {
                    target = w.target;
                    among = subst (λ rows. Contains (get_or rows w.target []) u) (sym w.waiting_is)
                        (subst (λ row. Contains row u) (sym (get_or-set_same waiting w.target (get_or waiting w.target [] ++ node ∷ []) [] target_in))
                        (subst (λ u. Contains (get_or waiting w.target [] ++ node ∷ []) u) (sym e) (Contains-push (get_or waiting w.target []) node)));
                    needed = needed;
                  }))
                ]
              ]
            ];
          }
    ]

-- ---- the first ready node is put in order

contains_front : {X : Type 0} (n : ℕ) (xs : List X) (x : X) → Contains (take n xs) x → Contains xs x
contains_front n xs x h = subst (λ ys. Contains ys x) (take-append-drop n xs) (Contains-append_left (take n xs) (drop n xs) x h)

-- a node in order comes after those that it points to
pub ordered_after : (nodes : ℕ) (edges : List (ℕ × ℕ)) (order : List ℕ) (u v : ℕ) → IsInOrder nodes edges order → Contains order u → Contains edges (u, v) → Contains order v
ordered_after nodes edges order u v each (k, within, is) edge =
    let next : IsNext nodes edges (take k order) (get_or order k 0) = each k within in
    let at : get_or order k 0 ≡ u = get_or_default order k 0 u within ∙ is in
    contains_front k order v (next.ready.after v (subst (λ w. Contains edges (w, v)) (sym at) edge))

-- those that wait for a ready node are not in order, nor is it
pub released_fresh : (nodes : ℕ) (edges : List (ℕ × ℕ)) (left waiting : List (List ℕ)) (done : List Bool) (ready order : List ℕ) (i u : ℕ)
    → IsAgenda (λ _. ⊥) nodes edges left waiting done ready order → Contains ready i → Contains (get_or waiting i []) u → Contains (order ++ i ∷ []) u → ⊥
released_fresh nodes edges left waiting done ready order i u keeps at waits in' =
    let is : MayCome nodes edges order i = keeps.ready_is i at in
    let edge : Contains edges (u, i) = keeps.waits u i waits in
    elim (Contains-push_cases order i u in') [
      | inl old ↦ is.fresh (ordered_after nodes edges order u i keeps.in_order old edge)
      | inr e ↦ is.fresh (is.after i (subst (λ w. Contains edges (w, i)) (sym e) edge))
    ]

put_in_order : (nodes : ℕ) (edges : List (ℕ × ℕ)) (order : List ℕ) (i : ℕ) → IsInOrder nodes edges order → IsNext nodes edges order i → IsInOrder nodes edges (order ++ i ∷ [])
put_in_order nodes edges order i each next =
    at_push (λ k x. IsNext nodes edges (take k (order ++ i ∷ [])) x) order i 0
    (λ k lt. subst (λ before. IsNext nodes edges before (get_or order k 0)) (sym (take-append-le k order (i ∷ []) (omega arith))) (each k lt))
    (subst (λ before. IsNext nodes edges before i) (sym (take_at order (i ∷ []) (length order) refl)) next)

pub put : (nodes : ℕ) (edges : List (ℕ × ℕ)) (left waiting : List (List ℕ)) (done : List Bool) (ready rest order : List ℕ) (i : ℕ)
    → IsAgenda (λ _. ⊥) nodes edges left waiting done ready order → ready ≡ i ∷ rest → ((v : ℕ) → Contains rest v → i < v)
    → IsAgenda (λ u. Contains (get_or waiting i []) u) nodes edges left (set waiting i []) (set done i true) rest (order ++ i ∷ [])
put nodes edges left waiting done ready rest order i keeps split above =
    let at : Contains ready i = subst (λ keys. Contains keys i) (sym split) (Contains-append_left (i ∷ []) rest i (Contains-push [] i)) in
    let later : (v : ℕ) → Contains rest v → Contains ready v = λ v h. subst (λ keys. Contains keys v) (sym split) (Contains-append_right (i ∷ []) rest v h) in
    let is : MayCome nodes edges order i = keeps.ready_is i at in
    let in_ready : (v : ℕ) → Contains ready v → (v ≡ i) ⊎ Contains rest v = λ v h.
    elim (Contains-append_cases (i ∷ []) rest v (subst (λ keys. Contains keys v) split h)) [
      | inl first ↦ elim (Contains-push_cases [] i v first) [ inl none ↦ absurd (contains_none v none) | inr e ↦ inl (sym e) ]
      | inr more ↦ inr more
    ] in
    let next : IsNext nodes edges order i = record {
      ready = is;
      least = λ other r. elim (keeps.placed other r.below) [
        | inl known ↦ elim known [
          | inl ordered ↦ absurd (r.fresh ordered)
          | inr in' ↦ elim (in_ready other in') [ inl e ↦ omega (arith, e) | inr more ↦ let lt : i < other = above other more in omega arith ]
        ]
        | inr others ↦ elim others [
          | inl w ↦ absurd (w.needed (r.after w.target (keeps.waits other w.target w.among)))
          | inr none ↦ absurd none
        ]
      ];
    } in
    record {
      left_long = keeps.left_long;
      waiting_long = length-set waiting i [] ∙ keeps.waiting_long;
      done_long = length-set done i true ∙ keeps.done_long;
      done_is = at_set (λ v b. b ≡ true → Contains (order ++ i ∷ []) v) done i true false (omega (arith, is.below, keeps.done_long))
          (λ _. Contains-push order i) (λ v ne h. contains_kept order i v (keeps.done_is v h));
      is_done = at_set (λ v b. Contains (order ++ i ∷ []) v → b ≡ true) done i true false (omega (arith, is.below, keeps.done_long))
          (λ _. refl) (λ v ne h. elim (Contains-push_cases order i v h) [ inl old ↦ keeps.is_done v old | inr e ↦ absurd (ne (sym e)) ]);
      in_order = put_in_order nodes edges order i keeps.in_order next;
      left_sound = keeps.left_sound;
      left_all = λ u v h. elim (keeps.left_all u v h) [ inl in' ↦ inl in' | inr ordered ↦ inr (contains_kept order i v ordered) ];
      ready_is = λ v h.
          let old : MayCome nodes edges order v = keeps.ready_is v (later v h) in
          record {
            below = old.below;
            fresh = λ in'. elim (Contains-push_cases order i v in') [ inl ordered ↦ old.fresh ordered | inr e ↦ let lt : i < v = above v h in absurd (omega arith) ];
            after = λ t edge. contains_kept order i t (old.after t edge);
          };
      waits = λ u v h. at_set (λ v row. Contains row u → Contains edges (u, v)) waiting i [] [] (omega (arith, is.below, keeps.waiting_long))
          (λ none. absurd (contains_none u none)) (λ v ne h. keeps.waits u v h) v h;
      placed = λ u u_in. elim (keeps.placed u u_in) [
        | inl known ↦ elim known [
          | inl ordered ↦ inl (inl (contains_kept order i u ordered))
          | inr in' ↦ elim (in_ready u in') [
            | inl e ↦ inl (inl (subst (λ w. Contains (order ++ i ∷ []) w) (sym e) (Contains-push order i)))
            | inr more ↦ inl (inr more)
          ]
        ]
        | inr others ↦ elim others [
          | inl w ↦ elim (cases_eq w.target i) [
            | inl e ↦ inr (inr (subst (λ t. Contains (get_or waiting t []) u) e w.among))
            | inr ne ↦ inr (inl (record {
              target = w.target;
              among = subst (λ row. Contains row u) (sym (get_or-set_other waiting i w.target [] [] ne)) w.among;
              needed = λ in'. elim (Contains-push_cases order i w.target in') [ inl ordered ↦ w.needed ordered | inr e ↦ ne (sym e) ];
            }))
          ]
          | inr none ↦ absurd none
        ]
      ];
    }

-- ---- the start and the end

not_done : (n v : ℕ) → IsDone (replicate n false) v → ⊥
not_done n v is = elim (cases_lt v n) [
  | inl lt ↦ not_true (get_or (replicate n false) v false) is (get_or-replicate n v false false lt)
  | inr ge ↦ not_true (get_or (replicate n false) v false) is (get_or_past (replicate n false) v false (omega (arith, length-replicate n false, ge)))
]

pub start_agenda : (nodes : ℕ) (edges : List (ℕ × ℕ)) (rows : List (List ℕ)) → AreRows nodes edges rows → IsAgenda (λ u. 0 ≤ u) nodes edges rows (replicate nodes []) (replicate nodes false) [] []
start_agenda nodes edges rows are = record {
  left_long = are.length_is;
  waiting_long = length-replicate nodes [];
  done_long = length-replicate nodes false;
  done_is = λ v h. absurd (not_done nodes v h);
  is_done = λ v h. absurd (contains_none v h);
  in_order = λ k lt. absurd (omega (arith, lt));
  left_sound = are.sound;
  left_all = λ u v h. inl (are.complete u v h);
  ready_is = λ v h. absurd (contains_none v h);
  waits = λ u v h. absurd (contains_none u (subst (λ row. Contains row u) (empty_row nodes v) h));
  placed = λ u lt. inr (inr (omega arith));
}

pub nothing_ready : (nodes : ℕ) (edges : List (ℕ × ℕ)) (left waiting : List (List ℕ)) (done : List Bool) (ready order : List ℕ)
    → IsAgenda (λ _. ⊥) nodes edges left waiting done ready order → ready ≡ [] → (node : ℕ) → MayCome nodes edges order node → ⊥
nothing_ready nodes edges left waiting done ready order keeps empty node r = elim (keeps.placed node r.below) [
  | inl known ↦ elim known [
    | inl ordered ↦ r.fresh ordered
    | inr in' ↦ contains_none node (subst (λ keys. Contains keys node) empty in')
  ]
  | inr others ↦ elim others [
    | inl w ↦ w.needed (r.after w.target (keeps.waits node w.target w.among))
    | inr none ↦ none
  ]
]

pub agenda_weaker : (spare rest : ℕ → Type 0) (nodes : ℕ) (edges : List (ℕ × ℕ)) (left waiting : List (List ℕ)) (done : List Bool) (ready order : List ℕ)
    → ((u : ℕ) → u < nodes → spare u → rest u) → IsAgenda spare nodes edges left waiting done ready order → IsAgenda rest nodes edges left waiting done ready order
agenda_weaker spare rest nodes edges left waiting done ready order weaker keeps = record {
  left_long = keeps.left_long;
  waiting_long = keeps.waiting_long;
  done_long = keeps.done_long;
  done_is = keeps.done_is;
  is_done = keeps.is_done;
  in_order = keeps.in_order;
  left_sound = keeps.left_sound;
  left_all = keeps.left_all;
  ready_is = keeps.ready_is;
  waits = keeps.waits;
  placed = λ u lt. elim (keeps.placed u lt) [ inl known ↦ inl known | inr others ↦ elim others [ inl w ↦ inr (inl w) | inr s ↦ inr (inr (weaker u lt s)) ] ];
}

-- ---- how many nodes are not done

pub undone : List Bool → ℕ
undone [] = 0
undone (true ∷ done) = undone done
undone (false ∷ done) = suc (undone done)

pub undone_falls : (done : List Bool) (v : ℕ) → v < length done → get_or done v false ≡ false → undone (set done v true) < undone done
unfolding undone
undone_falls [] v within is = absurd (omega (arith, within))
undone_falls (true ∷ done) zero within is = let clash : true ≡ false = is in cc
undone_falls (false ∷ done) zero within is = omega arith
undone_falls (true ∷ done) (suc v) within is = undone_falls done v (omega (arith, within)) is
undone_falls (false ∷ done) (suc v) within is = omega (arith, undone_falls done v (omega (arith, within)) is)

not_done_by : (b : Bool) → (b ≡ true → ⊥) → b ≡ false
not_done_by true never = absurd (never refl)
not_done_by false never = refl

pub ready_undone : (nodes : ℕ) (edges : List (ℕ × ℕ)) (left waiting : List (List ℕ)) (done : List Bool) (ready order : List ℕ) (i : ℕ)
    → IsAgenda (λ _. ⊥) nodes edges left waiting done ready order → Contains ready i → undone (set done i true) < undone done
ready_undone nodes edges left waiting done ready order i keeps at =
    let is : MayCome nodes edges order i = keeps.ready_is i at in
    undone_falls done i (omega (arith, is.below, keeps.done_long)) (not_done_by (get_or done i false) (λ h. is.fresh (keeps.done_is i h)))

-- the targets that are left are nodes
pub agenda_targets : {spare : ℕ → Type 0} (nodes : ℕ) (edges : List (ℕ × ℕ)) (left waiting : List (List ℕ)) (done : List Bool) (ready order : List ℕ) (u v : ℕ)
    → IsWithin nodes edges → IsAgenda spare nodes edges left waiting done ready order → Contains (get_or left u []) v → v < nodes
agenda_targets nodes edges left waiting done ready order u v ends keeps h =
    let edge : Contains edges (u, v) = keeps.left_sound u v h in
    omega (arith, (ends edge.0 (u, v) edge.1).1, ap (λ e. e.1) edge.2)

pub settled_done : (spare : ℕ → Type 0) (nodes : ℕ) (edges : List (ℕ × ℕ)) (left waiting : List (List ℕ)) (done after : List Bool) (ready order : List ℕ)
    → after ≡ done → IsAgenda spare nodes edges left waiting done ready order → IsAgenda spare nodes edges left waiting after ready order
settled_done spare nodes edges left waiting done after ready order is keeps = subst (λ d. IsAgenda spare nodes edges left waiting d ready order) (sym is) keeps

pub same_order : (spare : ℕ → Type 0) (nodes : ℕ) (edges : List (ℕ × ℕ)) (left waiting : List (List ℕ)) (done : List Bool) (ready order after : List ℕ)
    → after ≡ order → IsAgenda spare nodes edges left waiting done ready order → IsAgenda spare nodes edges left waiting done ready after
same_order spare nodes edges left waiting done ready order after is keeps = subst (λ o. IsAgenda spare nodes edges left waiting done ready o) (sym is) keeps

pub fresh_agenda : (nodes : ℕ) (edges : List (ℕ × ℕ)) (left waiting : List (List ℕ)) (done : List Bool) (ready : List ℕ)
    → AreRows nodes edges left → waiting ≡ replicate nodes [] → done ≡ replicate nodes false → ready ≡ [] → IsAgenda (λ u. 0 ≤ u) nodes edges left waiting done ready []
fresh_agenda nodes edges left waiting done ready are ew ed er =
    subst (λ w. IsAgenda (λ u. 0 ≤ u) nodes edges left w done ready []) (sym ew) (subst (λ d. IsAgenda (λ u. 0 ≤ u) nodes edges left (replicate nodes []) d ready []) (sym ed)
    (subst (λ r. IsAgenda (λ u. 0 ≤ u) nodes edges left (replicate nodes []) (replicate nodes false) r []) (sym er) (start_agenda nodes edges left are)))

pub with_waiting : (spare : ℕ → Type 0) (nodes : ℕ) (edges : List (ℕ × ℕ)) (left waiting after : List (List ℕ)) (done : List Bool) (ready order : List ℕ)
    → after ≡ waiting → IsAgenda spare nodes edges left waiting done ready order → IsAgenda spare nodes edges left after done ready order
with_waiting spare nodes edges left waiting after done ready order is keeps = subst (λ w. IsAgenda spare nodes edges left w done ready order) (sym is) keeps

-- one of the nodes that are left to be settled, and the others
pub next_left : (xs : List ℕ) (i u : ℕ) → i < length xs → Contains (drop i xs) u → Contains (drop (i + 1) xs) u ⊎ (u ≡ get_or xs i 0)
next_left xs i u within h = elim (Contains-append_cases (get_or xs i 0 ∷ []) (drop (i + 1) xs) u (subst (λ ys. Contains ys u) (drop_more xs i 0 within) h)) [
  | inl first ↦ elim (Contains-push_cases [] (get_or xs i 0) u first) [ inl none ↦ absurd (contains_none u none) | inr e ↦ inr (sym e) ]
  | inr rest ↦ inl rest
]

-- what is above a key
pub above_key : (i : ℕ) (rest : List ℕ) → All (λ v. nat_cmp i v ≡ Less) rest → (v : ℕ) → Contains rest v → i < v
above_key i rest all v h = ranked i v Less (sym (All-contains (λ v. nat_cmp i v ≡ Less) rest v all h))

pub first_ready_in : (ready rest : List ℕ) (i : ℕ) → ready ≡ i ∷ rest → Contains ready i
first_ready_in ready rest i split = subst (λ keys. Contains keys i) (sym split) (Contains-append_left (i ∷ []) rest i (Contains-push [] i))

-- what is known of those that waited for the node that was put in order
pub released_known : (nodes : ℕ) (edges : List (ℕ × ℕ)) (left waiting : List (List ℕ)) (done : List Bool) (ready rest order after row : List ℕ) (i : ℕ)
    → IsWithin nodes edges → IsAgenda (λ _. ⊥) nodes edges left waiting done ready order → ready ≡ i ∷ rest → row ≡ get_or waiting i [] → after ≡ order ++ i ∷ []
    → (u : ℕ) → Contains row u → (u < nodes) × (Contains after u → ⊥)
released_known nodes edges left waiting done ready rest order after row i ends keeps split row_is after_is u h =
    let in' : Contains (get_or waiting i []) u = subst (λ r. Contains r u) row_is h in
    let edge : Contains edges (u, i) = keeps.waits u i in' in (
      omega (arith, (ends edge.0 (u, i) edge.1).0, ap (λ e. e.0) edge.2),
      λ ordered. released_fresh nodes edges left waiting done ready order i u keeps (first_ready_in ready rest i split) in' (subst (λ o. Contains o u) after_is ordered),
    )

pub put_next : (nodes : ℕ) (edges : List (ℕ × ℕ)) (left waiting : List (List ℕ)) (done : List Bool) (ready rest order after row emptied : List ℕ) (i : ℕ)
    → IsAgenda (λ _. ⊥) nodes edges left waiting done ready order → ready ≡ i ∷ rest → All (λ v. nat_cmp i v ≡ Less) rest
    → row ≡ get_or waiting i [] → after ≡ order ++ i ∷ [] → emptied ≡ []
    → IsAgenda (λ u. Contains row u) nodes edges left (set waiting i emptied) (set done i true) rest after
put_next nodes edges left waiting done ready rest order after row emptied i keeps split above row_is after_is empty =
    subst (λ row. IsAgenda (λ u. Contains row u) nodes edges left (set waiting i emptied) (set done i true) rest after) (sym row_is)
    (subst (λ o. IsAgenda (λ u. Contains (get_or waiting i []) u) nodes edges left (set waiting i emptied) (set done i true) rest o) (sym after_is)
    (subst (λ e. IsAgenda (λ u. Contains (get_or waiting i []) u) nodes edges left (set waiting i e) (set done i true) rest (order ++ i ∷ [])) (sym empty)
    (put nodes edges left waiting done ready rest order i keeps split (above_key i rest above))))

-- nothing is left behind the end
pub none_left : (xs : List ℕ) (i u : ℕ) → length xs ≤ i → Contains (drop i xs) u → ⊥
none_left xs i u past h = contains_none u (subst (λ ys. Contains ys u) (drop_all i xs past) h)

-- a list with no room for an element
pub empty_by : (xs : List ℕ) → (0 < length xs → false ≡ true) → xs ≡ []
empty_by [] never = refl
empty_by (x ∷ xs) never = let clash : false ≡ true = never (omega arith) in cc
