-- An edge of the last group is followed: what is left to do falls, and there is room for each component.
use Rattle.std.proofs.Common.{◌≡◌, ◌+◌, ◌-◌, ◌<◌, ◌≤◌, ◌++◌, ◌∷◌, ℕ, zero, suc, Bool, true, false, cond, [], List, length, take, get_or, set, min, arith, sym, ◌∙◌, ap, subst, refl, inl, inr}
use Rattle.std.specs.Prelude.{Contains, AllPairs, nat_lt}
use Rattle.std.proofs.lemmas.Bool.{cases_lt}
use Rattle.std.proofs.lemmas.List.{length_push, length-append, length-map, length-take, length-set, get_or-take, get_or_default, get_or-map, get_or_read}
use Rattle.std.proofs.lemmas.List.Elements.{Contains-push}
use Rattle.hr_graph.specs.declared.strong.Mark.{Mark}
use Rattle.hr_graph.specs.declared.strong.Mark.TheVariants.{Unseen, Open, Labelled}
use Rattle.hr_graph.specs.Strong.{IsSuccessor, stay, go, mark_of, IsSearch, IsSound, IsFollowing, Joined, AreEarly, labelled_from, waiting, weigh, work, ones, loads, IsSeen}
use Rattle.hr_graph.proofs.Members.{contains_more}
use Rattle.hr_graph.proofs.StrongSteps.{way_on, entered, passed, joined, popped, shut, pairs_last}

pub sound_same : {rows : List (List ℕ)} (marks m : List Mark) (path p starts s : List ℕ) (pending w : List (ℕ × ℕ)) (labelled c : ℕ)
    → m ≡ marks → p ≡ path → s ≡ starts → w ≡ pending → c ≡ labelled → IsSound rows marks path starts pending labelled → IsSound rows m p s w c
sound_same {rows} marks m path p starts s pending w labelled c em ep es ew ec sound =
    subst (λ m. IsSound rows m p s w c) (sym em) (subst (λ p. IsSound rows marks p s w c) (sym ep) (subst (λ s. IsSound rows marks path s w c) (sym es)
    (subst (λ w. IsSound rows marks path starts w c) (sym ew) (subst (λ c. IsSound rows marks path starts pending c) (sym ec) sound))))

-- ---- weights

pub weigh_entered : (ws : List ℕ) (marks : List Mark) (v place : ℕ) → v < length marks → mark_of marks v ≡ Unseen → get_or ws v 0 + weigh ws (set marks v (Open place)) ≡ weigh ws marks
weigh_entered [] marks v place within is = refl
weigh_entered (w ∷ ws) [] v place within is = absurd (omega (arith, within))
weigh_entered (w ∷ ws) (Unseen ∷ marks) zero place within is = refl
weigh_entered (w ∷ ws) (Open p ∷ marks) zero place within is = let clash : Open p ≡ Unseen = is in cc
weigh_entered (w ∷ ws) (Labelled label ∷ marks) zero place within is = let clash : Labelled label ≡ Unseen = is in cc
weigh_entered (w ∷ ws) (Unseen ∷ marks) (suc v) place within is = let rest : get_or ws v 0 + weigh ws (set marks v (Open place)) ≡ weigh ws marks = weigh_entered ws marks v place (omega (arith, within)) is in omega arith
weigh_entered (w ∷ ws) (Open p ∷ marks) (suc v) place within is = weigh_entered ws marks v place (omega (arith, within)) is
weigh_entered (w ∷ ws) (Labelled label ∷ marks) (suc v) place within is = weigh_entered ws marks v place (omega (arith, within)) is

weigh_choice : (b : Bool) (w p label : ℕ) (ws : List ℕ) (marks : List Mark) → weigh (w ∷ ws) (cond b (Open p) (Labelled label) ∷ marks) ≡ weigh ws marks
weigh_choice true w p label ws marks = refl
weigh_choice false w p label ws marks = refl

weigh_head : (label start w : ℕ) (m : Mark) (ws : List ℕ) (marks after : List Mark) → weigh ws after ≡ weigh ws marks → weigh (w ∷ ws) (labelled_from label start m ∷ after) ≡ weigh (w ∷ ws) (m ∷ marks)
weigh_head label start w Unseen ws marks after same = ap (λ n. w + n) same
weigh_head label start w (Open p) ws marks after same = weigh_choice (nat_lt p start) w p label ws after ∙ same
weigh_head label start w (Labelled other) ws marks after same = same

pub weigh_shut : (ws : List ℕ) (marks after : List Mark) (label start : ℕ) → length after ≡ length marks → ((v : ℕ) → mark_of after v ≡ labelled_from label start (mark_of marks v)) → weigh ws after ≡ weigh ws marks
weigh_shut [] marks after label start long each = refl
weigh_shut (w ∷ ws) [] [] label start long each = refl
weigh_shut (w ∷ ws) [] (a ∷ after) label start long each = absurd (omega (arith, long))
weigh_shut (w ∷ ws) (m ∷ marks) [] label start long each = absurd (omega (arith, long))
weigh_shut (w ∷ ws) (m ∷ marks) (a ∷ after) label start long each =
    ap (λ a. weigh (w ∷ ws) (a ∷ after)) (each 0)
    ∙ weigh_head label start w m ws marks after (weigh_shut ws marks after label start (omega (arith, long)) (λ v. each (suc v)))

-- ---- the joined groups

contains_take : (n : ℕ) (xs : List ℕ) (x : ℕ) → Contains (take n xs) x → Contains xs x
contains_take n xs x (k, within, is) =
    let lt : k < min n (length xs) = omega (arith, within, length-take n xs) in
    (k, omega arith, sym (get_or-take n xs k x (omega arith)) ∙ is)

pub pairs_take : {X : Type 0} (R : X → X → Type 0) (n : ℕ) (xs : List X) → AllPairs R xs → AllPairs R (take n xs)
pairs_take R n xs pairs i j d lt within =
    let lj : j < min n (length xs) = omega (arith, within, length-take n xs) in
    subst (λ x. R x (get_or (take n xs) j d)) (sym (get_or-take n xs i d (omega arith)))
    (subst (λ y. R (get_or xs i d) y) (sym (get_or-take n xs j d (omega arith))) (pairs i j d lt (omega arith)))

pub joined_sub : (before after : List ℕ) (place : ℕ) → Joined before after place → (s : ℕ) → Contains after s → Contains before s
joined_sub before after place j s in' = contains_take (length after) before s (subst (λ xs. Contains xs s) j.front in')

pub joined_rise : (before after : List ℕ) (place : ℕ) → Joined before after place → AllPairs (λ s t. s < t) before → AllPairs (λ s t. s < t) after
joined_rise before after place j rise = subst (λ xs. AllPairs (λ s t. s < t) xs) (sym j.front) (pairs_take (λ s t. s < t) (length after) before rise)

pub joined_small : (before after : List ℕ) (place : ℕ) → Joined before after place → AllPairs (λ s t. s < t) before → (s : ℕ) → Contains after s → s ≤ place
joined_small before after place j rise s (k, within, is) =
    let last : get_or after (length after - 1) 0 ≤ place = j.last (length after - 1) (omega arith) in
    let at : get_or after k 0 ≡ s = get_or_default after k 0 s within ∙ is in
    elim (cases_lt k (length after - 1)) [
      | inl lt ↦ let below : get_or after k 0 < get_or after (length after - 1) 0 = joined_rise before after place j rise k (length after - 1) 0 lt (omega arith) in omega arith
      | inr ge ↦ let same : k ≡ length after - 1 = omega arith in let e : get_or after k 0 ≡ get_or after (length after - 1) 0 = ap (λ k. get_or after k 0) same in omega arith
    ]

pub joined_all : (before after : List ℕ) (place : ℕ) → Joined before after place → (s : ℕ) → Contains before s → s ≤ place → Contains after s
joined_all before after place j s (k, within, is) small =
    elim (cases_lt k (length after)) [
      | inl lt ↦ (k, lt, ap (λ xs. get_or xs k s) j.front ∙ get_or-take (length after) before k s lt ∙ is)
      | inr ge ↦ let past : place < get_or before k 0 = j.dropped k ge within in let at : get_or before k 0 ≡ s = get_or_default before k 0 s within ∙ is in absurd (omega arith)
    ]

-- ---- the three cases of a target

pub follow_unseen : (rows : List (List ℕ)) (marks : List Mark) (path starts : List ℕ) (pending : List (ℕ × ℕ)) (labelled v : ℕ)
    → IsFollowing rows marks path starts pending labelled v → v < length rows → mark_of marks v ≡ Unseen
    → IsSound rows (set marks v (Open (length path))) (path ++ v ∷ []) (starts ++ length path ∷ []) (pending ++ waiting (length path) (get_or rows v [])) labelled
follow_unseen rows marks path starts pending labelled v f within is =
    let in' : v < length marks = omega (arith, f.long) in
    let weight : get_or (ones rows) v 0 + weigh (ones rows) (set marks v (Open (length path))) ≡ weigh (ones rows) marks
    = weigh_entered (ones rows) marks v (length path) in' is in
    let one : get_or (ones rows) v 0 ≡ 1 = get_or-map (λ row. 1) rows v [] 0 within in
    record {
      search = entered rows marks path starts pending labelled v f.search in' is
          (λ q q_in.
          way_on (get_or path q 0) (get_or path f.place 0) v (f.search.way q f.place q_in f.within (λ s in' lt. absurd (let le : s ≤ f.place = f.last s in' in omega arith)))
          (go (get_or path f.place 0) v v f.edge (stay v)));
      long = length-set marks v (Open (length path)) ∙ f.long;
      room = omega (arith, f.room, length_push starts (length path));
    }

pub less_unseen : (rows : List (List ℕ)) (marks : List Mark) (path starts : List ℕ) (pending : List (ℕ × ℕ)) (v : ℕ)
    → length marks ≡ length rows → v < length rows → mark_of marks v ≡ Unseen
    → work rows (set marks v (Open (length path))) (starts ++ length path ∷ []) (pending ++ waiting (length path) (get_or rows v [])) ≤ work rows marks starts pending
less_unseen rows marks path starts pending v long within is =
    let weight : get_or (loads rows) v 0 + weigh (loads rows) (set marks v (Open (length path))) ≡ weigh (loads rows) marks
    = weigh_entered (loads rows) marks v (length path) (omega (arith, long)) is in
    let load : get_or (loads rows) v 0 ≡ length (get_or rows v []) + 2 = get_or-map (λ row. length row + 2) rows v [] 0 within in
    let edges : length (pending ++ waiting (length path) (get_or rows v [])) ≡ length pending + length (get_or rows v [])
    = length-append pending (waiting (length path) (get_or rows v [])) ∙ ap (λ n. length pending + n) (length-map (get_or rows v []) (λ w. (length path, w))) in
    omega (arith, length_push starts (length path))

pub follow_open : (rows : List (List ℕ)) (marks : List Mark) (path starts fewer : List ℕ) (pending : List (ℕ × ℕ)) (labelled v q : ℕ)
    → IsFollowing rows marks path starts pending labelled v → mark_of marks v ≡ Open q → Joined starts fewer q
    → IsSound rows marks path fewer pending labelled
follow_open rows marks path starts fewer pending labelled v q f is j =
    let rise : AllPairs (λ s t. s < t) starts = f.search.begins.rise in
    let short : length fewer ≤ length starts = omega (arith, ap length j.front, length-take (length fewer) starts) in
    record {
      search = joined rows marks path starts fewer pending labelled v f.place q f.search is f.within f.edge f.last
          (joined_sub starts fewer q j) (joined_small starts fewer q j rise) (joined_all starts fewer q j) (joined_rise starts fewer q j rise);
      long = f.long;
      room = omega (arith, f.room);
    }

pub less_open : (rows : List (List ℕ)) (marks : List Mark) (starts fewer : List ℕ) (pending : List (ℕ × ℕ)) (q : ℕ) → Joined starts fewer q → work rows marks fewer pending ≤ work rows marks starts pending
less_open rows marks starts fewer pending q j = omega (arith, ap length j.front, length-take (length fewer) starts)

pub follow_labelled : (rows : List (List ℕ)) (marks : List Mark) (path starts : List ℕ) (pending : List (ℕ × ℕ)) (labelled v label : ℕ)
    → IsFollowing rows marks path starts pending labelled v → mark_of marks v ≡ Labelled label → IsSound rows marks path starts pending labelled
follow_labelled rows marks path starts pending labelled v label f is = record {
  search = passed rows marks path starts pending labelled v label f.search is;
  long = f.long;
  room = f.room;
}

-- ---- the last group has an edge left, or none

-- an edge is taken off
pub follow_next : (rows : List (List ℕ)) (marks : List Mark) (path starts fewer : List ℕ) (pending rest : List (ℕ × ℕ)) (labelled start place v : ℕ)
    → IsSound rows marks path starts pending labelled → starts ≡ fewer ++ start ∷ [] → start ≤ place → pending ≡ rest ++ (place, v) ∷ []
    → IsFollowing rows marks path starts rest labelled v
follow_next rows marks path starts fewer pending rest labelled start place v sound last le is =
    let search : IsSearch rows marks path starts (rest ++ (place, v) ∷ []) labelled = subst (λ w. IsSearch rows marks path starts w labelled) is sound.search in
    let edge : (place < length path) × IsSuccessor rows (get_or path place 0) v = search.waits.edge place v (Contains-push rest (place, v)) in
    record {
      search = popped rows marks path starts rest labelled place v search;
      long = sound.long;
      room = sound.room;
      place = place;
      within = edge.0;
      edge = edge.1;
      last = λ s h. contains_more (λ s. s ≤ place) fewer start
          (λ s old. let lt : s < start = pairs_last (λ s t. s < t) fewer start s (subst (λ xs. AllPairs (λ s t. s < t) xs) last sound.search.begins.rise) old in omega arith)
          le s (subst (λ xs. Contains xs s) last h);
    }

early_all : (rows : List (List ℕ)) (path : List ℕ) (pending : List (ℕ × ℕ)) (start : ℕ) → AllPairs {X = ℕ × ℕ} (λ e f. e.0 ≤ f.0) pending → AreEarly pending start → (p v : ℕ) → Contains pending (p, v) → p < start
early_all rows path pending start rise early p v (k, within, is) =
    let last : (get_or pending (length pending - 1) (p, v)).0 < start = early (length pending - 1) (p, v) (omega arith) in
    let at : (get_or pending k (p, v)).0 ≡ p = ap (λ e. e.0) is in
    elim (cases_lt k (length pending - 1)) [
      | inl lt ↦ let le : (get_or pending k (p, v)).0 ≤ (get_or pending (length pending - 1) (p, v)).0 = rise k (length pending - 1) (p, v) lt (omega arith) in omega arith
      | inr ge ↦
          let same : k ≡ length pending - 1 = omega arith in
          let e : (get_or pending k (p, v)).0 ≡ (get_or pending (length pending - 1) (p, v)).0 = ap (λ k. (get_or pending k (p, v)).0) same in omega arith
    ]

pub close_last : (rows : List (List ℕ)) (marks after : List Mark) (path starts fewer : List ℕ) (pending : List (ℕ × ℕ)) (label start : ℕ)
    → IsSound rows marks path starts pending label → starts ≡ fewer ++ start ∷ [] → AreEarly pending start
    → length after ≡ length marks → ((v : ℕ) → mark_of after v ≡ labelled_from label start (mark_of marks v))
    → IsSound rows after (take start path) fewer pending (label + 1)
close_last rows marks after path starts fewer pending label start sound last early long each =
    let search : IsSearch rows marks path (fewer ++ start ∷ []) pending label = subst (λ xs. IsSearch rows marks path xs pending label) last sound.search in
    let grown : length starts ≡ length fewer + 1 = ap length last ∙ length_push fewer start in
    record {
      search = shut rows marks after path fewer pending label start search (early_all rows path pending start search.waits.rise early) each;
      long = long ∙ sound.long;
      room = omega (arith, sound.room, weigh_shut (ones rows) marks after label start long each);
    }

pub less_close : (rows : List (List ℕ)) (marks after : List Mark) (starts fewer : List ℕ) (pending : List (ℕ × ℕ)) (label start : ℕ)
    → starts ≡ fewer ++ start ∷ [] → length after ≡ length marks → ((v : ℕ) → mark_of after v ≡ labelled_from label start (mark_of marks v))
    → work rows after fewer pending < work rows marks starts pending
less_close rows marks after starts fewer pending label start last long each =
    omega (arith, ap length last, length_push fewer start, weigh_shut (loads rows) marks after label start long each)

-- the mark that was read
pub read_mark : (rows : List (List ℕ)) (marks : List Mark) (v : ℕ) (x m : Mark) → length marks ≡ length rows → v < length rows → x ≡ get_or marks v x → x ≡ m → mark_of marks v ≡ m
read_mark rows marks v x m long within read is = sym (get_or_read marks v x (omega (arith, long, within)) read Unseen) ∙ is

pub less_same : (rows : List (List ℕ)) (marks m : List Mark) (starts s : List ℕ) (pending w : List (ℕ × ℕ)) (n : ℕ)
    → m ≡ marks → s ≡ starts → w ≡ pending → work rows marks starts pending ≤ n → work rows m s w ≤ n
less_same rows marks m starts s pending w n em es ew less =
    subst (λ m. work rows m s w ≤ n) (sym em) (subst (λ s. work rows marks s w ≤ n) (sym es) (subst (λ w. work rows marks starts w ≤ n) (sym ew) less))

-- the edges of the row that was read
pub row_read : (rows : List (List ℕ)) (v place : ℕ) (read row : List ℕ) (pending w : List (ℕ × ℕ)) → v < length rows → read ≡ get_or rows v read → row ≡ read
    → w ≡ pending ++ waiting place row → w ≡ pending ++ waiting place (get_or rows v [])
row_read rows v place read row pending w within is same e = e ∙ ap (λ row. pending ++ waiting place row) (same ∙ get_or_read rows v read within is [])

seen_choice : (b : Bool) (p label : ℕ) → IsSeen (cond b (Open p) (Labelled label))
seen_choice true p label = tt
seen_choice false p label = tt

-- closing leaves what was seen so
pub seen_closing : (label start : ℕ) (m : Mark) → IsSeen m → IsSeen (labelled_from label start m)
seen_closing label start Unseen h = h
seen_closing label start (Open p) h = seen_choice (nat_lt p start) p label
seen_closing label start (Labelled other) h = tt
