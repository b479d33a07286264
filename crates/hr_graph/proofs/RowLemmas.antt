-- The rows of a graph, one edge at a time.
use Rattle.std.proofs.Common.{◌≡◌, ◌+◌, ◌<◌, ◌++◌, ◌∷◌, ℕ, [], List, length, take, get_or, replicate, set, arith, sym, ◌∙◌, ap, subst, refl, inl, inr}
use Rattle.std.specs.Prelude.{Contains}
use Rattle.std.proofs.lemmas.Bool.{cases_lt}
use Rattle.std.proofs.lemmas.List.{take_more, get_or_read, length-set, get_or-set_same, get_or-replicate, get_or_past, length-replicate}
use Rattle.std.proofs.lemmas.List.Elements.{Contains-push}
use Rattle.hr_graph.specs.Graph.{IsWithin}
use Rattle.hr_graph.specs.Rows.{AreRows}
use Rattle.hr_graph.proofs.Members.{contains_none, contains_more, contains_kept, at_set}

-- each of n empty rows is empty
pub empty_row : (n u : ℕ) → get_or (replicate n []) u [] ≡ (let e : List ℕ = [] in e)
empty_row n u =
    elim (cases_lt u n) [
      | inl lt ↦ get_or-replicate n u [] [] lt
      | inr ge ↦ get_or_past (replicate n []) u [] (omega (arith, length-replicate n (let e : List ℕ = [] in e), ge))
    ]

pub rows_none : (n : ℕ) → AreRows n [] (replicate n [])
rows_none n = record {
  length_is = length-replicate n [];
  sound = λ u v h. absurd (contains_none v (subst (λ r. Contains r v) (empty_row n u) h));
  complete = λ u v h. absurd (contains_none (u, v) h);
}

pub rows_more : (n : ℕ) (es : List (ℕ × ℕ)) (rows : List (List ℕ)) (u v : ℕ)
    → AreRows n es rows → u < length rows → AreRows n (es ++ (u, v) ∷ []) (set rows u (get_or rows u [] ++ v ∷ []))
rows_more n es rows u v are within = record {
  length_is = length-set rows u _ ∙ are.length_is;
  sound = at_set (λ a row. (b : ℕ) → Contains row b → Contains (es ++ (u, v) ∷ []) (a, b)) rows u (get_or rows u [] ++ v ∷ []) [] within
      (contains_more (λ b. Contains (es ++ (u, v) ∷ []) (u, b)) (get_or rows u []) v (λ b h. contains_kept es (u, v) (u, b) (are.sound u b h)) (Contains-push es (u, v)))
      (λ a ne b h. contains_kept es (u, v) (a, b) (are.sound a b h));
  complete = λ a b h. contains_more (λ e. Contains (get_or (set rows u (get_or rows u [] ++ v ∷ [])) e.0 []) e.1) es (u, v)
      (λ e old. at_set (λ c row. c ≡ e.0 → Contains row e.1) rows u (get_or rows u [] ++ v ∷ []) [] within
      (λ same. contains_kept (get_or rows u []) v e.1 (subst (λ c. Contains (get_or rows c []) e.1) (sym same) (are.complete e.0 e.1 old)))
      (λ c ne same. subst (λ c. Contains (get_or rows c []) e.1) (sym same) (are.complete e.0 e.1 old)) e.0 refl)
      (subst (λ row. Contains row v) (sym (get_or-set_same rows u (get_or rows u [] ++ v ∷ []) [] within)) (Contains-push (get_or rows u []) v))
      (a, b) h;
}

-- one edge of the list, as a loop takes it
pub rows_step : (n : ℕ) (es : List (ℕ × ℕ)) (i : ℕ) (rows : List (List ℕ)) (old new : List ℕ)
    → IsWithin n es → i < length es → AreRows n (take i es) rows
    → old ≡ get_or rows (get_or es i (0, 0)).0 old → new ≡ old ++ (get_or es i (0, 0)).1 ∷ []
    → AreRows n (take (i + 1) es) (set rows (get_or es i (0, 0)).0 new)
rows_step n es i rows old new ends within are read grown =
    let e : ℕ × ℕ = get_or es i (0, 0) in
    let lt : e.0 < length rows = omega (arith, (ends i (0, 0) within).0, are.length_is) in
    let same : new ≡ get_or rows e.0 [] ++ e.1 ∷ [] = grown ∙ ap (λ r. r ++ e.1 ∷ []) (get_or_read rows e.0 old lt read []) in
    subst (λ r. AreRows n (take (i + 1) es) (set rows e.0 r)) (sym same)
    (subst (λ t. AreRows n t (set rows e.0 (get_or rows e.0 [] ++ e.1 ∷ []))) (sym (take_more es i (0, 0) within)) (rows_more n (take i es) rows e.0 e.1 are lt))
