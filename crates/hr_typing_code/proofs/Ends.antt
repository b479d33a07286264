-- Edges whose ends are below a number.
use Rattle.std.proofs.Common.{◌≡◌, ◌<◌, ◌++◌, ◌∷◌, [], ℕ, List, subst, sym}
use Rattle.std.proofs.lemmas.List.Elements.{All-nil, All-push}
use Rattle.hr_graph.specs.Graph.{IsWithin}

pub within_none : (n : ℕ) (edges : List (ℕ × ℕ)) → edges ≡ [] → IsWithin n edges
within_none n edges none = subst (IsWithin n) (sym none) (All-nil (λ e. (e.0 < n) × (e.1 < n)))

pub within_more : (n u v : ℕ) (edges more : List (ℕ × ℕ)) → IsWithin n edges → u < n → v < n → more ≡ edges ++ (u, v) ∷ [] → IsWithin n more
within_more n u v edges more all low high is =
    subst (IsWithin n) (sym is) (All-push (λ e. (e.0 < n) × (e.1 < n)) edges (u, v) all (low, high))
