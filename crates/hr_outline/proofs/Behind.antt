-- What is behind stretches that are read one after another is what is behind all of them.
use Rattle.std.proofs.Common.{◌≡◌, List, ◌++◌, fold, refl, ap, sym, ◌∙◌}
use Rattle.std.proofs.lemmas.List.Sums.{fold-append}

pub behind_four : {S I : Type 0} (f : S → I → S) (begun first second third fourth : S) (a b c d whole : List I) → whole ≡ a ++ (b ++ (c ++ d))
    → first ≡ fold f begun a → second ≡ fold f first b → third ≡ fold f second c → fourth ≡ fold f third d → fourth ≡ fold f begun whole
behind_four f begun first second third fourth a b c d whole w x y z u =
    u ∙ ap (λ s. fold f s d) (z ∙ ap (λ s. fold f s c) (y ∙ ap (λ s. fold f s b) x))
    ∙ sym (ap (fold f begun) w ∙ fold-append f begun a (b ++ (c ++ d)) ∙ fold-append f (fold f begun a) b (c ++ d) ∙ fold-append f (fold f (fold f begun a) b) c d)

-- a left side or a pattern, the region of a `where`, a body, the `where`, and what ends all
pub behind_rest : {S I : Type 0} (f : S → I → S) (begun first second third fourth last : S) (a b c d e whole : List I) → whole ≡ a ++ ((b ++ (c ++ d)) ++ e)
    → first ≡ fold f begun a → second ≡ fold f first b → third ≡ fold f second c → fourth ≡ fold f third d → last ≡ fold f fourth e → last ≡ fold f begun whole
behind_rest f begun first second third fourth last a b c d e whole w x y z u v =
    v ∙ ap (λ s. fold f s e) (behind_four f begun first second third fourth a b c d (a ++ (b ++ (c ++ d))) refl x y z u)
    ∙ sym (ap (fold f begun) w ∙ fold-append f begun a ((b ++ (c ++ d)) ++ e) ∙ fold-append f (fold f begun a) (b ++ (c ++ d)) e
    ∙ ap (λ s. fold f s e) (sym (fold-append f begun a (b ++ (c ++ d)))))
