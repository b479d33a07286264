-- Bytes that several writes append, one after another.
use Rattle.std.proofs.Common.{◌≡◌, ℕ, List, [], ◌++◌, Option, Some, None, take, drop, refl, sym, ap, subst, ◌∙◌, append_assoc, append-nil}
use Rattle.std.proofs.lemmas.List.{take-append-drop}
use Rattle.std.specs.Io.KnownBytes.{Appends}

-- of a piece all but the rest was appended
pub record Wrote (start now : Option (List ℕ)) (piece rest : List ℕ) : Type 0 where
  pub front : List ℕ
  pub parts : piece ≡ front ++ rest
  pub appends : Appends start now front

appends_none : (known : Option (List ℕ)) → Appends known known []
appends_none None = tt
appends_none (Some xs) = sym (append-nil xs)

appends_more : (start now later : Option (List ℕ)) (bytes more : List ℕ) → Appends start now bytes → Appends now later more → Appends start later (bytes ++ more)
appends_more None now later bytes more before after = tt
appends_more (Some xs) None later bytes more before after = absurd before
appends_more (Some xs) (Some ys) None bytes more before after = absurd after
appends_more (Some xs) (Some ys) (Some zs) bytes more before after = after ∙ ap (λ w. w ++ more) before ∙ append_assoc xs bytes more

pub wrote_nothing : (known : Option (List ℕ)) (piece : List ℕ) → Wrote known known piece piece
wrote_nothing known piece = record { front = []; parts = refl; appends = appends_none known }

pub wrote_more : (start now later : Option (List ℕ)) (piece rest : List ℕ) (count : ℕ) → Wrote start now piece rest → Appends now later (take count rest)
    → Wrote start later piece (drop count rest)
wrote_more start now later piece rest count before after = record {
  front = before.front ++ take count rest;
  parts = before.parts ∙ ap (λ w. before.front ++ w) (sym (take-append-drop count rest)) ∙ sym (append_assoc before.front (take count rest) (drop count rest));
  appends = appends_more start now later before.front (take count rest) before.appends after;
}

pub wrote_all : (start now : Option (List ℕ)) (piece rest : List ℕ) → Wrote start now piece rest → rest ≡ [] → Appends start now piece
wrote_all start now piece rest wrote none =
    subst (Appends start now) (sym (wrote.parts ∙ ap (λ w. wrote.front ++ w) none ∙ append-nil wrote.front)) wrote.appends
