-- A file more is replaced.
use Rattle.std.proofs.Common.{◌≡◌, ◌≤◌, ◌+◌, ℕ, List, [], ◌∷◌, ◌++◌, take, drop, All, Option, suc, zero, refl, sym, ap, ◌∙◌, subst, arith}
use Rattle.hr_shelf.specs.Outside.{Files, StaysReady, Store, replaced}
use Rattle.hr_files.specs.Replaced.{IsReadyChange, after_changes, name_of}
use Rattle.hr_files.specs.declared.replacing.Change.{Change}
use Rattle.hr_files.proofs.Progress.{Replacing}
use Rattle.hr_files.proofs.ReadMore.{calls_more, suc_is}

after_more : (names : List (List ℕ)) (told : Option Files) (changes more : List Change) → after_changes names told (changes ++ more) ≡ after_changes names (after_changes names told changes) more
after_more names told [] more = refl
after_more names told (change ∷ changes) more = after_more names (replaced told (name_of names change) change.bytes) changes more

is_nil : {X : Type 0} → List X → Type 0
is_nil [] = Unit {0}
is_nil (x ∷ xs) = ⊥

no_cons : {X : Type 0} (x : X) (xs : List X) → [] ≡ x ∷ xs → ⊥
unfolding is_nil
no_cons x xs is = subst is_nil is tt

tail_of : {X : Type 0} (n : ℕ) (xs : List X) (x : X) (rest : List X) → drop n xs ≡ x ∷ rest → drop (suc n) xs ≡ rest
tail_of zero [] x rest is = absurd (no_cons x rest is)
tail_of zero (y ∷ xs) x rest is = ap (drop 1) is
tail_of (suc n) [] x rest is = absurd (no_cons x rest is)
tail_of (suc n) (y ∷ xs) x rest is = tail_of n xs x rest is

front_of : {X : Type 0} (n : ℕ) (xs : List X) (x : X) (rest : List X) → drop n xs ≡ x ∷ rest → take (suc n) xs ≡ take n xs ++ x ∷ []
front_of zero [] x rest is = absurd (no_cons x rest is)
front_of zero (y ∷ xs) x rest is = ap (take 1) is
front_of (suc n) [] x rest is = absurd (no_cons x rest is)
front_of (suc n) (y ∷ xs) x rest is = ap (λ front. y ∷ front) (front_of n xs x rest is)

ready_first : (ready names : List (List ℕ)) (change : Change) (rest : List Change) → All (IsReadyChange ready names) (change ∷ rest) → IsReadyChange ready names change
ready_first ready names change rest all = all 0 change (omega arith)

ready_rest : (ready later names : List (List ℕ)) (change : Change) (rest : List Change) → StaysReady ready later → All (IsReadyChange ready names) (change ∷ rest) → All (IsReadyChange later names) rest
ready_rest ready later names change rest stays all k d within = let is = all (suc k) d (omega arith) in (is.0, stays _ is.1)

pub replace_more : (names : List (List ℕ)) (changes : List Change) (before now after : Store) (done : ℕ) (change : Change) (rest : List Change)
    → Replacing names changes before now done (change ∷ rest) → after.told ≡ replaced now.told (name_of names change) change.bytes → StaysReady now.ready after.ready
    → after.replace_faults ≡ now.replace_faults → after.read_faults ≡ now.read_faults → after.calls ≤ now.calls + 1 → Replacing names changes before after (done + 1) rest
replace_more names changes before now after done change rest known told stays replaces reads calls = record {
  rest = subst (λ n. drop n changes ≡ rest) (suc_is done) (tail_of done changes change rest known.rest);
  count = let before = known.count in omega arith;
  front = told ∙ ap (λ t. replaced t (name_of names change) change.bytes) known.front ∙ sym (after_more names before.told (take done changes) (change ∷ []))
      ∙ ap (after_changes names before.told) (sym (subst (λ n. take n changes ≡ take done changes ++ change ∷ []) (suc_is done) (front_of done changes change rest known.rest)));
  whole = ap (λ t. after_changes names t rest) told ∙ known.whole;
  ready = ready_rest now.ready after.ready names change rest stays known.ready;
  stays = λ name is. stays name (known.stays name is);
  replaces = replaces ∙ known.replaces;
  reads = reads ∙ known.reads;
  calls = calls_more before.calls now.calls after.calls done known.calls calls;
}

-- the change that comes next has a name that is ready
pub next_ready : (names : List (List ℕ)) (changes : List Change) (before now : Store) (done : ℕ) (change : Change) (rest : List Change)
    → Replacing names changes before now done (change ∷ rest) → IsReadyChange now.ready names change
next_ready names changes before now done change rest known = ready_first now.ready names change rest known.ready
