-- A file more gets its old bytes again, or stays as it is.
use Rattle.std.proofs.Common.{◌≡◌, ◌≤◌, ◌+◌, ◌-◌, ◌^◌, ℕ, List, [], ◌∷◌, ◌++◌, length, All, Option, Some, min, take, refl, sym, ap, ◌∙◌, subst, append_assoc, append-nil, arith}
use Rattle.std.proofs.lemmas.List.{length-append}
use Rattle.std.proofs.lemmas.List.Elements.{All-pop}
use Rattle.hr_shelf.specs.Outside.{Files, Rose, StaysReady, Store, replaced}
use Rattle.hr_files.specs.Replaced.{IsReadyChange, name_of}
use Rattle.hr_files.specs.RolledBack.{RollsBack, RoseBy}
use Rattle.hr_files.specs.RolledBack.RollsBack.{back, nothing, stays}
use Rattle.hr_files.specs.declared.replacing.Change.{Change}

-- these changes are left to be tried, and those files were refused so far
pub record Rolling (names : List (List ℕ)) (changes : List Change) (before now : Store) (left : List Change) (stayed : List ℕ) : Type 0 where
  pub rolled : (more : List ℕ) (after : Option Files) → RollsBack names now.told left more after → RollsBack names before.told changes (stayed ++ more) after
  pub ready : All (IsReadyChange now.ready names) left
  pub count : length stayed + length left ≤ length changes
  pub replaces : RoseBy (length stayed) before.replace_faults now.replace_faults
  pub reads : now.read_faults ≡ before.read_faults
  pub calls : now.calls + length left ≤ before.calls + length changes

length_one_more : {X : Type 0} (xs : List X) (x : X) → length (xs ++ x ∷ []) ≡ length xs + 1
length_one_more xs x = length-append xs (x ∷ [])

min_more : (limit before times now after : ℕ) → min (before + times) limit ≤ now → min (now + 1) limit ≤ after → min (before + (times + 1)) limit ≤ after
min_more limit before times now after known rose = omega (arith, known, rose)

pub begins_rolling : (names : List (List ℕ)) (changes : List Change) (store : Store) → All (IsReadyChange store.ready names) changes → Rolling names changes store store changes []
begins_rolling names changes store ready = record {
  rolled = λ more after r. r;
  ready = ready;
  count = omega arith;
  replaces = omega arith;
  reads = refl;
  calls = omega arith;
}

-- the change that is tried next has a name that is ready
pub is_next : (names : List (List ℕ)) (changes : List Change) (before now : Store) (left rest : List Change) (change : Change) (stayed : List ℕ)
    → Rolling names changes before now left stayed → left ≡ rest ++ change ∷ [] → IsReadyChange now.ready names change
is_next names changes before now left rest change stayed known is = (All-pop (IsReadyChange now.ready names) left rest (Some change) is known.ready).1

ready_on : (names : List (List ℕ)) (changes : List Change) (before now after : Store) (left rest : List Change) (change : Change) (stayed : List ℕ)
    → Rolling names changes before now left stayed → left ≡ rest ++ change ∷ [] → StaysReady now.ready after.ready → All (IsReadyChange after.ready names) rest
ready_on names changes before now after left rest change stayed known is ready k d within =
    let one = (All-pop (IsReadyChange now.ready names) left rest (Some change) is known.ready).0 k d within in (one.0, ready _ one.1)

pub given_back : (names : List (List ℕ)) (changes : List Change) (before now after : Store) (left rest : List Change) (change : Change) (stayed : List ℕ)
    → Rolling names changes before now left stayed → left ≡ rest ++ change ∷ [] → after.told ≡ replaced now.told (name_of names change) change.bytes → StaysReady now.ready after.ready
    → after.replace_faults ≡ now.replace_faults → after.read_faults ≡ now.read_faults → after.calls ≤ now.calls + 1 → Rolling names changes before after rest stayed
given_back names changes before now after left rest change stayed known is told ready replaces reads calls =
    let shorter : length left ≡ length rest + 1 = ap length is ∙ length_one_more rest change in
    record {
      rolled = λ more last r. known.rolled more last (back now.told last left rest change more is (subst (λ t. RollsBack names t rest more last) told r));
      ready = ready_on names changes before now after left rest change stayed known is ready;
      count = let count = known.count in omega (arith, count, shorter);
      replaces = subst (RoseBy (length stayed) before.replace_faults) (sym replaces) known.replaces;
      reads = reads ∙ known.reads;
      calls = let first = known.calls in omega (arith, first, calls, shorter);
    }

pub stayed_new : (names : List (List ℕ)) (changes : List Change) (before now after : Store) (left rest : List Change) (change : Change) (stayed : List ℕ)
    → Rolling names changes before now left stayed → left ≡ rest ++ change ∷ [] → after.told ≡ now.told → StaysReady now.ready after.ready
    → Rose now.replace_faults after.replace_faults → after.read_faults ≡ now.read_faults → after.calls ≤ now.calls + 1 → Rolling names changes before after rest (stayed ++ change.file ∷ [])
stayed_new names changes before now after left rest change stayed known is told ready rose reads calls =
    let shorter : length left ≡ length rest + 1 = ap length is ∙ length_one_more rest change in
    let longer : length (stayed ++ change.file ∷ []) ≡ length stayed + 1 = length_one_more stayed change.file in
    record {
      rolled = λ more last r. subst (λ files. RollsBack names before.told changes files last) (sym (append_assoc stayed (change.file ∷ []) more))
          (known.rolled (change.file ∷ more) last (stays now.told last left rest change more is (subst (λ t. RollsBack names t rest more last) told r)));
      ready = ready_on names changes before now after left rest change stayed known is ready;
      count = let count = known.count in omega (arith, count, shorter, longer);
      replaces = subst (λ n. RoseBy n before.replace_faults after.replace_faults) (sym longer) (min_more (2 ^ 64 - 1) before.replace_faults (length stayed) now.replace_faults after.replace_faults known.replaces rose);
      reads = reads ∙ known.reads;
      calls = let first = known.calls in omega (arith, first, calls, shorter);
    }

pub ends_rolling : (names : List (List ℕ)) (changes : List Change) (before now : Store) (left : List Change) (stayed : List ℕ)
    → Rolling names changes before now left stayed → left ≡ [] → RollsBack names before.told changes stayed now.told
ends_rolling names changes before now left stayed known none =
    subst (λ files. RollsBack names before.told changes files now.told) (append-nil stayed)
    (known.rolled [] now.told (subst (λ cs. RollsBack names now.told cs [] now.told) (sym none) (nothing now.told)))

-- there is room for what is left
pub room_left : (stayed : List ℕ) (left rest : List Change) (change : Change) {room : ℕ} → left ≡ rest ++ change ∷ [] → length stayed + length left ≤ room → length stayed + length rest ≤ room
room_left stayed left rest change is room =
    let shorter : length left ≡ length rest + 1 = ap length is ∙ length_one_more rest change in
    omega (arith, room, shorter)

pub room_right : (stayed : List ℕ) (left rest : List Change) (change : Change) (more : List ℕ) (room now : ℕ) → left ≡ rest ++ change ∷ [] → more ≡ stayed ++ change.file ∷ []
    → now ≡ room → length stayed + length left ≤ room → length more + length rest ≤ now
room_right stayed left rest change more room now is grown same enough =
    let shorter : length left ≡ length rest + 1 = ap length is ∙ length_one_more rest change in
    let longer : length more ≡ length stayed + 1 = ap length grown ∙ length_one_more stayed change.file in
    omega (arith, enough, shorter, longer, same)

-- a list from whose end nothing is taken is empty
pub none_left : (old new : List Change) (n : ℕ) → old ≡ new ++ [] → new ≡ take (n - 1) old → n ≡ 0 → old ≡ []
none_left old new n is rest none = is ∙ append-nil new ∙ rest ∙ ap (λ k. take (k - 1) old) none
