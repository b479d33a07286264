-- A file more is read, and what is then known of all that were read.
use Rattle.std.proofs.Common.{◌≡◌, ◌≤◌, ◌<◌, ◌+◌, ℕ, List, [], ◌∷◌, ◌++◌, length, map, take, get_or, All, Option, Some, None, suc, zero, refl, sym, ap, ◌∙◌, subst, arith}
use Rattle.std.proofs.lemmas.List.{map-append, length-append, get_or-map}
use Rattle.std.proofs.lemmas.List.Elements.{All-append}
use Rattle.std.proofs.lemmas.List.Sums.{sum_by-append}
use Rattle.std.specs.List.{sum_by}
use Rattle.std.proofs.Math.Nat.{le_trans}
use Rattle.std.proofs.Math.Seq.{take-suc}
use Rattle.std.specs.FinMap.{get}
use Rattle.hr_base.specs.Limits.{module_limit}
use Rattle.hr_shelf.specs.Outside.{Files, HasBytes, IsReady, Store}
use Rattle.hr_files.specs.Read.{AreReady, HasTexts, OnlyReads, project_limit, total}
use Rattle.hr_files.proofs.Progress.{Progress}

pub only_more : (a b c : Store) → OnlyReads a b → OnlyReads b c → OnlyReads a c
only_more a b c first second = record {
  told = second.told ∙ first.told;
  replaces = second.replaces ∙ first.replaces;
  ready = λ name is. second.ready name (first.ready name is);
  reads = λ name. le_trans (first.reads name) (second.reads name);
}

all_one : {X : Type 0} (P : X → Type 0) (x : X) → P x → All P (x ∷ [])
all_one P x is zero d within = is
all_one P x is (suc k) d within = absurd (omega arith)

all_more : {X : Type 0} (P : X → Type 0) (xs : List X) (x : X) → All P xs → P x → All P (xs ++ x ∷ [])
all_more P xs x every is = All-append P xs (x ∷ []) every (all_one P x is)

length_one : (text : List ℕ) → sum_by length (text ∷ []) ≡ length text
length_one text = omega arith

total_more : (texts : List (List ℕ)) (text : List ℕ) → total (texts ++ text ∷ []) ≡ total texts + length text
total_more texts text = sum_by-append length texts (text ∷ []) ∙ ap (λ n. total texts + n) (length_one text)

has_more : (told : Option Files) (names texts : List (List ℕ)) (name text : List ℕ) → HasTexts told names texts → HasBytes told name text → HasTexts told (names ++ name ∷ []) (texts ++ text ∷ [])
has_more None names texts name text has reads = tt
has_more (Some files) names texts name text has reads =
    map-append (λ n. get files n) names (name ∷ [])
    ∙ ap (λ front. front ++ get files name ∷ []) has
    ∙ ap (λ last. map Some texts ++ last ∷ []) reads
    ∙ sym (map-append Some texts (text ∷ []))

ready_still : (ready later : List (List ℕ)) (names : List (List ℕ)) → ((name : List ℕ) → IsReady ready name → IsReady later name) → AreReady ready names → AreReady later names
ready_still ready later names stays are k d within = stays _ (are k d within)

pub suc_is : (n : ℕ) → suc n ≡ n + 1
suc_is n = omega arith

within_more : (n m : ℕ) → n < m → n + 1 ≤ m
within_more n m less = omega (arith, less)

pub calls_more : (before now after file : ℕ) → now ≤ before + file → after ≤ now + 1 → after ≤ before + (file + 1)
calls_more before now after file known calls = omega (arith, known, calls)

pub read_more : (names : List (List ℕ)) (before now after : Store) (file : ℕ) (texts : List (List ℕ)) (counted : ℕ) (name text : List ℕ)
    → Progress names before now file texts counted → file < length names → name ≡ get_or names file [] → OnlyReads now after → HasBytes now.told name text
    → length text ≤ module_limit → IsReady after.ready name → counted + length text ≤ project_limit → after.calls ≤ now.calls + 1 → Progress names before after (file + 1) (texts ++ text ∷ []) (counted + length text)
read_more names before now after file texts counted name text known within is only reads short ready few calls =
    let front : take (file + 1) names ≡ take file names ++ name ∷ [] = subst (λ n. take n names ≡ take file names ++ get_or names file [] ∷ []) (suc_is file) (take-suc names file [] within) ∙ ap (λ n. take file names ++ n ∷ []) (sym is) in
    let sums : counted + length text ≡ total (texts ++ text ∷ []) = ap (λ n. n + length text) known.counted ∙ sym (total_more texts text) in
    let told : HasBytes before.told name text = subst (λ told. HasBytes told name text) known.only.told reads in
    record {
      only = only_more before now after known.only only;
      ready = subst (AreReady after.ready) (sym front)
          (all_more (IsReady after.ready) (take file names) name (ready_still now.ready after.ready (take file names) only.ready known.ready) ready);
      told = subst (λ n. HasTexts before.told n (texts ++ text ∷ [])) (sym front) (has_more before.told (take file names) texts name text known.told told);
      each = all_more (λ t. length t ≤ module_limit) texts text known.each short;
      counted = sums;
      together = subst (λ n. n ≤ project_limit) sums few;
      count = length-append texts (text ∷ []) ∙ ap (λ n. n + 1) known.count;
      within = within_more file (length names) within;
      calls = calls_more before.calls now.calls after.calls file known.calls calls;
    }

-- the texts that were read are too long together
pub read_over : (names : List (List ℕ)) (before now after : Store) (file : ℕ) (texts : List (List ℕ)) (counted : ℕ) (name text : List ℕ)
    → Progress names before now file texts counted → file < length names → name ≡ get_or names file [] → HasBytes now.told name text
    → project_limit < counted + length text → (read : List (List ℕ)) × HasTexts before.told (take (length read) names) read × (project_limit < total read)
read_over names before now after file texts counted name text known within is reads many =
    let front : take (file + 1) names ≡ take file names ++ name ∷ [] = subst (λ n. take n names ≡ take file names ++ get_or names file [] ∷ []) (suc_is file) (take-suc names file [] within) ∙ ap (λ n. take file names ++ n ∷ []) (sym is) in
    let sums : counted + length text ≡ total (texts ++ text ∷ []) = ap (λ n. n + length text) known.counted ∙ sym (total_more texts text) in
    let told : HasBytes before.told name text = subst (λ told. HasBytes told name text) known.only.told reads in
    let count : length (texts ++ text ∷ []) ≡ file + 1 = length-append texts (text ∷ []) ∙ ap (λ n. n + 1) known.count in (
      texts ++ text ∷ [],
      subst (λ n. HasTexts before.told (take n names) (texts ++ text ∷ [])) (sym count)
          (subst (λ n. HasTexts before.told n (texts ++ text ∷ [])) (sym front) (has_more before.told (take file names) texts name text known.told told)),
      subst (λ n. project_limit < n) sums many,
    )

take_all : {X : Type 0} (n : ℕ) (xs : List X) → length xs ≤ n → take n xs ≡ xs
take_all zero [] short = refl
take_all zero (x ∷ xs) short = absurd (omega arith)
take_all (suc n) [] short = refl
take_all (suc n) (x ∷ xs) short = ap (λ rest. x ∷ rest) (take_all n xs (omega arith))

-- all were read
pub read_all : (names : List (List ℕ)) (before now : Store) (file : ℕ) (texts : List (List ℕ)) (counted : ℕ)
    → Progress names before now file texts counted → length names ≤ file → AreReady now.ready names × HasTexts before.told names texts
read_all names before now file texts counted known end =
    let whole : take file names ≡ names = take_all file names end in
    (subst (AreReady now.ready) whole known.ready, subst (λ n. HasTexts before.told n texts) whole known.told)

-- as many as there are names
pub count_all : (names : List (List ℕ)) (before now : Store) (file : ℕ) (texts : List (List ℕ)) (counted : ℕ)
    → Progress names before now file texts counted → length names ≤ file → length texts ≡ length names
count_all names before now file texts counted known end =
    let count = known.count in
    let within = known.within in
    omega (arith, count, within, end)

-- a name by its number
pub named : {X : Type 0} (f : X → List ℕ) (xs : List X) (i : ℕ) (x : X) → i < length xs → x ≡ get_or xs i x → f x ≡ get_or (map f xs) i []
named f xs i x within is = ap f is ∙ sym (get_or-map f xs i x [] within)
