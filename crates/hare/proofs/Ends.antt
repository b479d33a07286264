-- How the end of a run follows from its parts.
use Rattle.std.proofs.Common.{◌≡◌, ℕ, ◌+◌, ◌≤◌, ◌<◌, List, [], ◌∷◌, ◌++◌, ◌-◌, ◌^◌, length, map, min, take, get_or, suc, zero, inl, inr, arith, refl, subst, sym, ap, ◌∙◌}
use Rattle.std.proofs.lemmas.List.{length-map}
use Rattle.hr_shelf.specs.Outside.{Store, Rose}
use Rattle.hr_files.specs.Read.{OnlyReads}
use Rattle.hr_files.specs.Replaced.{after_changes, name_of}
use Rattle.hr_files.specs.RolledBack.{RollsBack, RoseBy, backs}
use Rattle.hr_files.specs.declared.replacing.Change.{Change}
use Rattle.hare.specs.declared.status.Status.{Status}
use Rattle.hare.specs.Ends.{Ends, EndsWith, IsOffered}
use Rattle.hare.specs.Outsides.{IsKept, IsReplaced, IsTakenBack, IsWritten, Outside}
use Rattle.hare.specs.Report.{write_fault}
use Rattle.hare.specs.Steps.{IsGivenBack}

-- the report is written
stands : (words : List (List ℕ)) (before after : Outside) (status : Status) (text : List ℕ) → EndsWith words before.store after.store status text
    → IsWritten text before.output after.output → Ends words before after status
stands words before after Status.Done text ends w = (text, ends, w)
stands words before after Status.StepRefused text ends w = (text, ends, w)
stands words before after Status.BadWords text ends w = (text, ends, w)
stands words before after Status.BadScript text ends w = (text, ends, w)
stands words before after Status.NotAccepted text ends w = (text, ends, w)
stands words before after Status.ReadFault text ends w = (text, ends, w)
stands words before after Status.WriteFault text ends w = (text, ends, w)
stands words before after Status.ReportFault text ends w = absurd ends
stands words before after Status.Memory text ends w = absurd ends
stands words before after Status.OverLimit text ends w = (text, ends, w)

-- or the sink refuses it
pub told : (words : List (List ℕ)) (before after : Outside) (status : Status) (text : List ℕ) (result : Status) → EndsWith words before.store after.store status text
    → IsOffered text status before.output after.output result → Ends words before after result
told words before after status text result ends (inl (e, w)) = subst (Ends words before after) (sym e) (stands words before after status text ends w)
told words before after status text result ends (inr (e, broken)) = subst (Ends words before after) (sym e) (status, text, ends, broken)

-- no call leaves the files
pub untouched : (reads : ℕ) (store : Store) → IsKept reads store store
untouched reads store = record { told = refl; replaces = refl; calls = omega arith }

calls_later : (start now files : ℕ) → now ≤ start + 1 → now ≤ start + (files + 1)
calls_later start now files calls = omega (arith, calls)

-- the script was asked for
pub asked_for_script : (files : ℕ) (start now : Store) → OnlyReads start now → now.calls ≤ start.calls + 1 → IsKept (files + 1) start now
asked_for_script files start now only calls = record { told = only.told; replaces = only.replaces; calls = calls_later start.calls now.calls files calls }

calls_both : (start now after files : ℕ) → now ≤ start + 1 → after ≤ now + files → after ≤ start + (files + 1)
calls_both start now after files first rest = omega (arith, first, rest)

-- and then files
pub asked_for_files : (files : ℕ) (start now after : Store) → OnlyReads start now → now.calls ≤ start.calls + 1 → OnlyReads now after
    → after.calls ≤ now.calls + files → IsKept (files + 1) start after
asked_for_files files start now after first one rest more = record {
  told = rest.told ∙ first.told;
  replaces = rest.replaces ∙ first.replaces;
  calls = calls_both start.calls now.calls after.calls files one more;
}

calls_together : (start now after reads found changes : ℕ) → now ≤ start + reads → after ≤ now + found → found ≡ changes → after ≤ start + (reads + changes)
calls_together start now after reads found changes kept calls same = omega (arith, kept, calls, same)

-- files were read, and then replaced
pub replaces : (reads : ℕ) (names : List (List ℕ)) (found changes : List Change) (start now after : Store) → found ≡ changes → IsKept reads start now
    → after.told ≡ after_changes names now.told found → after.replace_faults ≡ now.replace_faults → after.calls ≤ now.calls + length found
    → IsReplaced reads names changes start after
replaces reads names found changes start now after same kept told counts calls = record {
  told = told ∙ ap (λ known. after_changes names known found) kept.told ∙ ap (after_changes names start.told) same;
  replaces = counts ∙ kept.replaces;
  calls = calls_together start.calls now.calls after.calls reads (length found) (length changes) kept.calls calls (ap length same);
}

calls_back : (start now mid after reads found back changes : ℕ) → now ≤ start + reads → mid ≤ now + found → after ≤ mid + back → found ≡ changes → back ≡ found
    → after ≤ start + (reads + (changes + changes))
calls_back start now mid after reads found back changes kept forth behind same as_many = omega (arith, kept, forth, behind, same, as_many)

rose_again : (limit before now times after : ℕ) → min (before + 1) limit ≤ now → min (now + times) limit ≤ after → min (before + (times + 1)) limit ≤ after
rose_again limit before now times after once more = omega (arith, once, more)

-- or not all of them, and the others were given their old texts again
pub takes_back : (reads : ℕ) (names olds : List (List ℕ)) (found back changes : List Change) (refused : ℕ) (lines text : List ℕ) (start now mid after : Store)
    → found ≡ changes → back ≡ backs olds found → IsKept reads start now → refused < length found
    → mid.told ≡ after_changes names now.told (take refused found) → Rose now.replace_faults mid.replace_faults → mid.calls ≤ now.calls + length found
    → (given : IsGivenBack names back refused lines mid after text) → IsTakenBack reads names olds changes refused given.stayed start after
takes_back reads names olds found back changes refused lines text start now mid after same are kept within stops rose calls given = record {
  within = subst (λ list. refused < length list) same within;
  told =
      let front : mid.told ≡ after_changes names start.told (take refused changes) =
      stops ∙ ap (λ known. after_changes names known (take refused found)) kept.told ∙ ap (λ list. after_changes names start.told (take refused list)) same in
      let behind : back ≡ backs olds changes = are ∙ ap (backs olds) same in
      subst (λ known. RollsBack names known (take refused (backs olds changes)) given.stayed after.told) front
      (subst (λ list. RollsBack names mid.told (take refused list) given.stayed after.told) behind given.told);
  replaces = subst (λ count. RoseBy (length given.stayed + 1) count after.replace_faults) kept.replaces
      (rose_again (2 ^ 64 - 1) now.replace_faults mid.replace_faults (length given.stayed) after.replace_faults rose given.replaces);
  calls = calls_back start.calls now.calls mid.calls after.calls reads (length found) (length back) (length changes) kept.calls calls given.calls (ap length same) (ap length are ∙ length-map found _);
}

-- the file of a change back is that of the change
pub same_name : (names olds : List (List ℕ)) (found : List Change) (refused : ℕ) → refused < length found
    → get_or names (get_or (map (λ change. change.file) (backs olds found)) refused 0) [] ≡ get_or (map (λ change. name_of names change) found) refused []
same_name names olds [] refused within = absurd (omega (arith, within))
same_name names olds (change ∷ found) zero within = refl
same_name names olds (change ∷ found) (suc refused) within = same_name names olds found refused (omega (arith, within))

-- what is said of it behind the lines of the commands
pub fault_text : (names olds : List (List ℕ)) (found back changes : List Change) (refused : ℕ) (lines text : List ℕ) (mid after : Store) → found ≡ changes → back ≡ backs olds found
    → refused < length found → (given : IsGivenBack names back refused lines mid after text)
    → text ≡ lines ++ write_fault (get_or (map (λ change. name_of names change) changes) refused []) (map (λ file. get_or names file []) given.stayed)
fault_text names olds found back changes refused lines text mid after same are within given =
    let stayed = map (λ file. get_or names file []) given.stayed in
    given.text_is ∙ ap (λ list. lines ++ write_fault (get_or names (get_or (map (λ change. change.file) list) refused 0) []) stayed) are
    ∙ ap (λ file. lines ++ write_fault file stayed) (same_name names olds found refused within)
    ∙ ap (λ list. lines ++ write_fault (get_or (map (λ change. name_of names change) list) refused []) stayed) same

taken_fewer : {X : Type 0} (n : ℕ) (xs : List X) → length (take n xs) ≤ length xs
taken_fewer zero xs = omega arith
taken_fewer (suc n) [] = omega arith
taken_fewer (suc n) (x ∷ xs) = let rest = taken_fewer n xs in omega (arith, rest)

-- a call for each of some of the changes
pub calls_taken : (before after n : ℕ) (all some : List Change) → some ≡ take n all → after ≤ before + length some → after ≤ before + length all
calls_taken before after n all some is calls =
    let fewer = taken_fewer n all in
    let same : length some ≡ length (take n all) = ap length is in
    omega (arith, fewer, same, calls)
