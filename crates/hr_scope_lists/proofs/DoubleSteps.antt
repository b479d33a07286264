-- The first double declaration that is computed is the first one.
use Rattle.std.proofs.Common.{◌≡◌, ℕ, zero, suc, ◌+◌, ◌<◌, List, [], ◌∷◌, ◌++◌, length, Bool, true, false, ◌&&◌, ◌⊎◌, inl, inr, refl, sym, ◌∙◌, ap, subst, arith, Some, None, true≢false, append_assoc, length-append}
use Rattle.std.specs.Prelude.{Option, slice_get, ◌↔◌, if◌then◌else◌}
use Rattle.std.specs.Bool.{Decides}
use Rattle.std.specs.Str.{bytes_eq}
use Rattle.std.proofs.lemmas.Bool.Decides.{Decides-and, Decides-like}
use Rattle.std.proofs.lemmas.Slice.Eq.{bytes_eq-Decides}
use Rattle.std.proofs.lemmas.Option.{slice_get_within}
use Rattle.hr_base.specs.declared.bind.Space.{Space}
use Rattle.hr_scope_rules.specs.declared.role.Role.{Role}
use Rattle.hr_scope_rules.specs.Regions.{Placed}
use Rattle.hr_scope_rules.specs.Doubles.{IsOnce, AreDouble, IsFirstDouble}
use Rattle.hr_scope_lists.specs.Found.{same_regions}
use Rattle.hr_scope_lists.specs.Doubles.{same_once, are_double, one_later, first_of, pair_or, double_behind, first_double}
use Rattle.hr_scope_lists.proofs.Members.{same_some}
use Rattle.hr_scope_lists.proofs.Tests.{space_decides}
use Rattle.hr_scope_lists.proofs.RegionSteps.{regions_decide}

fixed_space : (a b : Space) → Role.Fixes a ≡ Role.Fixes b → a ≡ b
fixed_space a b e = cc

declared_space : (a b : Space) → Role.Declares a ≡ Role.Declares b → a ≡ b
declared_space a b e = cc

-- the test of the roles, for a first one that counts
once_true : (a b : Role) → same_once a b ≡ true → IsOnce a × (a ≡ b)
once_true (Role.Declares a) (Role.Declares b) e = (tt, ap Role.Declares ((space_decides a b).0 e))
once_true (Role.Declares a) Role.Plain e = absurd (true≢false (sym e))
once_true (Role.Declares a) (Role.Uses b) e = absurd (true≢false (sym e))
once_true (Role.Declares a) Role.GoesOn e = absurd (true≢false (sym e))
once_true (Role.Declares a) Role.Signs e = absurd (true≢false (sym e))
once_true (Role.Declares a) (Role.Fixes b) e = absurd (true≢false (sym e))
once_true (Role.Declares a) Role.Parameter e = absurd (true≢false (sym e))
once_true (Role.Declares a) (Role.Exported b) e = absurd (true≢false (sym e))
once_true (Role.Declares a) (Role.ExportedPart b) e = absurd (true≢false (sym e))
once_true (Role.Declares a) (Role.Imported b c) e = absurd (true≢false (sym e))
once_true (Role.Declares a) (Role.ImportedPart b c) e = absurd (true≢false (sym e))
once_true (Role.Declares a) (Role.Hidden b) e = absurd (true≢false (sym e))
once_true Role.Signs Role.Signs e = (tt, refl)
once_true Role.Signs (Role.Declares b) e = absurd (true≢false (sym e))
once_true Role.Signs Role.Plain e = absurd (true≢false (sym e))
once_true Role.Signs (Role.Uses b) e = absurd (true≢false (sym e))
once_true Role.Signs Role.GoesOn e = absurd (true≢false (sym e))
once_true Role.Signs (Role.Fixes b) e = absurd (true≢false (sym e))
once_true Role.Signs Role.Parameter e = absurd (true≢false (sym e))
once_true Role.Signs (Role.Exported b) e = absurd (true≢false (sym e))
once_true Role.Signs (Role.ExportedPart b) e = absurd (true≢false (sym e))
once_true Role.Signs (Role.Imported b c) e = absurd (true≢false (sym e))
once_true Role.Signs (Role.ImportedPart b c) e = absurd (true≢false (sym e))
once_true Role.Signs (Role.Hidden b) e = absurd (true≢false (sym e))
once_true (Role.Fixes a) (Role.Fixes b) e = (tt, ap Role.Fixes ((space_decides a b).0 e))
once_true (Role.Fixes a) (Role.Declares b) e = absurd (true≢false (sym e))
once_true (Role.Fixes a) Role.Plain e = absurd (true≢false (sym e))
once_true (Role.Fixes a) (Role.Uses b) e = absurd (true≢false (sym e))
once_true (Role.Fixes a) Role.GoesOn e = absurd (true≢false (sym e))
once_true (Role.Fixes a) Role.Signs e = absurd (true≢false (sym e))
once_true (Role.Fixes a) Role.Parameter e = absurd (true≢false (sym e))
once_true (Role.Fixes a) (Role.Exported b) e = absurd (true≢false (sym e))
once_true (Role.Fixes a) (Role.ExportedPart b) e = absurd (true≢false (sym e))
once_true (Role.Fixes a) (Role.Imported b c) e = absurd (true≢false (sym e))
once_true (Role.Fixes a) (Role.ImportedPart b c) e = absurd (true≢false (sym e))
once_true (Role.Fixes a) (Role.Hidden b) e = absurd (true≢false (sym e))
once_true Role.Parameter Role.Parameter e = (tt, refl)
once_true Role.Parameter (Role.Declares b) e = absurd (true≢false (sym e))
once_true Role.Parameter Role.Plain e = absurd (true≢false (sym e))
once_true Role.Parameter (Role.Uses b) e = absurd (true≢false (sym e))
once_true Role.Parameter Role.GoesOn e = absurd (true≢false (sym e))
once_true Role.Parameter Role.Signs e = absurd (true≢false (sym e))
once_true Role.Parameter (Role.Fixes b) e = absurd (true≢false (sym e))
once_true Role.Parameter (Role.Exported b) e = absurd (true≢false (sym e))
once_true Role.Parameter (Role.ExportedPart b) e = absurd (true≢false (sym e))
once_true Role.Parameter (Role.Imported b c) e = absurd (true≢false (sym e))
once_true Role.Parameter (Role.ImportedPart b c) e = absurd (true≢false (sym e))
once_true Role.Parameter (Role.Hidden b) e = absurd (true≢false (sym e))
once_true Role.Plain b e = absurd (true≢false (sym e))
once_true (Role.Uses a) b e = absurd (true≢false (sym e))
once_true Role.GoesOn b e = absurd (true≢false (sym e))
once_true (Role.Exported a) b e = absurd (true≢false (sym e))
once_true (Role.ExportedPart a) b e = absurd (true≢false (sym e))
once_true (Role.Imported a c) b e = absurd (true≢false (sym e))
once_true (Role.ImportedPart a c) b e = absurd (true≢false (sym e))
once_true (Role.Hidden a) b e = absurd (true≢false (sym e))

once_same : (a : Role) → IsOnce a → same_once a a ≡ true
once_same (Role.Declares space) h = (space_decides space space).1 refl
once_same Role.Signs h = refl
once_same (Role.Fixes space) h = (space_decides space space).1 refl
once_same Role.Parameter h = refl
once_same Role.Plain h = absurd h
once_same (Role.Uses space) h = absurd h
once_same Role.GoesOn h = absurd h
once_same (Role.Exported space) h = absurd h
once_same (Role.ExportedPart ty) h = absurd h
once_same (Role.Imported origin space) h = absurd h
once_same (Role.ImportedPart origin ty) h = absurd h
once_same (Role.Hidden origin) h = absurd h

-- two lexemes of which one region has one alone
pub record Repeats (one other : Placed) : Type 0 where
  pub counts : IsOnce one.role
  pub same_role : one.role ≡ other.role
  pub same_region : one.regions ≡ other.regions
  pub same_text : one.item.lexeme.text ≡ other.item.lexeme.text

once_decides : (a b : Role) → Decides (same_once a b) (IsOnce a × (a ≡ b))
once_decides a b = (once_true a b, λ h. ap (same_once a) (sym h.1) ∙ once_same a h.0)

repeats_decides : (one other : Placed) → Decides (are_double one other) (Repeats one other)
repeats_decides one other =
    Decides-like (are_double one other)
    (λ h. record { counts = h.0.0; same_role = h.0.1; same_region = h.1.0; same_text = h.1.1 })
    (λ r. ((r.counts, r.same_role), (r.same_region, r.same_text)))
    (Decides-and (same_once one.role other.role) (same_regions one.regions other.regions && bytes_eq one.item.lexeme.text other.item.lexeme.text)
    (once_decides one.role other.role)
    (Decides-and (same_regions one.regions other.regions) (bytes_eq one.item.lexeme.text other.item.lexeme.text) (regions_decide one.regions other.regions)
    (bytes_eq-Decides one.item.lexeme.text other.item.lexeme.text)))

-- the first that a lexeme repeats
pub record FirstOf (mark : Placed) (marks : List Placed) (number : ℕ) : Type 0 where
  pub one : Placed
  pub at : slice_get marks number ≡ Some one
  pub repeats : Repeats one mark
  pub first : (k : ℕ) (other : Placed) → k < number → slice_get marks k ≡ Some other → Repeats other mark → ⊥

behind_some : (o : Option ℕ) (number : ℕ) → one_later o ≡ Some number → (k : ℕ) × (o ≡ Some k) × (suc k ≡ number)
behind_some None number e = let clash : ◌≡◌ {A = Option ℕ} None (Some number) = e in cc
behind_some (Some k) number e = (k, refl, same_some (suc k) number e)

first_is : (mark : Placed) (marks : List Placed) (number : ℕ) → first_of mark marks ≡ Some number → FirstOf mark marks number
first_is mark [] number e = let clash : ◌≡◌ {A = Option ℕ} None (Some number) = e in cc
first_is mark (one ∷ rest) number e = by (are_double one mark) refl e (λ k is. first_is mark rest k is)
  where
    later : (k : ℕ) → FirstOf mark rest k → are_double one mark ≡ false → FirstOf mark (one ∷ rest) (suc k)
    later k f no_first = record {
      one = f.one;
      at = f.at;
      repeats = f.repeats;
      first = λ j other. earlier j other;
    }
      where
        earlier : (j : ℕ) (other : Placed) → j < suc k → slice_get (one ∷ rest) j ≡ Some other → Repeats other mark → ⊥
        earlier zero other within at r =
            let same : one ≡ other = same_some one other at in
            true≢false (sym ((repeats_decides one mark).1 (subst (λ p. Repeats p mark) (sym same) r)) ∙ no_first)
        earlier (suc j) other within at r = f.first j other (omega arith) at r

    by : (b : Bool) → are_double one mark ≡ b → ◌≡◌ {A = Option ℕ} (if b then Some 0 else one_later (first_of mark rest)) (Some number)
        → ((k : ℕ) → first_of mark rest ≡ Some k → FirstOf mark rest k) → FirstOf mark (one ∷ rest) number
    by true test is below =
        let zero_is : 0 ≡ number = same_some 0 number is in
        subst (FirstOf mark (one ∷ rest)) zero_is (record {
          one = one;
          at = refl;
          repeats = (repeats_decides one mark).0 test;
          first = λ k other within at r. absurd (omega (arith, within));
        })
    by false test is below =
        let found = behind_some (first_of mark rest) number is in
        subst (FirstOf mark (one ∷ rest)) found.2 (later found.0 (below found.0 found.1) test)

none_first : (mark : Placed) (marks : List Placed) → first_of mark marks ≡ None → (k : ℕ) (other : Placed) → slice_get marks k ≡ Some other → Repeats other mark → ⊥
none_first mark [] e k other at r = let clash : ◌≡◌ {A = Option Placed} None (Some other) = at in cc
none_first mark (one ∷ rest) e k other at r = by (are_double one mark) refl e k at (λ is j at. none_first mark rest is j other at r)
  where
    behind_none : (o : Option ℕ) → one_later o ≡ None → o ≡ None
    behind_none None e = refl
    behind_none (Some number) e = let clash : ◌≡◌ {A = Option ℕ} (Some (suc number)) None = e in cc

    by : (b : Bool) → are_double one mark ≡ b → ◌≡◌ {A = Option ℕ} (if b then Some 0 else one_later (first_of mark rest)) None
        → (k : ℕ) → slice_get (one ∷ rest) k ≡ Some other → (first_of mark rest ≡ None → (j : ℕ) → slice_get rest j ≡ Some other → ⊥) → ⊥
    by true test is k at below = let clash : ◌≡◌ {A = Option ℕ} (Some 0) None = is in cc
    by false test is zero at below =
        let same : one ≡ other = same_some one other at in
        true≢false (sym ((repeats_decides one mark).1 (subst (λ p. Repeats p mark) (sym same) r)) ∙ test)
    by false test is (suc k) at below = below (behind_none (first_of mark rest) is) k at

append_nothing : (xs : List Placed) → xs ++ [] ≡ xs
append_nothing [] = refl
append_nothing (x ∷ xs) = ap (λ (rest : List Placed). x ∷ rest) (append_nothing xs)

-- what stands in a list and one behind it
get_left : (xs ys : List Placed) (k : ℕ) (x : Placed) → slice_get xs k ≡ Some x → slice_get (xs ++ ys) k ≡ Some x
get_left [] ys k x e = let clash : ◌≡◌ {A = Option Placed} None (Some x) = e in cc
get_left (y ∷ xs) ys zero x e = e
get_left (y ∷ xs) ys (suc k) x e = get_left xs ys k x e

get_of_left : (xs ys : List Placed) (k : ℕ) (x : Placed) → k < length xs → slice_get (xs ++ ys) k ≡ Some x → slice_get xs k ≡ Some x
get_of_left [] ys k x within e = absurd (omega (arith, within))
get_of_left (y ∷ xs) ys zero x within e = e
get_of_left (y ∷ xs) ys (suc k) x within e = get_of_left xs ys k x (omega (arith, within)) e

get_middle : (xs : List Placed) (y : Placed) (ys : List Placed) → slice_get (xs ++ y ∷ ys) (length xs) ≡ Some y
get_middle [] y ys = refl
get_middle (x ∷ xs) y ys = get_middle xs y ys

-- no double declaration ends among the first lexemes
abbrev NoneAmong : List Placed → ℕ → Type 0
NoneAmong marks count = (first second : ℕ) → AreDouble marks first second → second < count → ⊥

module _ (marks : List Placed) where
  double_of : (before : List Placed) (mark : Placed) (rest : List Placed) → before ++ mark ∷ rest ≡ marks → (number : ℕ) → FirstOf mark before number → AreDouble marks number (length before)
  double_of before mark rest whole number f = record {
    in_order = slice_get_within before number f.one f.at;
    one = f.one;
    other = mark;
    first_is = subst (λ ms. slice_get ms number ≡ Some f.one) whole (get_left before (mark ∷ rest) number f.one f.at);
    second_is = subst (λ ms. slice_get ms (length before) ≡ Some mark) whole (get_middle before mark rest);
    counts = f.repeats.counts;
    same_role = f.repeats.same_role;
    same_region = f.repeats.same_region;
    same_text = f.repeats.same_text;
  }

  -- what a double that ends with this lexeme says of those before it
  repeated : (before : List Placed) (mark : Placed) (rest : List Placed) → before ++ mark ∷ rest ≡ marks → (first second : ℕ) → second ≡ length before → (d : AreDouble marks first second)
      → (slice_get before first ≡ Some d.one) × Repeats d.one mark
  repeated before mark rest whole first second is d =
      let at_first : slice_get (before ++ mark ∷ rest) first ≡ Some d.one = subst (λ ms. slice_get ms first ≡ Some d.one) (sym whole) d.first_is in
      let at_second : slice_get (before ++ mark ∷ rest) second ≡ Some d.other = subst (λ ms. slice_get ms second ≡ Some d.other) (sym whole) d.second_is in
      let middle : slice_get (before ++ mark ∷ rest) second ≡ Some mark = subst (λ n. slice_get (before ++ mark ∷ rest) n ≡ Some mark) (sym is) (get_middle before mark rest) in
      let same : d.other ≡ mark = same_some d.other mark (sym at_second ∙ middle) in
      let within : first < length before = omega (arith, d.in_order, is) in (
        get_of_left before (mark ∷ rest) first d.one within at_first,
        record {
          counts = d.counts;
          same_role = d.same_role ∙ ap (λ (p : Placed). p.role) same;
          same_region = d.same_region ∙ ap (λ (p : Placed). p.regions) same;
          same_text = d.same_text ∙ ap (λ (p : Placed). p.item.lexeme.text) same;
        },
      )

  none_more : (before : List Placed) (mark : Placed) (rest : List Placed) → before ++ mark ∷ rest ≡ marks → first_of mark before ≡ None → NoneAmong marks (length before)
      → NoneAmong marks (length (before ++ mark ∷ []))
  none_more before mark rest whole e none first second d within =
      let long : length (before ++ mark ∷ []) ≡ length before + 1 = length-append before (mark ∷ []) in
      by (split_at second (length before) (omega (arith, within, long)))
    where
      split_at : (a b : ℕ) → a < b + 1 → (a < b) ⊎ (a ≡ b)
      split_at a b h = grind arith

      by : (second < length before) ⊎ (second ≡ length before) → ⊥
      by (inl earlier) = none first second d earlier
      by (inr is) = let r = repeated before mark rest whole first second is d in none_first mark before e first d.one r.0 r.1

  regroup : (before : List Placed) (mark : Placed) (rest : List Placed) → before ++ mark ∷ rest ≡ marks → (before ++ mark ∷ []) ++ rest ≡ marks
  regroup before mark rest whole = append_assoc before (mark ∷ []) rest ∙ whole

  sound : (rest before : List Placed) → before ++ rest ≡ marks → NoneAmong marks (length before) → (first second : ℕ) → double_behind before rest ≡ Some (first, second)
      → IsFirstDouble marks first second
  sound [] before whole none first second e = let clash : ◌≡◌ {A = Option (ℕ × ℕ)} None (Some (first, second)) = e in cc
  sound (mark ∷ rest) before whole none first second e = by (first_of mark before) refl e (sound rest (before ++ mark ∷ []) (regroup before mark rest whole))
    where
      found : (number : ℕ) → FirstOf mark before number → IsFirstDouble marks number (length before)
      found number f = record {
        double = double_of before mark rest whole number f;
        none_before = λ other another d earlier. none other another d earlier;
        first_of_it = λ other d earlier. let r = repeated before mark rest whole other (length before) refl d in f.first other d.one earlier r.0 r.1;
      }

      pair_first : (a b c d : ℕ) → ◌≡◌ {A = Option (ℕ × ℕ)} (Some (a, b)) (Some (c, d)) → ◌≡◌ {A = ℕ × ℕ} (a, b) (c, d)
      pair_first a b c d p = cc

      by : (o : Option ℕ) → first_of mark before ≡ o → pair_or o (length before) (double_behind (before ++ mark ∷ []) rest) ≡ Some (first, second)
          → (NoneAmong marks (length (before ++ mark ∷ [])) → (f s : ℕ) → double_behind (before ++ mark ∷ []) rest ≡ Some (f, s) → IsFirstDouble marks f s)
          → IsFirstDouble marks first second
      by None is e below = below (none_more before mark rest whole is none) first second e
      by (Some number) is e below =
          let same = pair_first number (length before) first second e in
          let P : ℕ × ℕ → Type 0 = λ p. IsFirstDouble marks p.0 p.1 in
          subst P same (found number (first_is mark before number is))

  none_at_all : (rest before : List Placed) → before ++ rest ≡ marks → NoneAmong marks (length before) → double_behind before rest ≡ None → NoneAmong marks (length marks)
  none_at_all [] before whole none e =
      let same : before ≡ marks = sym (append_nothing before) ∙ whole in
      subst (λ ms. NoneAmong marks (length ms)) same none
  none_at_all (mark ∷ rest) before whole none e = by (first_of mark before) refl e (none_at_all rest (before ++ mark ∷ []) (regroup before mark rest whole))
    where
      by : (o : Option ℕ) → first_of mark before ≡ o → pair_or o (length before) (double_behind (before ++ mark ∷ []) rest) ≡ None
          → (NoneAmong marks (length (before ++ mark ∷ [])) → double_behind (before ++ mark ∷ []) rest ≡ None → NoneAmong marks (length marks)) → NoneAmong marks (length marks)
      by None is e below = below (none_more before mark rest whole is none) e
      by (Some number) is e below = let clash : ◌≡◌ {A = Option (ℕ × ℕ)} (Some (number, length before)) None = e in cc

nothing_among : (marks : List Placed) → NoneAmong marks 0
nothing_among marks first second d within = absurd (omega (arith, within))

-- there is one first double at most
first_unique : (marks : List Placed) (first second f s : ℕ) → IsFirstDouble marks first second → IsFirstDouble marks f s → (f ≡ first) × (s ≡ second)
first_unique marks first second f s a b = (starts, ends)
  where
    ends : s ≡ second
    ends = by (cases s second)
      where
        cases : (m n : ℕ) → (m < n) ⊎ ((n < m) ⊎ (m ≡ n))
        cases m n = grind arith

        by : (s < second) ⊎ ((second < s) ⊎ (s ≡ second)) → s ≡ second
        by (inl h) = absurd (a.none_before f s b.double h)
        by (inr (inl h)) = absurd (b.none_before first second a.double h)
        by (inr (inr h)) = h

    starts : f ≡ first
    starts = by (cases f first)
      where
        cases : (m n : ℕ) → (m < n) ⊎ ((n < m) ⊎ (m ≡ n))
        cases m n = grind arith

        by : (f < first) ⊎ ((first < f) ⊎ (f ≡ first)) → f ≡ first
        by (inl h) = absurd (a.first_of_it f (subst (AreDouble marks f) ends b.double) h)
        by (inr (inl h)) = absurd (b.first_of_it first (subst (AreDouble marks first) (sym ends) a.double) h)
        by (inr (inr h)) = h

pub doubles_agree : (marks : List Placed) (first second : ℕ) → (first_double marks ≡ Some (first, second)) ↔ IsFirstDouble marks first second
doubles_agree marks first second = (sound marks marks [] refl (nothing_among marks) first second, λ h. by (first_double marks) refl h)
  where
    by : (o : Option (ℕ × ℕ)) → first_double marks ≡ o → IsFirstDouble marks first second → first_double marks ≡ Some (first, second)
    by None is h =
        absurd (none_at_all marks marks [] refl (nothing_among marks) is first second h.double
        (slice_get_within marks second h.double.other h.double.second_is))
    by (Some (f, s)) is h =
        let same = first_unique marks first second f s h (sound marks marks [] refl (nothing_among marks) f s is) in
        is ∙ (λ k. Some (same.0 k, same.1 k))
