-- The lexemes that are written for a type read as the type.
use Rattle.std.proofs.Common.{◌≡◌, ◌≢◌, ◌<◌, ◌≤◌, ◌⊎◌, ℕ, suc, zero, Bool, true, false, cond, eqb, nat_lt, ◌&&◌, ◌||◌, List, [], ◌∷◌, ◌++◌, length, map, codes, Option, Some, None, is_some, refl, sym, ap, subst, ◌∙◌, inl, inr, arith}
use Rattle.std.specs.List.{list_all, AllByRecursion as Each}
use Rattle.std.proofs.lemmas.Bool.{ltb-true, ltb-false, eqb-true}
use Rattle.std.proofs.lemmas.List.{length-map}
use Rattle.std.proofs.lemmas.Option.{slice_get-get_or}
use Rattle.std.proofs.lemmas.Bool.Decides.{eqb_tells}
use Rattle.hr_base.specs.declared.bind.Entity.{Entity}
use Rattle.hr_base.specs.declared.bind.Name.{Name}
use Rattle.hr_type.specs.declared.mono.Mono.{Mono}
use Rattle.hr_type.specs.declared.mono.Mono.TheVariants.{Var, Con, Fun}
use Rattle.hr_type.specs.declared.spell.TypeScope.{TypeScope}
use Rattle.hr_type.specs.declared.spell.Brackets.{Brackets}
use Rattle.hr_type.specs.Spelling as spec
use Rattle.hr_type.specs.Spelling.{Piece, blank, lexeme, lexemes_of, Written, written, within, brackets_of, is_spellable, has_arities}
use Rattle.hr_type.specs.Grammar.{ReadsType, Arguments, Lists, Follows, variable, constructor, enclosed, parenthesised, applied, arrow, lower, no_more, one_more, nothing, first, ends, comma}
use Rattle.hr_type.proofs.Terms.{every_type, value-var, value-con, value-fun}
use Rattle.hr_type.proofs.Spellings.{written_var, written_fun, written_enclosed, written_applied}

lexemes_of-append : (xs ys : List Piece) → lexemes_of (xs ++ ys) ≡ lexemes_of xs ++ lexemes_of ys
lexemes_of-append [] ys = refl
lexemes_of-append (blank ∷ xs) ys = lexemes_of-append xs ys
lexemes_of-append (lexeme text ∷ xs) ys = ap (λ x. text ∷ x) (lexemes_of-append xs ys)

and_parts : (a b : Bool) → (a && b) ≡ true → (a ≡ true) × (b ≡ true)
and_parts true b e = (refl, e)
and_parts false b e = absurd (cc)

module _ (scope : TypeScope) where
  -- what stands at a grade stands at each lower one
  downs : (xs : List (List ℕ)) (t : Mono) (g k : ℕ) → k ≤ g → ReadsType scope g xs t → ReadsType scope k xs t
  downs xs t zero k h r = let e : 0 ≡ k = omega arith in subst (λ n. ReadsType scope n xs t) e r
  downs xs t (suc g) k h r = by_cases (eqb_tells k (suc g)) (λ le. downs xs t g k le (lower g xs t r))
    where
      by_cases : ((eqb k (suc g) ≡ true) × (k ≡ suc g)) ⊎ ((eqb k (suc g) ≡ false) × (k ≢ suc g)) → (k ≤ g → ReadsType scope k xs t) → ReadsType scope k xs t
      by_cases (inl y) go = subst (λ n. ReadsType scope n xs t) (sym y.1) r
      by_cases (inr y) go = let ne : k ≡ suc g → ⊥ = y.1 in go (omega arith)

  ReadsAt : Written → Mono → Type 0
  ReadsAt w t = ReadsType scope w.grade (lexemes_of w.pieces) t

  -- where the grade is too low, parentheses raise it
  reads_within : (w : Written) (t : Mono) (least : ℕ) → least ≤ 2 → ReadsType scope w.grade (lexemes_of w.pieces) t → ReadsType scope least (lexemes_of (within least w)) t
  reads_within w t least small r = by_test (nat_lt w.grade least) refl
    where
      by_test : (b : Bool) → nat_lt w.grade least ≡ b → ReadsType scope least (lexemes_of (cond b (lexeme (codes "(") ∷ (w.pieces ++ lexeme (codes ")") ∷ [])) w.pieces)) t
      by_test true e =
          let whole : ReadsType scope 2 (codes "(" ∷ (lexemes_of w.pieces ++ codes ")" ∷ [])) t = parenthesised _ t (downs _ t w.grade 0 (omega arith) r) in
          downs _ t 2 least small (subst (λ xs. ReadsType scope 2 (codes "(" ∷ xs) t) (sym (lexemes_of-append w.pieces (lexeme (codes ")") ∷ []))) whole)
      by_test false e = downs _ t w.grade least (ltb-false w.grade least e) r

  Claim : Mono → Type 0
  Claim t = is_spellable scope t ≡ true → has_arities t ≡ true → ReadsType scope (written scope t).grade (lexemes_of (written scope t).pieces) t

  all_spellable : List Mono → Bool
  all_spellable ts = list_all (λ b. b) (map (is_spellable scope) ts)

  all_arities : List Mono → Bool
  all_arities ts = list_all (λ b. b) (map has_arities ts)

  arguments_read : (ts : List Mono) → Each Claim ts → all_spellable ts ≡ true → all_arities ts ≡ true → Arguments scope (lexemes_of (spec.arguments (map (written scope) ts))) ts
  unfolding Claim all_spellable all_arities
  arguments_read [] claims named fit = no_more
  arguments_read (t ∷ ts) claims named fit =
      let n = and_parts (is_spellable scope t) (list_all (λ b. b) (map (is_spellable scope) ts)) named in
      let f = and_parts (has_arities t) (list_all (λ b. b) (map has_arities ts)) fit in
      let here = reads_within (written scope t) t 2 (omega arith) (claims.0 n.0 f.0) in
      subst (λ xs. Arguments scope xs (t ∷ ts)) (sym (lexemes_of-append (within 2 (written scope t)) (spec.arguments (map (written scope) ts))))
      (one_more _ _ t ts here (arguments_read ts claims.1 n.1 f.1))

  rest_reads : (ts : List Mono) → Each Claim ts → all_spellable ts ≡ true → all_arities ts ≡ true → Follows scope (lexemes_of (spec.listed_rest (map (written scope) ts))) ts
  unfolding Claim all_spellable all_arities
  rest_reads [] claims named fit = ends
  rest_reads (t ∷ ts) claims named fit =
      let n = and_parts (is_spellable scope t) (list_all (λ b. b) (map (is_spellable scope) ts)) named in
      let f = and_parts (has_arities t) (list_all (λ b. b) (map has_arities ts)) fit in
      let here = downs _ t (written scope t).grade 0 (omega arith) (claims.0 n.0 f.0) in
      subst (λ xs. Follows scope (codes "," ∷ xs) (t ∷ ts)) (sym (lexemes_of-append (written scope t).pieces (spec.listed_rest (map (written scope) ts))))
      (comma _ _ t ts here (rest_reads ts claims.1 n.1 f.1))

  listed_reads : (ts : List Mono) → Each Claim ts → all_spellable ts ≡ true → all_arities ts ≡ true → Lists scope (lexemes_of (spec.listed (map (written scope) ts))) ts
  unfolding Claim all_spellable all_arities
  listed_reads [] claims named fit = nothing
  listed_reads (t ∷ ts) claims named fit =
      let n = and_parts (is_spellable scope t) (list_all (λ b. b) (map (is_spellable scope) ts)) named in
      let f = and_parts (has_arities t) (list_all (λ b. b) (map has_arities ts)) fit in
      let here = downs _ t (written scope t).grade 0 (omega arith) (claims.0 n.0 f.0) in
      subst (λ xs. Lists scope xs (t ∷ ts)) (sym (lexemes_of-append (written scope t).pieces (spec.listed_rest (map (written scope) ts))))
      (first _ _ t ts here (rest_reads ts claims.1 n.1 f.1))

  var_reads : (n : ℕ) → Claim (Var n)
  unfolding Claim
  var_reads n named fit =
      let inside : n < length scope.variables = ltb-true n (length scope.variables) (sym (value-var _ _ _ _ n) ∙ named) in
      let found = slice_get-get_or scope.variables n [] inside in
      subst (λ w. ReadsType scope w.grade (lexemes_of w.pieces) (Var n)) (sym (written_var scope (Var n) n refl ∙ ap (λ o. record { grade = 2; pieces = spec.variable_pieces o }) found))
      (variable n _ found)

  fun_reads : (a b : Mono) → Claim a → Claim b → Claim (Fun a b)
  unfolding Claim
  fun_reads a b claim_a claim_b named fit =
      let n = and_parts (is_spellable scope a) (is_spellable scope b) (sym (value-fun _ _ _ _ a b) ∙ named) in
      let f = and_parts (has_arities a) (has_arities b) (sym (value-fun _ _ _ _ a b) ∙ fit) in
      let left = reads_within (written scope a) a 1 (omega arith) (claim_a n.0 f.0) in
      let right = downs _ b (written scope b).grade 0 (omega arith) (claim_b n.1 f.1) in
      subst (λ w. ReadsType scope w.grade (lexemes_of w.pieces) (Fun a b)) (sym (written_fun scope (Fun a b) a b refl))
      (subst (λ xs. ReadsType scope 0 xs (Fun a b)) (sym (lexemes_of-append (within 1 (written scope a)) (blank ∷ lexeme (codes "->") ∷ blank ∷ (written scope b).pieces))) (arrow _ _ a b left right))

  -- a constructor with its arguments behind it
  applied_reads : (e : Entity) (name : Name) (ts : List Mono) → brackets_of e ≡ None → spec.name_for e scope.names ≡ Some name → Each Claim ts → all_spellable ts ≡ true → all_arities ts ≡ true
      → ReadsType scope (spec.applied_grade (map (written scope) ts)) (spec.name_text name ∷ lexemes_of (spec.arguments (map (written scope) ts))) (Con e ts)
  applied_reads e name [] q found claims named fit = constructor e name q found
  applied_reads e name (t ∷ ts) q found claims named fit = applied e name _ t ts q found (arguments_read (t ∷ ts) claims named fit)

  con_reads : (e : Entity) (ts : List Mono) → Each Claim ts → Claim (Con e ts)
  unfolding Claim all_spellable all_arities
  con_reads e ts claims named fit = by_brackets (brackets_of e) refl n.0 f.0
    where
      n : ((is_some (brackets_of e) || is_some (spec.name_for e scope.names)) ≡ true) × (list_all (λ b. b) (map (is_spellable scope) ts) ≡ true)
      n = and_parts _ _ (sym (value-con _ _ _ _ e ts) ∙ named)

      f : (spec.fits_arity e (length (map has_arities ts)) (brackets_of e) ≡ true) × (list_all (λ b. b) (map has_arities ts) ≡ true)
      f = and_parts _ _ (sym (value-con _ _ _ _ e ts) ∙ fit)

      by_name : brackets_of e ≡ None → (o : Option Name) → spec.name_for e scope.names ≡ o → is_some o ≡ true → ReadsType scope (written scope (Con e ts)).grade (lexemes_of (written scope (Con e ts)).pieces) (Con e ts)
      by_name q None found has = absurd (cc)
      by_name q (Some name) found has =
          subst (λ (w : Written). ReadsType scope w.grade (lexemes_of w.pieces) (Con e ts)) (sym (written_applied scope (Con e ts) e ts refl q))
          (subst (λ o. ReadsType scope (spec.applied_grade (map (written scope) ts)) (lexemes_of (spec.name_pieces o ++ spec.arguments (map (written scope) ts))) (Con e ts)) (sym found)
          (applied_reads e name ts q found claims n.1 f.1))

      by_brackets : (o : Option Brackets) → brackets_of e ≡ o → (is_some o || is_some (spec.name_for e scope.names)) ≡ true → spec.fits_arity e (length (map has_arities ts)) o ≡ true
          → ReadsType scope (written scope (Con e ts)).grade (lexemes_of (written scope (Con e ts)).pieces) (Con e ts)
      by_brackets None q has arity = by_name q (spec.name_for e scope.names) refl has
      by_brackets (Some b) q has arity =
          let count : length ts ≡ spec.arity_by (length e.text) b = sym (length-map ts has_arities) ∙ eqb-true _ _ arity in
          subst (λ (w : Written). ReadsType scope w.grade (lexemes_of w.pieces) (Con e ts)) (sym (written_enclosed scope (Con e ts) e ts b refl q))
          (subst (λ xs. ReadsType scope 2 (spec.opening b ∷ xs) (Con e ts)) (sym (lexemes_of-append (spec.listed (map (written scope) ts)) (lexeme (spec.closing b) ∷ [])))
          (enclosed e b _ ts q count (listed_reads ts claims n.1 f.1)))

  every_reads : (t : Mono) → Claim t
  every_reads = every_type Claim var_reads con_reads fun_reads

  -- what is written for a type reads as the type
  pub reads_back : (t : Mono) → is_spellable scope t ≡ true → has_arities t ≡ true → ReadsType scope 0 (lexemes_of (written scope t).pieces) t
  unfolding Claim
  reads_back t named fit = downs _ t (written scope t).grade 0 (omega arith) (every_reads t named fit)
