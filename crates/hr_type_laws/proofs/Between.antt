-- In what is written for a type no two lexemes touch that may not.
use Rattle.std.proofs.Common.{◌≡◌, ℕ, Bool, true, false, cond, ◌&&◌, ◌||◌, nat_lt, List, [], ◌∷◌, ◌++◌, map, codes, Option, Some, None, slice_get, refl, sym, ap, subst, ◌∙◌}
use Rattle.std.specs.List.{AllByRecursion as Each}
use Rattle.hr_base.specs.declared.bind.Entity.{Entity}
use Rattle.hr_base.specs.declared.bind.Name.{Name}
use Rattle.hr_type.specs.declared.mono.Mono.{Mono}
use Rattle.hr_type.specs.declared.mono.Mono.TheVariants.{Var, Con, Fun}
use Rattle.hr_type.specs.declared.spell.TypeScope.{TypeScope}
use Rattle.hr_type.specs.declared.spell.Brackets.{Brackets}
use Rattle.hr_type.specs.declared.spell.Brackets.TheVariants.{Square, Round}
use Rattle.hr_type.specs.Spelling as spec
use Rattle.hr_type.specs.Spelling.{Piece, blank, lexeme, Written, written, within, brackets_of}
use Rattle.hr_type.proofs.Terms.{every_type}
use Rattle.hr_type.proofs.Spellings.{written_var, written_fun, written_enclosed, written_applied}
use Rattle.hr_type_laws.specs.Blanks.{stands_alone, may_follow, are_apart}
use Rattle.hr_type_laws.specs.Laws.{BlanksBetween}
use Rattle.hr_type_laws.proofs.Found.{both}

and_true : (a b : Bool) → a ≡ true → b ≡ true → (a && b) ≡ true
and_true a b p q = ap (λ x. x && b) p ∙ q

or_left : (a b : Bool) → a ≡ true → (a || b) ≡ true
or_left a b p = ap (λ x. x || b) p

or_right : (a b : Bool) → b ≡ true → (a || b) ≡ true
or_right true b p = refl
or_right false b p = p

-- the pieces may stand directly behind any lexeme
starts_alone : List Piece → Type 0
starts_alone ps = (text : List ℕ) → may_follow text ps ≡ true

behind_alone : (text : List ℕ) (ps : List Piece) → stands_alone text ≡ true → may_follow text ps ≡ true
behind_alone text [] e = refl
behind_alone text (blank ∷ ps) e = refl
behind_alone text (lexeme other ∷ ps) e = or_left (stands_alone text) (stands_alone other) e

alone_starts : (text : List ℕ) (ps : List Piece) → stands_alone text ≡ true → starts_alone (lexeme text ∷ ps)
unfolding starts_alone
alone_starts text ps e before = or_right (stands_alone before) (stands_alone text) e

follow_append : (text : List ℕ) (xs ys : List Piece) → may_follow text xs ≡ true → starts_alone ys → may_follow text (xs ++ ys) ≡ true
unfolding starts_alone
follow_append text [] ys p s = s text
follow_append text (blank ∷ xs) ys p s = refl
follow_append text (lexeme other ∷ xs) ys p s = p

append_apart : (xs ys : List Piece) → are_apart xs ≡ true → starts_alone ys → are_apart ys ≡ true → are_apart (xs ++ ys) ≡ true
append_apart [] ys p s q = q
append_apart (blank ∷ xs) ys p s q = append_apart xs ys p s q
append_apart (lexeme text ∷ xs) ys p s q =
    let parts = both (may_follow text xs) (are_apart xs) p in
    and_true (may_follow text (xs ++ ys)) (are_apart (xs ++ ys)) (follow_append text xs ys parts.0 s) (append_apart xs ys parts.1 s q)

enclosed_apart : (left right : List ℕ) (ps : List Piece) → stands_alone left ≡ true → stands_alone right ≡ true → are_apart ps ≡ true → are_apart (lexeme left ∷ (ps ++ lexeme right ∷ [])) ≡ true
enclosed_apart left right ps l r p =
    and_true (may_follow left (ps ++ lexeme right ∷ [])) (are_apart (ps ++ lexeme right ∷ [])) (behind_alone left (ps ++ lexeme right ∷ []) l)
    (append_apart ps (lexeme right ∷ []) p (alone_starts right [] r) refl)

within_apart : (least : ℕ) (w : Written) → are_apart w.pieces ≡ true → are_apart (within least w) ≡ true
within_apart least w p = by_test (nat_lt w.grade least)
  where
    by_test : (b : Bool) → are_apart (cond b (lexeme (codes "(") ∷ (w.pieces ++ lexeme (codes ")") ∷ [])) w.pieces) ≡ true
    by_test true = enclosed_apart (codes "(") (codes ")") w.pieces refl refl p
    by_test false = p

arguments_start : (ws : List Written) → starts_alone (spec.arguments ws)
unfolding starts_alone
arguments_start [] text = refl
arguments_start (w ∷ ws) text = refl

rest_starts : (ws : List Written) → starts_alone (spec.listed_rest ws)
unfolding starts_alone
rest_starts [] text = refl
rest_starts (w ∷ ws) text = or_right (stands_alone text) true refl

module _ (scope : TypeScope) where
  Claim : Mono → Type 0
  Claim t = are_apart (written scope t).pieces ≡ true

  arguments_apart : (ts : List Mono) → Each Claim ts → are_apart (spec.arguments (map (written scope) ts)) ≡ true
  unfolding Claim
  arguments_apart [] all = refl
  arguments_apart (t ∷ ts) all =
      append_apart (within 2 (written scope t)) (spec.arguments (map (written scope) ts)) (within_apart 2 (written scope t) all.0)
      (arguments_start (map (written scope) ts)) (arguments_apart ts all.1)

  rest_apart : (ts : List Mono) → Each Claim ts → are_apart (spec.listed_rest (map (written scope) ts)) ≡ true
  unfolding Claim
  rest_apart [] all = refl
  rest_apart (t ∷ ts) all =
      append_apart (written scope t).pieces (spec.listed_rest (map (written scope) ts)) all.0 (rest_starts (map (written scope) ts)) (rest_apart ts all.1)

  listed_apart : (ts : List Mono) → Each Claim ts → are_apart (spec.listed (map (written scope) ts)) ≡ true
  unfolding Claim
  listed_apart [] all = refl
  listed_apart (t ∷ ts) all =
      append_apart (written scope t).pieces (spec.listed_rest (map (written scope) ts)) all.0 (rest_starts (map (written scope) ts)) (rest_apart ts all.1)

  brackets_apart : (b : Brackets) (ps : List Piece) → are_apart ps ≡ true → are_apart (lexeme (spec.opening b) ∷ (ps ++ lexeme (spec.closing b) ∷ [])) ≡ true
  brackets_apart Square ps p = enclosed_apart (codes "[") (codes "]") ps refl refl p
  brackets_apart Round ps p = enclosed_apart (codes "(") (codes ")") ps refl refl p

  variable_apart : (o : Option (List ℕ)) → are_apart (spec.variable_pieces o) ≡ true
  variable_apart None = refl
  variable_apart (Some text) = refl

  name_apart : (o : Option Name) → are_apart (spec.name_pieces o) ≡ true
  name_apart None = refl
  name_apart (Some name) = refl

  var_claim : (n : ℕ) → Claim (Var n)
  unfolding Claim
  var_claim n = subst (λ w. are_apart w.pieces ≡ true) (sym (written_var scope (Var n) n refl)) (variable_apart (slice_get scope.variables n))

  fun_claim : (a b : Mono) → Claim a → Claim b → Claim (Fun a b)
  unfolding Claim starts_alone
  fun_claim a b p q =
      subst (λ w. are_apart w.pieces ≡ true) (sym (written_fun scope (Fun a b) a b refl))
      (append_apart (within 1 (written scope a)) (blank ∷ lexeme (codes "->") ∷ blank ∷ (written scope b).pieces) (within_apart 1 (written scope a) p) follows q)
    where
      follows : starts_alone (blank ∷ lexeme (codes "->") ∷ blank ∷ (written scope b).pieces)
      follows text = refl

  con_claim : (e : Entity) (ts : List Mono) → Each Claim ts → Claim (Con e ts)
  unfolding Claim
  con_claim e ts all = by_brackets (brackets_of e) refl
    where
      by_brackets : (o : Option Brackets) → brackets_of e ≡ o → are_apart (written scope (Con e ts)).pieces ≡ true
      by_brackets None is =
          subst (λ w. are_apart w.pieces ≡ true) (sym (written_applied scope (Con e ts) e ts refl is))
          (append_apart (spec.name_pieces (spec.name_for e scope.names)) (spec.arguments (map (written scope) ts)) (name_apart (spec.name_for e scope.names))
          (arguments_start (map (written scope) ts)) (arguments_apart ts all))
      by_brackets (Some b) is =
          subst (λ w. are_apart w.pieces ≡ true) (sym (written_enclosed scope (Con e ts) e ts b refl is)) (brackets_apart b (spec.listed (map (written scope) ts)) (listed_apart ts all))

  pub written_apart : (t : Mono) → are_apart (written scope t).pieces ≡ true
  unfolding Claim
  written_apart t = every_type Claim var_claim con_claim fun_claim t

pub blanks_between_lem : BlanksBetween
blanks_between_lem scope t = written_apart scope t
