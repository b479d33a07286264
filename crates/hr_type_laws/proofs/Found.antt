-- The variable and the constructor that a text is in a scope.
use Rattle.std.proofs.Common.{◌≡◌, ℕ, zero, suc, Bool, true, false, cond, ◌&&◌, List, [], ◌∷◌, Option, Some, None, refl, sym, ap, subst, ◌∙◌, true≢false}
use Rattle.std.specs.Prelude.{slice_get}
use Rattle.std.specs.Str.{bytes_eq}
use Rattle.std.specs.Option.{option_map}
use Rattle.std.proofs.lemmas.Slice.Eq.{bytes_eq-Decides}
use Rattle.hr_base.specs.declared.bind.Entity.{Entity}
use Rattle.hr_base.specs.declared.bind.Name.{Name}
use Rattle.hr_base.specs.declared.bind.Space.{Space}
use Rattle.hr_base.specs.declared.bind.Space.TheVariants.{Value, Constructor, TypeName}
use Rattle.hr_type.specs.declared.spell.TypeScope.{TypeScope}
use Rattle.hr_type.specs.Spelling.{name_for, name_text}
use Rattle.hr_type.specs.Types.{same_entity, same_space}
use Rattle.hr_type_laws.specs.Scopes.{TellsApart, HasVariable, HasName, is_mark}

pub same_text : (a b : List ℕ) → bytes_eq a b ≡ true → a ≡ b
same_text a b e = (bytes_eq-Decides a b).0 e

pub text_same : (a b : List ℕ) → a ≡ b → bytes_eq a b ≡ true
text_same a b e = (bytes_eq-Decides a b).1 e

pub both : (a b : Bool) → (a && b) ≡ true → (a ≡ true) × (b ≡ true)
both true b e = (refl, e)
both false b e = absurd (cc)

-- ---- variables
abbrev pub index_of : List (List ℕ) → List ℕ → Option ℕ
index_of [] text = None
index_of (x ∷ xs) text = cond (bytes_eq x text) (Some 0) (option_map suc (index_of xs text))

index_sound : (xs : List (List ℕ)) (text : List ℕ) (n : ℕ) → index_of xs text ≡ Some n → slice_get xs n ≡ Some text
index_sound [] text n e = absurd (cc)
index_sound (x ∷ xs) text n e = by_test (bytes_eq x text) refl (λ m is. index_sound xs text m is) e
  where
    by_rest : (o : Option ℕ) → ((m : ℕ) → o ≡ Some m → slice_get xs m ≡ Some text) → option_map suc o ≡ Some n → slice_get (x ∷ xs) n ≡ Some text
    by_rest None sound e = absurd (cc)
    by_rest (Some m) sound e =
        let same : suc m ≡ n = cc in
        subst (λ k. slice_get (x ∷ xs) k ≡ Some text) same (sound m refl)

    by_test : (b : Bool) → bytes_eq x text ≡ b → ((m : ℕ) → index_of xs text ≡ Some m → slice_get xs m ≡ Some text) → cond b (Some 0) (option_map suc (index_of xs text)) ≡ Some n
        → slice_get (x ∷ xs) n ≡ Some text
    by_test true is sound e =
        let same : 0 ≡ n = cc in
        subst (λ k. slice_get (x ∷ xs) k ≡ Some text) same (ap Some (same_text x text is))
    by_test false is sound e = by_rest (index_of xs text) sound e

index_found : (xs : List (List ℕ)) (text : List ℕ) (n : ℕ) → slice_get xs n ≡ Some text → (m : ℕ) × (index_of xs text ≡ Some m)
index_found [] text n e = absurd (cc)
index_found (x ∷ xs) text zero e =
    let same : x ≡ text = cc in
    (0, ap (λ b. cond b (Some 0) (option_map suc (index_of xs text))) (text_same x text same))
index_found (x ∷ xs) text (suc n) e = by_test (bytes_eq x text) (index_found xs text n e)
  where
    by_test : (b : Bool) → (m : ℕ) × (index_of xs text ≡ Some m) → (m : ℕ) × (cond b (Some 0) (option_map suc (index_of xs text)) ≡ Some m)
    by_test true found = (0, refl)
    by_test false found = (suc found.0, ap (option_map suc) found.1)

-- ---- constructors
abbrev pub is_called : Option Name → List ℕ → Bool
is_called None text = false
is_called (Some name) text = bytes_eq (name_text name) text

abbrev pub entity_in : List (Entity × Name) → List (Entity × Name) → List ℕ → Option Entity
entity_in names [] text = None
entity_in names (p ∷ ps) text = cond (is_called (name_for p.0 names) text) (Some p.0) (entity_in names ps text)

called : (o : Option Name) (text : List ℕ) → is_called o text ≡ true → (name : Name) × ((o ≡ Some name) × (name_text name ≡ text))
called None text e = absurd (cc)
called (Some name) text e = (name, (refl, same_text (name_text name) text e))

entity_sound : (names ps : List (Entity × Name)) (text : List ℕ) (e : Entity) → entity_in names ps text ≡ Some e → (name : Name) × ((name_for e names ≡ Some name) × (name_text name ≡ text))
entity_sound names [] text e is = absurd (cc)
entity_sound names (p ∷ ps) text e is = by_test (is_called (name_for p.0 names) text) refl (λ there. entity_sound names ps text e there) is
  where
    by_test : (b : Bool) → is_called (name_for p.0 names) text ≡ b
        → (entity_in names ps text ≡ Some e → (name : Name) × ((name_for e names ≡ Some name) × (name_text name ≡ text)))
        → cond b (Some p.0) (entity_in names ps text) ≡ Some e → (name : Name) × ((name_for e names ≡ Some name) × (name_text name ≡ text))
    by_test true here sound is =
        let same : p.0 ≡ e = cc in
        subst (λ f. (name : Name) × ((name_for f names ≡ Some name) × (name_text name ≡ text))) same (called (name_for p.0 names) text here)
    by_test false other sound is = sound is

same_spaces : (a b : Space) → same_space a b ≡ true → a ≡ b
same_spaces Value Value e = refl
same_spaces Value Constructor e = absurd (cc)
same_spaces Value TypeName e = absurd (cc)
same_spaces Constructor Value e = absurd (cc)
same_spaces Constructor Constructor e = refl
same_spaces Constructor TypeName e = absurd (cc)
same_spaces TypeName Value e = absurd (cc)
same_spaces TypeName Constructor e = absurd (cc)
same_spaces TypeName TypeName e = refl

same_entities : (a b : Entity) → same_entity a b ≡ true → a ≡ b
same_entities a b e =
    let all = both _ _ e in
    let texts = both _ _ all.1 in
    let s = same_spaces a.space b.space all.0 in
    let t = same_text a.text b.text texts.0 in
    let m = same_text a.«module» b.«module» texts.1 in
    λ k. record { «module» = m k; space = s k; text = t k }

entity_found : (names ps : List (Entity × Name)) (e : Entity) (name : Name) → name_for e names ≡ Some name → name_for e ps ≡ Some name → (f : Entity) × (entity_in names ps (name_text name) ≡ Some f)
entity_found names [] e name is here = absurd (cc)
entity_found names (p ∷ ps) e name is here = by_test (same_entity e p.0) refl (λ there. entity_found names ps e name is there) here
  where
    text : List ℕ
    text = name_text name

    by_called : (b : Bool) → (f : Entity) × (entity_in names ps text ≡ Some f) → (f : Entity) × (cond b (Some p.0) (entity_in names ps text) ≡ Some f)
    by_called true found = (p.0, refl)
    by_called false found = found

    by_test : (b : Bool) → same_entity e p.0 ≡ b → (name_for e ps ≡ Some name → (f : Entity) × (entity_in names ps text ≡ Some f)) → cond b (Some p.1) (name_for e ps) ≡ Some name
        → (f : Entity) × (cond (is_called (name_for p.0 names) text) (Some p.0) (entity_in names ps text) ≡ Some f)
    by_test true same further here =
        let is_it : name_for p.0 names ≡ Some name = subst (λ f. name_for f names ≡ Some name) (same_entities e p.0 same) is in
        (p.0, ap (λ o. cond (is_called o text) (Some p.0) (entity_in names ps text)) is_it ∙ ap (λ b. cond b (Some p.0) (entity_in names ps text)) (text_same text text refl))
    by_test false other further here = by_called (is_called (name_for p.0 names) text) (further here)

abbrev pub variable_of : TypeScope → List ℕ → Option ℕ
variable_of scope text = index_of scope.variables text

abbrev pub entity_of : TypeScope → List ℕ → Option Entity
entity_of scope text = entity_in scope.names scope.names text

-- ---- in a scope that tells them apart
module _ (scope : TypeScope) (apart : TellsApart scope) where
  pub variable_found : (n : ℕ) (text : List ℕ) → HasVariable scope n text → variable_of scope text ≡ Some n
  variable_found n text has =
      let found = index_found scope.variables text n has in
      let same : found.0 ≡ n = apart.variables found.0 n text (index_sound scope.variables text found.0 found.1) has in
      found.1 ∙ ap Some same

  pub entity_named : (e : Entity) (name : Name) → HasName scope e name → entity_of scope (name_text name) ≡ Some e
  entity_named e name has =
      let found = entity_found scope.names scope.names e name has has in
      let is = entity_sound scope.names scope.names (name_text name) found.0 found.1 in
      found.1 ∙ ap Some (apart.names found.0 e is.0 name is.1.0 has is.1.1)

  none_by : {X : Type 0} (o : Option X) → ((x : X) → o ≡ Some x → ⊥) → o ≡ None
  none_by None never = refl
  none_by (Some x) never = absurd (never x refl)

  pub no_variable_named : (e : Entity) (name : Name) → HasName scope e name → variable_of scope (name_text name) ≡ None
  no_variable_named e name has = none_by (variable_of scope (name_text name)) (λ n is. apart.apart n e name (index_sound scope.variables (name_text name) n is) has)

  pub no_entity_by : (n : ℕ) (text : List ℕ) → HasVariable scope n text → entity_of scope text ≡ None
  no_entity_by n text has =
      none_by (entity_of scope text) (λ e is.
      let found = entity_sound scope.names scope.names text e is in
      apart.apart n e found.0 (subst (λ x. HasVariable scope n x) (sym found.1.1) has) found.1.0)

  pub no_variable_marked : (text : List ℕ) → is_mark text ≡ true → variable_of scope text ≡ None
  no_variable_marked text mark =
      none_by (variable_of scope text) (λ n is. true≢false (sym mark ∙ apart.variable_no_mark n text (index_sound scope.variables text n is)))

  pub no_entity_marked : (text : List ℕ) → is_mark text ≡ true → entity_of scope text ≡ None
  no_entity_marked text mark =
      none_by (entity_of scope text) (λ e is.
      let found = entity_sound scope.names scope.names text e is in
      true≢false (sym mark ∙ (sym (ap is_mark found.1.1) ∙ apart.name_no_mark e found.0 found.1.0)))
