-- Names of modules, one at a time.
use Rattle.std.proofs.Common.{◌≡◌, ◌≢◌, ◌⊎◌, ◌+◌, ◌<◌, ◌++◌, ◌∷◌, ℕ, zero, suc, Bool, true, false, cond, [], List, Option, Some, None, length, take, map, get_or, arith, sym, ◌∙◌, ap, subst, refl, inl, inr}
use Rattle.std.specs.Prelude.{Contains, slice_get, is_some}
use Rattle.std.specs.List.{AllZip}
use Rattle.std.specs.Cmp.Lexicographic.{slice_cmp}
use Rattle.std.specs.Ordering.{nat_cmp, is_eq}
use Rattle.std.specs.Map.{lookup}
use Rattle.std.specs.BTreeMap.{BTreeMap, get, is_at, Updates}
use Rattle.std.specs.declared.cmp.Ordering.{Ordering}
use Rattle.std.specs.declared.cmp.Ordering.TheVariants.{Less, Equal, Greater}
use Rattle.std.proofs.lemmas.Option.{slice_get-get_or}
use Rattle.std.proofs.lemmas.List.{take_more, map-append, get_or_read, length-take-le}
use Rattle.std.proofs.lemmas.List.Elements.{Contains-get_or, Contains-push, Contains-append_left, Contains-append_right}
use Rattle.std.proofs.lemmas.List.Quantifiers.{all_pairs_push}
use Rattle.std.proofs.lemmas.Map.Lookups.{exact_bytes}
use Rattle.hr_graph.specs.declared.module_order.ImportEdge.{ImportEdge}
use Rattle.hr_graph.specs.declared.module_order.GraphError.{GraphError}
use Rattle.hr_graph.specs.declared.module_order.GraphError.TheVariants.{DuplicateModule, NoModule, ImportCycle, Memory}
use Rattle.hr_graph.specs.Modules.{HasNoRepeat, IsFirstRepeat, ArePlaces, AreEdges, IsEdgeOf, IsRepeatRefused, ShowsRepeat, IsUnknownRefused, ShowsUnknown}
use Rattle.hr_graph.proofs.Members.{contains_none, contains_more}

-- one name more is shown
pub shown_more : (names : List (List ℕ)) (places : List ℕ) (i : ℕ) (name copy : List ℕ) → i < length places → name ≡ get_or names (get_or places i 0) name → get_or places i 0 < length names → copy ≡ name
    → map (λ place. get_or names place []) (take i places) ++ copy ∷ [] ≡ map (λ place. get_or names place []) (take (i + 1) places)
shown_more names places i name copy lt read within same =
    let at : copy ≡ get_or names (get_or places i 0) [] = same ∙ get_or_read names (get_or places i 0) name within read [] in
    ap (λ n. map (λ place. get_or names place []) (take i places) ++ n ∷ []) at
    ∙ sym (map-append (λ place. get_or names place []) (take i places) (get_or places i 0 ∷ []))
    ∙ ap (map (λ place. get_or names place [])) (sym (take_more places i 0 lt))

-- ---- elements at their places

pub got_in : {X : Type 0} (xs : List X) (i : ℕ) (x : X) → slice_get xs i ≡ Some x → Contains xs x
got_in {X} [] i x is = let clash : ◌≡◌ {A = Option X} None (Some x) = is in cc
got_in (y ∷ xs) zero x is = let same : y ≡ x = cc in subst (λ z. Contains (y ∷ xs) z) same (Contains-append_left (y ∷ []) xs y (Contains-push [] y))
got_in (y ∷ xs) (suc i) x is = Contains-append_right (y ∷ []) xs x (got_in xs i x is)

pub got_kept : {X : Type 0} (xs : List X) (y : X) (i : ℕ) (x : X) → slice_get xs i ≡ Some x → slice_get (xs ++ y ∷ []) i ≡ Some x
got_kept {X} [] y i x is = let clash : ◌≡◌ {A = Option X} None (Some x) = is in cc
got_kept (z ∷ xs) y zero x is = is
got_kept (z ∷ xs) y (suc i) x is = got_kept xs y i x is

pub got_new : {X : Type 0} (xs : List X) (y : X) (i : ℕ) → length xs ≡ i → slice_get (xs ++ y ∷ []) i ≡ Some y
got_new [] y zero is = refl
got_new [] y (suc i) is = absurd (omega (arith, is))
got_new (z ∷ xs) y zero is = absurd (omega (arith, is))
got_new (z ∷ xs) y (suc i) is = got_new xs y i (omega (arith, is))

pub read_at : {X : Type 0} (xs : List X) (i : ℕ) (x : X) → i < length xs → x ≡ get_or xs i x → slice_get xs i ≡ Some x
read_at xs i x within is = slice_get-get_or xs i x within ∙ ap Some (sym is)

-- ---- the places of the names

pub no_places : (m : BTreeMap (List ℕ) ℕ) → m.entries ≡ [] → ArePlaces [] m
no_places m empty = record {
  at = λ name place is. let clash : ◌≡◌ {A = Option ℕ} None (Some place) = sym (ap (lookup (is_at (slice_cmp nat_cmp name))) empty) ∙ is in cc;
  all = λ name h. absurd (contains_none name h);
}

equal_is : (o : Ordering) → is_eq o ≡ true → o ≡ Equal
equal_is Less h = let clash : false ≡ true = h in cc
equal_is Equal h = refl
equal_is Greater h = let clash : false ≡ true = h in cc

-- the value at a key, by whether it is the new one
got_by : (b : Bool) (key name : List ℕ) (i place : ℕ) (old : Option ℕ) → is_at (slice_cmp nat_cmp key) name ≡ b → cond b (Some i) old ≡ Some place → (old ≡ Some place) ⊎ ((key ≡ name) × (i ≡ place))
got_by true key name i place old b is = let same : i ≡ place = cc in inr (exact_bytes key name (equal_is (slice_cmp nat_cmp key name) b), same)
got_by false key name i place old b is = inl is

stays_got : (b : Bool) (i place : ℕ) (old : Option ℕ) → old ≡ Some place → (p : ℕ) × (cond b (Some i) old ≡ Some p)
stays_got true i place old is = (i, refl)
stays_got false i place old is = (place, is)

pub places_more : (names : List (List ℕ)) (i : ℕ) (name key : List ℕ) (m after : BTreeMap (List ℕ) ℕ)
    → ArePlaces (take i names) m → i < length names → name ≡ get_or names i name → key ≡ name → Updates (slice_cmp nat_cmp) m after key (Some i)
    → ArePlaces (take (i + 1) names) after
places_more names i name key m after keeps within read same u =
    let front : List (List ℕ) = take i names in
    let grown : take (i + 1) names ≡ front ++ key ∷ [] = take_more names i name within ∙ ap (λ n. front ++ n ∷ []) (sym read ∙ sym same) in
    subst (λ seen. ArePlaces seen after) (sym grown) (record {
      at = λ q p is. elim (got_by (is_at (slice_cmp nat_cmp key) q) key q i p (get (slice_cmp nat_cmp) m q) refl (sym (u.0 q) ∙ is)) [
        | inl old ↦ got_kept front key p q (keeps.at q p old)
        | inr new ↦ got_new front key p (length-take-le i names (omega arith) ∙ new.1) ∙ ap Some new.0
      ];
      all = contains_more (λ q. (p : ℕ) × (get (slice_cmp nat_cmp) after q ≡ Some p)) front key
          (λ q old.
          let was : (p : ℕ) × (get (slice_cmp nat_cmp) m q ≡ Some p) = keeps.all q old in
          let now : (p : ℕ) × (cond (is_at (slice_cmp nat_cmp key) q) (Some i) (get (slice_cmp nat_cmp) m q) ≡ Some p) = stays_got (is_at (slice_cmp nat_cmp key) q) i was.0 (get (slice_cmp nat_cmp) m q) was.1 in
          (now.0, u.0 q ∙ now.1))
          (i, u.1);
    })

-- a name that has no place was not seen
pub unseen_name : (seen : List (List ℕ)) (name : List ℕ) (m : BTreeMap (List ℕ) ℕ) → ArePlaces seen m → is_some (get (slice_cmp nat_cmp) m name) ≡ false → Contains seen name → ⊥
unseen_name seen name m keeps none h =
    let was : (p : ℕ) × (get (slice_cmp nat_cmp) m name ≡ Some p) = keeps.all name h in
    let clash : true ≡ false = sym (ap is_some was.1) ∙ none in cc

pub distinct_more : (names : List (List ℕ)) (i : ℕ) (name : List ℕ) → HasNoRepeat (take i names) → i < length names → name ≡ get_or names i name → (Contains (take i names) name → ⊥) → HasNoRepeat (take (i + 1) names)
distinct_more names i name keeps within read fresh =
    let grown : take (i + 1) names ≡ take i names ++ name ∷ [] = take_more names i name within ∙ ap (λ n. take i names ++ n ∷ []) (sym read) in
    subst HasNoRepeat (sym grown)
    (all_pairs_push (λ a b. a ≢ b) (take i names) name keeps (λ k d lt same. fresh (subst (λ n. Contains (take i names) n) same (Contains-get_or (take i names) k d lt))))

seen_by : (o : Option ℕ) → is_some o ≡ true → (p : ℕ) × (o ≡ Some p)
seen_by None h = let clash : false ≡ true = h in cc
seen_by (Some p) h = (p, refl)

pub repeat_refused : (names : List (List ℕ)) (i : ℕ) (name : List ℕ) (m : BTreeMap (List ℕ) ℕ) (e : GraphError)
    → ArePlaces (take i names) m → HasNoRepeat (take i names) → i < length names → name ≡ get_or names i name → is_some (get (slice_cmp nat_cmp) m name) ≡ true → ShowsRepeat name e → IsRepeatRefused names e
repeat_refused names i name m (DuplicateModule shown) keeps distinct within read seen shows =
    let was : (p : ℕ) × (get (slice_cmp nat_cmp) m name ≡ Some p) = seen_by (get (slice_cmp nat_cmp) m name) seen in
    subst (IsFirstRepeat names) (sym shows) (record {
      place = i;
      at = read_at names i name within read;
      before = got_in (take i names) was.0 name (keeps.at name was.0 was.1);
      first = distinct;
    })
repeat_refused names i name m (NoModule shown place) keeps distinct within read seen shows = shows
repeat_refused names i name m (ImportCycle shown) keeps distinct within read seen shows = shows
repeat_refused names i name m (Memory reason) keeps distinct within read seen shows = tt

-- ---- the edges

zip_push : {A B : Type 0} (R : A → B → Type 0) (xs : List A) (ys : List B) (x : A) (y : B) → AllZip R xs ys → R x y → AllZip R (xs ++ x ∷ []) (ys ++ y ∷ [])
zip_push R [] [] x y zip here = (here, tt)
zip_push R [] (b ∷ ys) x y zip here = absurd zip
zip_push R (a ∷ xs) [] x y zip here = absurd zip
zip_push R (a ∷ xs) (b ∷ ys) x y zip here = (zip.0, zip_push R xs ys x y zip.1 here)

zip_at : {A B : Type 0} (R : A → B → Type 0) (xs : List A) (ys : List B) (i : ℕ) (d : A) (e : B) → AllZip R xs ys → i < length xs → R (get_or xs i d) (get_or ys i e)
zip_at R [] ys i d e zip within = absurd (omega (arith, within))
zip_at R (a ∷ xs) [] i d e zip within = absurd zip
zip_at R (a ∷ xs) (b ∷ ys) zero d e zip within = zip.0
zip_at R (a ∷ xs) (b ∷ ys) (suc i) d e zip within = zip_at R xs ys i d e zip.1 (omega (arith, within))

pub edges_more : (names : List (List ℕ)) (imports : List ImportEdge) (i : ℕ) (one : ImportEdge) (to : ℕ) (edges : List (ℕ × ℕ)) (m : BTreeMap (List ℕ) ℕ)
    → AreEdges names (take i imports) edges → i < length imports → one ≡ get_or imports i one → ArePlaces names m → get (slice_cmp nat_cmp) m one.to ≡ Some to
    → AreEdges names (take (i + 1) imports) (edges ++ (one.from, to) ∷ [])
edges_more names imports i one to edges m keeps within read places is =
    subst (λ xs. AreEdges names xs (edges ++ (one.from, to) ∷ [])) (sym (take_more imports i one within ∙ ap (λ x. take i imports ++ x ∷ []) (sym read)))
    (zip_push (IsEdgeOf names) (take i imports) edges one (one.from, to) keeps (refl, places.at one.to to is))

known_import : (names : List (List ℕ)) (imports : List ImportEdge) (edges : List (ℕ × ℕ)) (other : ImportEdge) → AreEdges names imports edges → Contains imports other → Contains names other.to
known_import names imports edges other are (k, within, is) =
    let e : IsEdgeOf names (get_or imports k other) (get_or edges k (0, 0)) = zip_at (IsEdgeOf names) imports edges k other (0, 0) are within in
    got_in names (get_or edges k (0, 0)).1 other.to (e.1 ∙ ap (λ i. Some i.to) is)

pub unknown_refused : (names : List (List ℕ)) (imports : List ImportEdge) (i : ℕ) (one : ImportEdge) (edges : List (ℕ × ℕ)) (m : BTreeMap (List ℕ) ℕ) (e : GraphError)
    → AreEdges names (take i imports) edges → i < length imports → one ≡ get_or imports i one → ArePlaces names m → get (slice_cmp nat_cmp) m one.to ≡ None → ShowsUnknown one e
    → IsUnknownRefused names imports e
unknown_refused names imports i one edges m (DuplicateModule shown) keeps within read places is shows = shows
unknown_refused names imports i one edges m (NoModule name place) keeps within read places is shows = record {
  index = i;
  wrong = one;
  at = read_at imports i one within read;
  name_is = shows.0;
  place_is = shows.1;
  unknown = λ h. let was : (p : ℕ) × (get (slice_cmp nat_cmp) m one.to ≡ Some p) = places.all one.to h in let clash : ◌≡◌ {A = Option ℕ} None (Some was.0) = sym is ∙ was.1 in cc;
  known = λ other h. known_import names (take i imports) edges other keeps h;
}
unknown_refused names imports i one edges m (ImportCycle shown) keeps within read places is shows = shows
unknown_refused names imports i one edges m (Memory reason) keeps within read places is shows = tt
