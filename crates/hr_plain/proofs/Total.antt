-- Every text has a tree of the form or a refusal, and every renaming a text or a refusal.
use Rattle.std.proofs.Common.{◌≡◌, ◌≢◌, ℕ, ◌<◌, ◌≤◌, Bool, true, false, ◌⊎◌, inl, inr, List, [], ◌∷◌, length, Option, Some, None, slice_get, position, codes, refl, sym, ap, ◌∙◌, true≢false, arith}
use Rattle.std.proofs.lemmas.Bool.Decides.{leb_tells}
use Rattle.std.proofs.lemmas.Slice.Eq.{bytes_eq-Decides}
use Rattle.std.specs.Str.{bytes_eq}
use Rattle.hr_base.specs.Limits.{module_limit}
use Rattle.hr_base.specs.declared.place.Pos.{Pos}
use Rattle.hr_base.specs.declared.lexeme.Item.{Item}
use Rattle.hr_base.specs.declared.lexeme.Items.{Items}
use Rattle.hr_rules.specs.Lexing.{joined}
use Rattle.hr_rules.specs.Positions.{positions_of, is_same_pos}
use Rattle.hr_rules.specs.Lexemes.{LexesText}
use Rattle.hr_lexer.specs.declared.error.LexError.{LexError}
use Rattle.hr_lexer.specs.Refusals.{IsCause}
use Rattle.hr_lexer.specs.Words.{AreApart, IsVarId}
use Rattle.hr_lexer.proofs.Decided.{apart_or_not, varid_or_not}
use Rattle.hr_lexer.proofs.Total.{read_or_refused_lem}
use Rattle.hr_plain_tree.specs.declared.tree.Equation.{Equation}
use Rattle.hr_plain_tree.specs.declared.tree.Module.{Module}
use Rattle.hr_plain_tree.specs.Yields.{module_items}
use Rattle.hr_plain.specs.declared.loading.LoadError.{LoadError}
use Rattle.hr_plain.specs.declared.renaming.Sought.{Sought}
use Rattle.hr_plain.specs.declared.renaming.Why.{Why}
use Rattle.hr_plain.specs.Form.{IsPlain}
use Rattle.hr_plain.specs.Laws.{PlainOrRefused, RenamedOrRefused}
use Rattle.hr_plain.specs.Reading.{equations_of}
use Rattle.hr_plain.specs.Refusals.{IsLoadRefusal}
use Rattle.hr_plain.specs.Renaming.{IsNameAt, IsRenamed, IsWhy, NoName, Respelled, is_spelled, number_of, owner_at}
use Rattle.hr_plain.specs.Scoping.{is_variable, occurrences_of}
use Rattle.hr_plain.specs.Sets.{are_scoped}
use Rattle.hr_plain.specs.Target.{AllRespell, IsParted, Respells}
use Rattle.hr_plain.specs.Target.AllRespell.{none, more}
use Rattle.hr_plain.specs.Target.IsParted.{first, kept, apart, put}
use Rattle.hr_plain.proofs.Lengths.{length_marks}
use Rattle.hr_plain.proofs.Loaded.{are_plain, loaded, not_plain, not_read, not_scoped}
use Rattle.hr_plain.proofs.Renames.{renamed}

-- texts
module _ (bytes : List ℕ) where
  abbrev TreeOrNot : Type 0
  TreeOrNot = ((tree : Module) × IsPlain bytes tree) ⊎ (((error : LexError) × IsCause bytes error) ⊎ IsLoadRefusal bytes (LoadError.OutsideForm 0))

  module _ (items : Items) (lexes : LexesText bytes items) where
    by_scoped : are_plain items ≡ true → (equations : List Equation) → equations_of items.list ≡ Some equations → (b : Bool) → are_scoped equations ≡ b → TreeOrNot
    by_scoped plain equations read true e = inl (_, loaded bytes items equations lexes plain read e)
    by_scoped plain equations read false e = inr (inr (not_scoped bytes items equations lexes read e))

    by_read : are_plain items ≡ true → (found : Option (List Equation)) → equations_of items.list ≡ found → TreeOrNot
    by_read plain None e = inr (inr (not_read bytes items lexes e))
    by_read plain (Some equations) e = by_scoped plain equations e (are_scoped equations) refl

    by_plain : (b : Bool) → are_plain items ≡ b → TreeOrNot
    by_plain true e = by_read e (equations_of items.list) refl
    by_plain false e = inr (inr (not_plain bytes items lexes e))

  by_lexer : ((items : Items) × LexesText bytes items × (length bytes ≤ module_limit)) ⊎ ((error : LexError) × IsCause bytes error) → TreeOrNot
  by_lexer (inl (items, lexes, short)) = by_plain items lexes (are_plain items) refl
  by_lexer (inr is) = inr (inl is)

pub plain_or_refused_lem : PlainOrRefused
plain_or_refused_lem bytes = by_lexer bytes (read_or_refused_lem bytes)

-- targets
module _ (new : List ℕ) where
  parted_by : (b : ℕ) (before : List ℕ) → AreApart (b ∷ before) new ⊎ (¬ (AreApart (b ∷ before) new)) → (trivia : List ℕ) × IsParted new (b ∷ before) [] trivia
  parted_by b before (inl are) = ([], apart (b ∷ before) are)
  parted_by b before (inr are_not) = (32 ∷ [], put b before are_not)

  parted : (before old : List ℕ) → (trivia : List ℕ) × IsParted new before old trivia
  parted [] old = (old, first old)
  parted (b ∷ before) (c ∷ old) = (c ∷ old, kept (b ∷ before) c old)
  parted (b ∷ before) [] = parted_by b before (apart_or_not (b ∷ before) new)

  respelled_one : (before : List ℕ) (mark : Bool) (old : Item) → (item : Item) × Respells new mark before old item
  respelled_one before false old = (old, refl)
  respelled_one before true old =
      let p = parted before old.trivia in
      (record { trivia = p.0; lexeme = record { class = old.lexeme.class; text = new } }, (refl, p.1))

  respelled_all : (before : List ℕ) (marks : List Bool) (olds : List Item) → length marks ≡ length olds → (items : List Item) × AllRespell new before marks olds items
  respelled_all before [] [] e = ([], none before)
  respelled_all before [] (old ∷ olds) e = absurd (omega (arith, e))
  respelled_all before (mark ∷ marks) [] e = absurd (omega (arith, e))
  respelled_all before (mark ∷ marks) (old ∷ olds) e =
      let one = respelled_one before mark old in
      let others = respelled_all one.0.lexeme.text marks olds (omega (arith, e)) in
      (one.0 ∷ others.0, more before mark marks old one.0 olds others.0 one.1 others.1)

-- renamings
some_none : {A : Type 0} {x : A} → Some x ≡ None → ⊥
some_none e = cc

module _ (tree : Module) (module_name : List ℕ) (pos : Pos) where
  abbrev NameOrNot : Type 0
  NameOrNot = ((lexeme : ℕ) × (item : Item) × IsNameAt tree module_name pos lexeme item) ⊎ NoName tree module_name pos

  module _ (main : module_name ≡ codes "Main") (lexeme : ℕ) (begins : position (is_same_pos pos) (positions_of (module_items tree)) ≡ Some lexeme) where
    same_lexeme : (other : ℕ) (item : Item) → IsNameAt tree module_name pos other item → other ≡ lexeme
    same_lexeme other item name = let both : Some other ≡ Some lexeme = sym name.begins ∙ begins in cc

    by_variable : (item : Item) → slice_get (module_items tree) lexeme ≡ Some item → (b : Bool) → is_variable item ≡ b → NameOrNot
    by_variable item is true e = inl (lexeme, item, record { is_main = main; begins = begins; item_is = is; variable = e })
    by_variable item is false e = inr (λ other found name.
        let here : Some found ≡ Some item = sym name.item_is ∙ ap (slice_get (module_items tree)) (same_lexeme other found name) ∙ is in
        let same : found ≡ item = cc in
        true≢false (sym name.variable ∙ ap is_variable same ∙ e))

    by_item : (found : Option Item) → slice_get (module_items tree) lexeme ≡ found → NameOrNot
    by_item (Some item) e = by_variable item e (is_variable item) refl
    by_item None e = inr (λ other found name. some_none (sym name.item_is ∙ ap (slice_get (module_items tree)) (same_lexeme other found name) ∙ e))

  by_position : module_name ≡ codes "Main" → (found : Option ℕ) → position (is_same_pos pos) (positions_of (module_items tree)) ≡ found → NameOrNot
  by_position main (Some lexeme) e = by_item main lexeme e (slice_get (module_items tree) lexeme) refl
  by_position main None e = inr (λ other found name. some_none (sym name.begins ∙ e))

  by_main : (b : Bool) → bytes_eq module_name (codes "Main") ≡ b → NameOrNot
  by_main true e = by_position ((bytes_eq-Decides module_name (codes "Main")).0 e) (position (is_same_pos pos) (positions_of (module_items tree))) refl
  by_main false e = inr (λ other found name. true≢false (sym ((bytes_eq-Decides module_name (codes "Main")).1 name.is_main) ∙ e))

  name_or_not : NameOrNot
  name_or_not = by_main (bytes_eq module_name (codes "Main")) refl

module _ (bytes : List ℕ) (tree : Module) (plain : IsPlain bytes tree) (module_name : List ℕ) (pos : Pos) (new : List ℕ) where
  abbrev Answer : Type 0
  Answer = ((text : List ℕ) × IsRenamed tree module_name pos new text) ⊎ ((why : Why) × IsWhy tree module_name pos new why × (number_of why ≢ None))

  module _ (lexeme : ℕ) (item : Item) (name : IsNameAt tree module_name pos lexeme item) where
    by_length : (varid : IsVarId new) → is_spelled new (module_items tree) ≡ false → (items : Items) → Respelled tree lexeme item.lexeme.text new items
        → (test : Bool) → ((test ≡ true) × (length (joined items.list items.tail) ≤ module_limit)) ⊎ ((test ≡ false) × (module_limit < length (joined items.list items.tail))) → Answer
    by_length varid fresh items r test (inl (_, short)) =
        inl (joined items.list items.tail, renamed bytes tree plain module_name pos lexeme item.lexeme.text new (joined items.list items.tail) items (item, name, refl) varid fresh r refl short)
    by_length varid fresh items r test (inr (_, long)) =
        inr (Why.OverLimit, (lexeme, item, items, record { name = name; varid = varid; fresh = fresh }, r, long), λ e. some_none e)

    by_fresh : IsVarId new → (b : Bool) → is_spelled new (module_items tree) ≡ b → Answer
    by_fresh varid true e = inr (Why.NameInUse, ((lexeme, item, name), varid, e), λ e. some_none e)
    by_fresh varid false e =
        let old : List ℕ = item.lexeme.text in
        let marks : List Bool = occurrences_of (owner_at tree lexeme old) old tree in
        let all = respelled_all new [] marks (module_items tree) (length_marks (owner_at tree lexeme old) old 0 tree.equations) in
        let items : Items = record { list = all.0; tail = tree.tail } in
        by_length varid e items (record { lexemes = all.1; tail_stays = refl }) _ (leb_tells (length (joined items.list items.tail)) module_limit)

    by_varid : IsVarId new ⊎ (¬ (IsVarId new)) → Answer
    by_varid (inl varid) = by_fresh varid (is_spelled new (module_items tree)) refl
    by_varid (inr no_varid) = inr (Why.WrongForm, ((lexeme, item, name), no_varid), λ e. some_none e)

  by_name : NameOrNot tree module_name pos → Answer
  by_name (inl (lexeme, item, name)) = by_varid lexeme item name (varid_or_not new)
  by_name (inr no_name) = inr (Why.NoSuchThing (Sought.At (record { «module» = module_name; pos = pos })), (refl, no_name), λ e. some_none e)

pub renamed_or_refused_lem : RenamedOrRefused
renamed_or_refused_lem bytes tree plain module_name pos new = by_name bytes tree plain module_name pos new (name_or_not tree module_name pos)
