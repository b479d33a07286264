-- A renaming that is accepted in a text of the plain form has one text, and neither the text nor the renaming is refused
-- there.
use Rattle.std.proofs.Common.{◌≡◌, ◌≤◌, ℕ, List, [], ◌∷◌, length, Option, Some, None, get_or, true≢false, arith, sym, ap, subst, ◌∙◌, slice_get}
use Rattle.hr_base.specs.Limits.{module_limit}
use Rattle.hr_base.specs.declared.place.Pos.{Pos}
use Rattle.hr_base.specs.declared.lexeme.Item.{Item}
use Rattle.hr_base.specs.declared.lexeme.Items.{Items}
use Rattle.hr_rules.specs.Lexing.{joined}
use Rattle.hr_rules.proofs.Reading.{readings_join_lem}
use Rattle.hr_lexer.proofs.Exactly.{no_cause}
use Rattle.hr_plain_tree.specs.declared.tree.Module.{Module}
use Rattle.hr_plain_tree.specs.Yields.{items_of, module_items}
use Rattle.hr_plain.specs.declared.loading.LoadError.{LoadError}
use Rattle.hr_plain.specs.declared.renaming.Sought.{Sought}
use Rattle.hr_plain.specs.declared.renaming.Why.{Why}
use Rattle.hr_plain.specs.Form.{IsPlain}
use Rattle.hr_plain.specs.Refusals.{IsLoadRefusal, load_number}
use Rattle.hr_plain.specs.Renaming.{IsNameAt, IsRenamed, IsWhy, Respelled, number_of, owner_at}
use Rattle.hr_plain.specs.Scoping.{occurrences_of}
use Rattle.hare.specs.Refactorings.{IsMeant, IsNoPlainStep, Renaming}
use Rattle.hare.proofs.OneTarget.{one_target}
use Rattle.hare.proofs.OneTree.{one_tree}

same_some : {X : Type 0} (x y : X) → Some x ≡ Some y → x ≡ y
same_some x y e = cc

no_number : (number : ℕ) → ◌≡◌ {A = Option ℕ} None (Some number) → ⊥
no_number number e = cc

-- one lexeme begins at a position
one_name : (tree : Module) (module_name : List ℕ) (pos : Pos) (lexeme other : ℕ) (item found : Item)
    → IsNameAt tree module_name pos lexeme item → IsNameAt tree module_name pos other found → (lexeme ≡ other) × (item ≡ found)
one_name tree module_name pos lexeme other item found p q =
    let number : lexeme ≡ other = same_some lexeme other (sym p.begins ∙ q.begins) in
    (number, same_some item found (sym p.item_is ∙ ap (slice_get (module_items tree)) number ∙ q.item_is))

-- the text of an accepted renaming is the target's
text_is : (tree : Module) (module_name : List ℕ) (pos : Pos) (new text : List ℕ) (lexeme : ℕ) (item : Item) (items : Items)
    → IsRenamed tree module_name pos new text → IsNameAt tree module_name pos lexeme item → Respelled tree lexeme item.lexeme.text new items
    → text ≡ joined items.list items.tail
text_is tree module_name pos new text lexeme item items renamed at respelled =
    let target : Items = items_of renamed.target in
    let name = one_name tree module_name pos renamed.lexeme lexeme renamed.item item renamed.may.name at in
    let here : Respelled tree lexeme item.lexeme.text new target =
    subst (λ i. Respelled tree lexeme i.lexeme.text new target) name.1 (subst (λ n. Respelled tree n renamed.item.lexeme.text new target) name.0 renamed.is_target.respelled)
    in
    let same : target ≡ items = one_target new (occurrences_of (owner_at tree lexeme item.lexeme.text) item.lexeme.text tree) (items_of tree) target items here respelled in
    readings_join_lem text target renamed.is_target.reads ∙ ap (λ x. joined x.list x.tail) same

-- a renaming has one text
one_renamed : (tree : Module) (module_name : List ℕ) (pos : Pos) (new text other : List ℕ) → IsRenamed tree module_name pos new text
    → IsRenamed tree module_name pos new other → text ≡ other
one_renamed tree module_name pos new text other p q =
    text_is tree module_name pos new text q.lexeme q.item (items_of q.target) p q.may.name q.is_target.respelled
    ∙ sym (readings_join_lem other (items_of q.target) q.is_target.reads)

-- a renaming that is accepted is refused for no cause but want of memory
accepted_or_refused : (tree : Module) (module_name : List ℕ) (pos : Pos) (new text : List ℕ) (why : Why) → IsRenamed tree module_name pos new text
    → IsWhy tree module_name pos new why → (number : ℕ) → number_of why ≡ Some number → ⊥
accepted_or_refused tree module_name pos new text (Why.NoSuchThing (Sought.Name name)) renamed cause number told = cause
accepted_or_refused tree module_name pos new text (Why.NoSuchThing (Sought.At place)) renamed cause number told = cause.1 renamed.lexeme renamed.item renamed.may.name
accepted_or_refused tree module_name pos new text Why.WrongForm renamed cause number told = cause.1 renamed.may.varid
accepted_or_refused tree module_name pos new text Why.NameInUse renamed cause number told = true≢false (sym cause.2 ∙ renamed.may.fresh)
accepted_or_refused tree module_name pos new text Why.OverLimit renamed (lexeme, item, items, may, respelled, over) number told =
    let long : length text ≡ length (joined items.list items.tail) = ap length (text_is tree module_name pos new text lexeme item items renamed may.name respelled) in
    omega (arith, over, renamed.within, long)
accepted_or_refused tree module_name pos new text (Why.Memory error) renamed cause number told = no_number number told

-- and a text of the form is
plain_or_refused : (old : List ℕ) (tree : Module) (error : LoadError) → length old ≤ module_limit → IsPlain old tree → IsLoadRefusal old error
    → (number : ℕ) → load_number error ≡ Some number → ⊥
plain_or_refused old tree (LoadError.Lex text error) short plain refusal number told = no_cause old error (items_of tree) short plain.lexes refusal.1
plain_or_refused old tree (LoadError.OutsideForm text) short plain refusal number told = refusal.2 tree plain
plain_or_refused old tree (LoadError.Memory error) short plain refusal number told = no_number number told

module _ (renaming : Renaming) (olds : List (List ℕ)) (old : List ℕ) (is : olds ≡ old ∷ []) where
  -- the bytes of the one text
  same_old : (other : List ℕ) → olds ≡ other ∷ [] → other ≡ old
  same_old other here = let lists : ◌≡◌ {A = List (List ℕ)} (other ∷ []) (old ∷ []) = sym here ∙ is in cc

  -- its tree
  same_tree : (other : List ℕ) (tree found : Module) → olds ≡ other ∷ [] → IsPlain other found → IsPlain old tree → found ≡ tree
  same_tree other tree found here p q = one_tree old found tree (subst (λ o. IsPlain o found) (same_old other here) p) q

  module _ (tree : Module) (plain : IsPlain old tree) where
    -- a text that the form's renaming makes is the one that is meant
    pub only_text : (made : List ℕ) → IsRenamed tree renaming.module_name renaming.pos renaming.new_name made → IsMeant renaming olds (made ∷ [])
    only_text made renamed other new here step =
        let found = same_tree other tree step.tree here step.plain plain in
        let theirs : IsRenamed tree renaming.module_name renaming.pos renaming.new_name new =
        subst (λ t. IsRenamed t renaming.module_name renaming.pos renaming.new_name new) found step.renamed
        in
        ap (λ text. text ∷ []) (one_renamed tree renaming.module_name renaming.pos renaming.new_name made new renamed theirs)

    -- where it is refused there is none
    pub no_step : (why : Why) → IsWhy tree renaming.module_name renaming.pos renaming.new_name why → (number : ℕ) → number_of why ≡ Some number
        → IsNoPlainStep renaming olds
    no_step why cause number told other new here step =
        let found = same_tree other tree step.tree here step.plain plain in
        let theirs : IsRenamed tree renaming.module_name renaming.pos renaming.new_name new =
        subst (λ t. IsRenamed t renaming.module_name renaming.pos renaming.new_name new) found step.renamed
        in
        accepted_or_refused tree renaming.module_name renaming.pos renaming.new_name new why theirs cause number told

  -- nor where the text is not of the form
  pub no_plain : (error : LoadError) → length old ≤ module_limit → IsLoadRefusal old error → (number : ℕ) → load_number error ≡ Some number
      → IsNoPlainStep renaming olds
  no_plain error short refusal number told other new here step =
      plain_or_refused old step.tree error short (subst (λ o. IsPlain o step.tree) (same_old other here) step.plain) refusal number told

-- a list of one text
pub one_text : (texts : List (List ℕ)) (text : List ℕ) → length texts ≡ 1 → text ≡ get_or texts 0 text → texts ≡ text ∷ []
one_text [] text one is = absurd (omega (arith, one))
one_text (first ∷ []) text one is = ap (λ t. t ∷ []) (sym is)
one_text (first ∷ second ∷ texts) text one is = absurd (omega (arith, one))

-- where there is none, any texts will do
pub meant_without : (renaming : Renaming) (olds news : List (List ℕ)) → IsNoPlainStep renaming olds → IsMeant renaming olds news
meant_without renaming olds news none old text here there = absurd (none old text here there)
