-- What a text is read as, and why it is not read.
use Rattle.std.proofs.Common.{◌≡◌, ℕ, Bool, true, false, ◌&&◌, Some, None, List, Result, Ok, Err, MatchResult, IfOk, refl, sym, ap, subst, ◌∙◌, true≢false}
use Rattle.std.specs.List.{flat_map, list_all}
use Rattle.std.proofs.lemmas.List.Sums.{AllPass-from_list_all, list_all-from_AllPass}
use Rattle.hr_base.specs.declared.lexeme.Item.{Item}
use Rattle.hr_base.specs.declared.lexeme.Items.{Items}
use Rattle.hr_rules.specs.Lexemes.{LexesText}
use Rattle.hr_rules.proofs.Reading.{one_reading_lem}
use Rattle.hr_lexer.specs.declared.error.LexError.{LexError}
use Rattle.hr_lexer.specs.Refusals.{IsCause, OrMemory}
use Rattle.hr_plain_tree.specs.declared.tree.Equation.{Equation}
use Rattle.hr_plain_tree.specs.declared.tree.Module.{Module}
use Rattle.hr_plain_tree.specs.Yields.{equation_items, items_of, module_items}
use Rattle.hr_plain.specs.declared.loading.LoadError.{LoadError}
use Rattle.hr_plain.specs.Form.{IsForm, IsPlain, is_equation, is_plain_trivia, margins_of}
use Rattle.hr_plain.specs.Reading.{equations_of, unread}
use Rattle.hr_plain.specs.Refusals.{IsLoadRefusal}
use Rattle.hr_plain.specs.Sets.{are_scoped}
use Rattle.hr_plain.proofs.Basics.{both_left, both_right, both}
use Rattle.hr_plain.proofs.Parts.{AreRead, items_read, form_read}
use Rattle.hr_plain.proofs.Together.{scoped_sound, scoped_complete}

abbrev plain_item : Item → Bool
plain_item item = is_plain_trivia item.trivia

abbrev pub are_plain : Items → Bool
are_plain items = list_all (λ item. is_plain_trivia item.trivia) items.list && is_plain_trivia items.tail

abbrev module_of : List Equation → List ℕ → Module
module_of equations tail = record { equations = equations; tail = tail }

-- the tree that is read
pub loaded : (bytes : List ℕ) (items : Items) (equations : List Equation) → LexesText bytes items → are_plain items ≡ true → equations_of items.list ≡ Some equations
    → are_scoped equations ≡ true → IsPlain bytes (module_of equations items.tail)
loaded bytes items equations lexes plain read scoped =
    let are : AreRead None items.list equations = items_read items.list equations read in
    let yields : flat_map equation_items equations ≡ items.list = are.yields in
    let same : items ≡ items_of (module_of equations items.tail) = ap (λ l. record { list = l; tail = items.tail }) (sym yields) in
    record {
      lexes = subst (LexesText bytes) same lexes;
      form = record {
        trivia = AllPass-from_list_all plain_item (flat_map equation_items equations) (ap (list_all plain_item) yields ∙ both_left (list_all plain_item items.list) (is_plain_trivia items.tail) plain);
        tail = both_right (list_all plain_item items.list) (is_plain_trivia items.tail) plain;
        equations = AllPass-from_list_all is_equation equations are.form;
        margins = ap margins_of yields ∙ are.margins;
        scoped = scoped_sound equations scoped;
      };
    }

-- a text of the form has the items of its tree
same_items : (bytes : List ℕ) (items : Items) (tree : Module) → LexesText bytes items → IsPlain bytes tree → items_of tree ≡ items
same_items bytes items tree lexes is = one_reading_lem bytes (items_of tree) items is.lexes lexes

plain_tree : (tree : Module) → IsForm tree → are_plain (items_of tree) ≡ true
plain_tree tree is = both (list_all-from_AllPass plain_item (module_items tree) is.trivia) is.tail

read_tree : (tree : Module) → IsForm tree → equations_of (module_items tree) ≡ Some tree.equations
read_tree tree is = form_read tree.equations (list_all-from_AllPass is_equation tree.equations is.equations) is.margins

pub not_plain : (bytes : List ℕ) (items : Items) → LexesText bytes items → are_plain items ≡ false → IsLoadRefusal bytes (LoadError.OutsideForm 0)
not_plain bytes items lexes h = (
  refl,
  (items, lexes),
  λ tree is.
      true≢false (sym (plain_tree tree is.form) ∙ ap are_plain (same_items bytes items tree lexes is) ∙ h),
)

pub not_read : (bytes : List ℕ) (items : Items) → LexesText bytes items → equations_of items.list ≡ None → IsLoadRefusal bytes (LoadError.OutsideForm 0)
not_read bytes items lexes h = (
  refl,
  (items, lexes),
  λ tree is.
      let bad : Some tree.equations ≡ None = sym (read_tree tree is.form) ∙ ap (λ i. equations_of i.list) (same_items bytes items tree lexes is) ∙ h in
      absurd (cc),
)

pub not_scoped : (bytes : List ℕ) (items : Items) (equations : List Equation) → LexesText bytes items → equations_of items.list ≡ Some equations → are_scoped equations ≡ false
    → IsLoadRefusal bytes (LoadError.OutsideForm 0)
not_scoped bytes items equations lexes read h = (
  refl,
  (items, lexes),
  λ tree is.
      let found : Some tree.equations ≡ Some equations = sym (read_tree tree is.form) ∙ ap (λ i. equations_of i.list) (same_items bytes items tree lexes is) ∙ read in
      let same : tree.equations ≡ equations = cc in
      true≢false (sym (scoped_complete tree.equations is.form.scoped) ∙ ap are_scoped same ∙ h),
)

-- the lexer's refusals
pub unread_is : (bytes : List ℕ) (error : LexError) → OrMemory (IsCause bytes) error → IsLoadRefusal bytes (unread error)
unread_is bytes LexError.TooLong h = (refl, h)
unread_is bytes (LexError.BadUtf8 place) h = (refl, h)
unread_is bytes (LexError.OpenComment place) h = (refl, h)
unread_is bytes (LexError.LiteralTooWide place) h = (refl, h)
unread_is bytes (LexError.BadLexeme place) h = (refl, h)
unread_is bytes (LexError.Memory e) h = tt

-- what an answer that is handed on was
pub ok_given : {X E : Type 0} (F : Type 0) (r : Result X E) (y : X) (P : X → Type 0) → MatchResult r (λ x. ◌≡◌ {A = Result X F} (Ok y) (Ok x)) (λ e. ⊥) → IfOk r P → P y
ok_given F (Ok x) y P same holds = let is : y ≡ x = cc in subst P (sym is) holds
ok_given F (Err e) y P same holds = absurd same
