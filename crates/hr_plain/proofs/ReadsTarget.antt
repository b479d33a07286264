-- The text that a renaming writes is read as its target.
use Rattle.std.proofs.Common.{◌≡◌, ◌≢◌, ℕ, Bool, true, false, List, [], ◌∷◌, ◌++◌, take, drop, Some, refl, sym, ap, subst, ◌∙◌}
use Rattle.std.specs.Str.{IsUtf8}
use Rattle.std.proofs.lemmas.Str.{IsUtf8-append}
use Rattle.hr_base.specs.declared.lexeme.Class.{Class}
use Rattle.hr_base.specs.declared.lexeme.Item.{Item}
use Rattle.hr_base.specs.declared.lexeme.Items.{Items}
use Rattle.hr_rules.specs.Lexemes.{class_of, is_piece, bars, mark_len, led_by, LexesText}
use Rattle.hr_rules.specs.Lexing.{Trivia, Fits, Lexes, joined}
use Rattle.hr_plain_tree.specs.declared.tree.Module.{Module}
use Rattle.hr_plain_tree.specs.Yields.{items_of, module_items}
use Rattle.hr_lexer.specs.Words.{IsVarId}
use Rattle.hr_plain.specs.Form.{IsPlain, is_plain_trivia}
use Rattle.hr_plain.specs.Target.{IsParted, AllRespell, RespellsAll}
use Rattle.hr_plain.specs.Target.IsParted.{first, kept, apart, put}
use Rattle.hr_plain.specs.Target.AllRespell.{none, more}
use Rattle.hr_plain.proofs.ReadsFit.{spelled_in_class}
use Rattle.hr_plain.proofs.ReadsForm.{plain_module}
use Rattle.hr_plain.proofs.ReadsLexed.{IsPlainLexeme, ArePlain, Lexed, lexes, lexed_text, lexed_utf8, led_by_nothing, unmarked}
use Rattle.hr_plain.proofs.ReadsLexed.IsPlainLexeme.{variable, integer, left, right, equals}
use Rattle.hr_plain.proofs.ReadsLinks.{OnlyVariables, Link, linked, plain_again}
use Rattle.hr_plain.proofs.ReadsNames.{word_fits, word_stops, left_fits, right_fits, equals_fits}
use Rattle.hr_plain.proofs.ReadsTrivia.{not_empty, trivia_before, blank_before}

-- a lexeme that stays
stays : (item : Item) (a b : List ℕ) → IsPlainLexeme item → Fits class_of bars item.lexeme.class item.lexeme.text a → IsUtf8 b → Link item.lexeme.text a b
    → Fits class_of bars item.lexeme.class item.lexeme.text b
stays item a b (variable e) f u link =
    let is : class_of item.lexeme.text a ≡ Some Class.VarId = f.is ∙ ap Some e in
    subst (λ class. Fits class_of bars class item.lexeme.text b) (sym e) (word_fits item.lexeme.text a b is u (link.names (word_stops item.lexeme.text a is)))
stays item a b (integer e) f u link =
    subst (λ class. Fits class_of bars class item.lexeme.text b) (sym e) (link.numbers (subst (λ class. Fits class_of bars class item.lexeme.text a) e f))
stays item a b (left e) f u link =
    subst (λ x. Fits class_of bars item.lexeme.class x b) (sym e) (left_fits item.lexeme.class a b (subst (λ x. Fits class_of bars item.lexeme.class x a) e f) u)
stays item a b (right e) f u link =
    subst (λ x. Fits class_of bars item.lexeme.class x b) (sym e) (right_fits item.lexeme.class a b (subst (λ x. Fits class_of bars item.lexeme.class x a) e f) u)
stays item a b (equals e) f u link =
    subst (λ x. Fits class_of bars item.lexeme.class x b) (sym e) (equals_fits item.lexeme.class a b (subst (λ x. Fits class_of bars item.lexeme.class x a) e f) u link.symbols)

-- what stands before a new text
parted_before : {new before t t' : List ℕ} → IsParted new before t t' → (class : Class) (x a b : List ℕ) → Trivia is_piece t (x ++ a) → Fits class_of bars class x a → IsUtf8 b → Trivia is_piece t' b
parted_before (first old) class x a b is f u = trivia_before class old x a b is f u
parted_before (kept before c old) class x a b is f u = trivia_before class (c ∷ old) x a b is f u
parted_before (apart before are) class x a b is f u = trivia_before class [] x a b is f u
parted_before (put c before not_apart) class x a b is f u = blank_before b u

-- items lex the text that they join to, where items that did are respelled
pub respelled_lexed : {new before : List ℕ} {marks : List Bool} {olds items : List Item} (tail : List ℕ) → IsVarId new → is_plain_trivia tail ≡ true → AllRespell new before marks olds items
    → Lexed olds tail → ArePlain olds → OnlyVariables marks olds → Lexed items tail
respelled_lexed tail new_is plain (none before) l p o = l
respelled_lexed {new} tail new_is plain (more before false marks old item olds items r rest) l p o =
    let a : List ℕ = joined olds tail in
    let b : List ℕ = joined items tail in
    let behind : Lexed items tail = respelled_lexed tail new_is plain rest l.1.1 p.1 o.1 in
    let u : IsUtf8 b = lexed_utf8 items tail behind in
    let old_some : old.lexeme.text ≢ [] = not_empty old.lexeme.class old.lexeme.text a l.1.0.is in
    let some : item.lexeme.text ≢ [] = subst (λ (i : Item). i.lexeme.text ≢ []) (sym r) old_some in
    let link : Link old.lexeme.text a b = subst (λ (i : Item). Link i.lexeme.text a b) r (linked tail new_is plain rest some l.1.1 behind p.1 o.1) in
    let text : IsUtf8 old.lexeme.text = (spelled_in_class old.lexeme.class old.lexeme.text a l.1.0.is).front in
    let there : Lexed (old ∷ items) tail = (
      trivia_before old.lexeme.class old.trivia old.lexeme.text a (old.lexeme.text ++ b) l.0 l.1.0 (IsUtf8-append old.lexeme.text b text u),
      (stays old a b p.0.lexeme l.1.0 u link, behind),
    ) in
    subst (λ (i : Item). Lexed (i ∷ items) tail) (sym r) there
respelled_lexed {new} tail new_is plain (more before true marks old item olds items r rest) l p o =
    let a : List ℕ = joined olds tail in
    let b : List ℕ = joined items tail in
    let behind : Lexed items tail = respelled_lexed tail new_is plain rest l.1.1 p.1 o.1 in
    let u : IsUtf8 b = lexed_utf8 items tail behind in
    let new_some : new ≢ [] = not_empty Class.VarId new [] new_is in
    let text : item.lexeme.text ≡ new = ap (λ l. l.text) r.0 in
    let class : item.lexeme.class ≡ Class.VarId = ap (λ l. l.class) r.0 ∙ o.0 refl in
    let some : item.lexeme.text ≢ [] = subst (λ x. x ≢ []) (sym text) new_some in
    let link : Link item.lexeme.text a b = linked tail new_is plain rest some l.1.1 behind p.1 o.1 in
    let old_is : class_of old.lexeme.text a ≡ Some Class.VarId = l.1.0.is ∙ ap Some (o.0 refl) in
    let fits : Fits class_of bars Class.VarId new b = word_fits new [] b new_is u (link.names (word_stops old.lexeme.text a old_is)) in
    let trivia : Trivia is_piece item.trivia (new ++ b) = parted_before r.1 old.lexeme.class old.lexeme.text a (new ++ b) l.0 l.1.0 (IsUtf8-append new b (spelled_in_class Class.VarId new [] new_is).front u) in (
      subst (λ x. Trivia is_piece item.trivia (x ++ b)) (sym text) trivia,
      (
        subst (λ x. Fits class_of bars item.lexeme.class x b) (sym text) (subst (λ k. Fits class_of bars k new b) (sym class) fits),
        behind,
      ),
    )

take_none : (text : List ℕ) → take 0 text ≡ []
take_none [] = refl
take_none (c ∷ text) = refl

drop_none : (text : List ℕ) → drop 0 text ≡ text
drop_none [] = refl
drop_none (c ∷ text) = refl

-- items without a byte order mark lex their text
unmarked_lexes : (items : List Item) (tail : List ℕ) → Lexed items tail → mark_len (joined items tail) ≡ 0 → LexesText (joined items tail) (record { list = items; tail = tail })
unmarked_lexes items tail l e =
    let bytes : List ℕ = joined items tail in
    let whole : drop (mark_len bytes) bytes ≡ bytes = ap (λ n. drop n bytes) e ∙ drop_none bytes in
    let led : led_by (take (mark_len bytes) bytes) items tail ≡ record { list = items; tail = tail } =
    ap (λ n. led_by (take n bytes) items tail) e ∙ (ap (λ mark. led_by mark items tail) (take_none bytes) ∙ led_by_nothing items tail) in
    (items, (tail, (subst (λ x. Lexes class_of is_piece bars x items tail) (sym whole) (lexes items tail l), sym led)))

-- the law
pub target_reads : (bytes : List ℕ) (tree : Module) → IsPlain bytes tree → (marks : List Bool) → OnlyVariables marks (module_items tree) → (new : List ℕ) → IsVarId new
    → (items : Items) → RespellsAll new marks (items_of tree) items → LexesText (joined items.list items.tail) items
target_reads bytes tree plain marks only new new_is items respells =
    let olds : List Item = module_items tree in
    let p : ArePlain olds = plain_module tree plain.form in
    let l : Lexed olds tree.tail = lexed_text bytes olds tree.tail p plain.form.tail plain.lexes in
    let there : Lexed items.list tree.tail = respelled_lexed tree.tail new_is plain.form.tail respells.lexemes l p only in
    let again : ArePlain items.list = plain_again respells.lexemes p only in
    let same : items.tail ≡ tree.tail = respells.tail_stays in
    let here : Lexed items.list items.tail = subst (λ t. Lexed items.list t) (sym same) there in
    unmarked_lexes items.list items.tail here (unmarked items.list items.tail here again (ap is_plain_trivia same ∙ plain.form.tail))
