-- One text more is read, and what stands behind the trees of texts.
use Rattle.std.proofs.Common.{◌≡◌, ◌∙◌, ℕ, ◌<◌, ◌≤◌, ◌+◌, List, [], ◌∷◌, ◌++◌, length, drop, get_or, sym, ap, refl, subst, arith, zero, suc}
use Rattle.hr_base.specs.declared.lexeme.Items.{Items}
use Rattle.hr_rules.specs.Lexemes.{LexesText}
use Rattle.hr_tree.specs.Yields.{items_of}
use Rattle.hr_tree.specs.declared.modules.Module.{Module}
use Rattle.hr_tree_items.specs.Texts.{AreTextsOf, IsOneMore, IsRead, IsTextOf}

pub with_more : (texts : List (List ℕ)) (trees more : List Module) → AreTextsOf texts trees → AreTextsOf texts (trees ++ more)
with_more [] trees more are = tt
with_more (text ∷ texts) [] more are = absurd are
with_more (text ∷ texts) (tree ∷ trees) more are = (are.0, with_more texts trees more are.1)

-- trees of the texts that are left, behind those of the texts before, are those of all texts
abbrev pub Completes : List (List ℕ) → ℕ → List Module → Type 0
Completes texts number trees = (others : List Module) → AreTextsOf (drop number texts) others → AreTextsOf texts (trees ++ others)

drop_behind : (xs : List (List ℕ)) (n : ℕ) (x : List ℕ) → n < length xs → x ≡ get_or xs n x → drop n xs ≡ x ∷ drop (suc n) xs
drop_behind [] n x within is = absurd (omega (arith, within))
drop_behind (y ∷ ys) zero x within is = ap (λ z. z ∷ ys) (sym is)
drop_behind (y ∷ ys) (suc n) x within is = drop_behind ys n x (omega (arith, within)) is

suc_is : (n : ℕ) → suc n ≡ n + 1
suc_is n = omega arith

drop_here : (xs : List (List ℕ)) (n : ℕ) (x : List ℕ) → n < length xs → x ≡ get_or xs n x → drop n xs ≡ x ∷ drop (n + 1) xs
drop_here xs n x within is = drop_behind xs n x within is ∙ ap (λ m. x ∷ drop m xs) (suc_is n)

append_one : (xs : List Module) (x : Module) (ys : List Module) → (xs ++ x ∷ []) ++ ys ≡ xs ++ x ∷ ys
append_one [] x ys = refl
append_one (z ∷ xs) x ys = ap (λ rest. z ∷ rest) (append_one xs x ys)

pub one_more : (texts : List (List ℕ)) (number : ℕ) (text : List ℕ) (before after : List Module) → number < length texts → text ≡ get_or texts number text
    → Completes texts number before → IsOneMore text before after → Completes texts (number + 1) after
one_more texts number text before after within is completes (tree, more, read) others are =
    let all : AreTextsOf texts (before ++ tree ∷ others) =
    completes (tree ∷ others) (subst (λ left. AreTextsOf left (tree ∷ others)) (sym (drop_here texts number text within is)) (read, are))
    in
    subst (AreTextsOf texts) (sym (append_one before tree others) ∙ ap (λ trees. trees ++ others) (sym more)) all

none_left : (xs : List (List ℕ)) (n : ℕ) → length xs ≤ n → drop n xs ≡ []
none_left [] zero short = refl
none_left [] (suc n) short = refl
none_left (x ∷ xs) zero short = absurd (omega (arith, short))
none_left (x ∷ xs) (suc n) short = none_left xs n (omega (arith, short))

append_none : (xs : List Module) → xs ++ [] ≡ xs
append_none [] = refl
append_none (x ∷ xs) = ap (λ rest. x ∷ rest) (append_none xs)

pub completed : (texts : List (List ℕ)) (number : ℕ) (trees : List Module) → length texts ≤ number → Completes texts number trees → AreTextsOf texts trees
completed texts number trees short completes =
    subst (AreTextsOf texts) (append_none trees) (completes [] (subst (λ left. AreTextsOf left []) (sym (none_left texts number short)) tt))

pub still : (texts : List (List ℕ)) (text : List ℕ) (before after : List Module) → AreTextsOf texts before → IsOneMore text before after → AreTextsOf texts after
still texts text before after are (tree, more, read) = subst (AreTextsOf texts) (sym more) (with_more texts before (tree ∷ []) are)

pub is_more : (text : List ℕ) (items : Items) (before after : List Module) → LexesText text items → IsRead items before after → IsOneMore text before after
is_more text items before after lexes (tree, more, is) = (tree, more, subst (LexesText text) (sym is) lexes)
