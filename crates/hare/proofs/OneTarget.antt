-- The items of a target are determined by the old ones, the marks and the new name.
use Rattle.std.proofs.Common.{◌≡◌, ℕ, Bool, true, false, List, ◌∷◌, refl, sym, ap, subst, ◌∙◌}
use Rattle.hr_base.specs.declared.lexeme.Item.{Item}
use Rattle.hr_base.specs.declared.lexeme.Items.{Items}
use Rattle.hr_lexer.specs.Words.{AreApart}
use Rattle.hr_plain.specs.Target.{IsParted, Respells, AllRespell, RespellsAll}
use Rattle.hr_plain.specs.Target.IsParted.{first, kept, apart, put}
use Rattle.hr_plain.specs.Target.AllRespell.{none, more}

module _ (new : List ℕ) where
  -- one blank or nothing: two texts are read apart, or they are not
  one_or_other : (c : ℕ) (before other : List ℕ) → AreApart before new → ¬ (AreApart (c ∷ other) new) → before ≡ c ∷ other → ⊥
  one_or_other c before other are not_apart e = not_apart (subst (λ text. AreApart text new) e are)

  one_parting : {before old a before' old' b : List ℕ} → IsParted new before old a → IsParted new before' old' b → before ≡ before' → old ≡ old' → a ≡ b
  one_parting (first o) (first o') e same = same
  one_parting (first o) (kept t c o') e same = same
  one_parting (first o) (apart t are) e same = same
  one_parting (first o) (put c t isnt) e same = absurd cc
  one_parting (kept t c o) (first o') e same = same
  one_parting (kept t c o) (kept t' d o') e same = same
  one_parting (kept t c o) (apart t' are) e same = same
  one_parting (kept t c o) (put d t' isnt) e same = absurd cc
  one_parting (apart t are) (first o') e same = same
  one_parting (apart t are) (kept t' c o') e same = same
  one_parting (apart t are) (apart t' are') e same = refl
  one_parting (apart t are) (put c t' isnt) e same = absurd (one_or_other c t t' are isnt e)
  one_parting (put c t isnt) (first o') e same = absurd cc
  one_parting (put c t isnt) (kept t' d o') e same = absurd cc
  one_parting (put c t isnt) (apart t' are) e same = absurd (one_or_other c t' t are isnt (sym e))
  one_parting (put c t isnt) (put d t' isnt') e same = refl

  one_item : (mark mark' : Bool) (before before' : List ℕ) (old old' a b : Item) → mark ≡ mark' → before ≡ before' → old ≡ old'
      → Respells new mark before old a → Respells new mark' before' old' b → a ≡ b
  one_item false false before before' old old' a b m e same p q = p ∙ same ∙ sym q
  one_item false true before before' old old' a b m e same p q = absurd cc
  one_item true false before before' old old' a b m e same p q = absurd cc
  one_item true true before before' old old' a b m e same p q =
      let trivia : a.trivia ≡ b.trivia = one_parting p.1 q.1 e (ap (λ item. item.trivia) same) in
      let lexeme : a.lexeme ≡ b.lexeme = p.0 ∙ ap (λ item. record { class = item.lexeme.class; text = new }) same ∙ sym q.0 in
      λ k. record { trivia = trivia k; lexeme = lexeme k }

  one_respelling : {before before' : List ℕ} {marks marks' : List Bool} {olds olds' now others : List Item} → AllRespell new before marks olds now → AllRespell new before' marks' olds' others
      → before ≡ before' → marks ≡ marks' → olds ≡ olds' → now ≡ others
  one_respelling (none before) (none before') e m same = refl
  one_respelling (none before) (more before' mark' marks' old' b olds' others q qs) e m same = absurd cc
  one_respelling (more before mark marks old a olds now p ps) (none before') e m same = absurd cc
  one_respelling (more before mark marks old a olds now p ps) (more before' mark' marks' old' b olds' others q qs) e m same =
      let mark_is : mark ≡ mark' = cc in
      let old_is : old ≡ old' = cc in
      let marks_are : marks ≡ marks' = cc in
      let olds_are : olds ≡ olds' = cc in
      let here : a ≡ b = one_item mark mark' before before' old old' a b mark_is e old_is p q in
      let behind : now ≡ others = one_respelling ps qs (ap (λ item. item.lexeme.text) here) marks_are olds_are in
      λ k. here k ∷ behind k

-- one list of items at most comes from the old ones, and one tail
pub one_target : (new : List ℕ) (marks : List Bool) (old a b : Items) → RespellsAll new marks old a → RespellsAll new marks old b → a ≡ b
one_target new marks old a b p q =
    let list : a.list ≡ b.list = one_respelling new p.lexemes q.lexemes refl refl refl in
    let tail : a.tail ≡ b.tail = p.tail_stays ∙ sym q.tail_stays in
    λ k. record { list = list k; tail = tail k }
