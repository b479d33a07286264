-- The loop that looks for the end of a nested comment.
use Rattle.std.proofs.Common.{◌≡◌, ◌≢◌, ◌≤◌, ℕ, zero, suc, ◌+◌, ◌-◌, true, false, ◌==◌, List, [], ◌∷◌, length, get_or, take, drop, Option, Some, None, refl, sym, ap, subst, ◌∙◌, true≢false, arith}
use Rattle.std.specs.Option.{option_map}
use Rattle.std.proofs.lemmas.List.{take_rest}
use Rattle.hr_rules.specs.Comments.{opens, shuts, closed_len}
use Rattle.hr_rules.proofs.Apart.{and_false}
use Rattle.hr_lexer.proofs.PiecesRead.{past_first}

-- a text with a first character, and the others
pub first_and : (rest : List ℕ) (c : ℕ) → 1 ≤ length rest → c ≡ get_or rest 0 c → rest ≡ c ∷ take (length rest - 1) (drop 1 rest)
first_and [] c le e = absurd (omega arith)
first_and (x ∷ rest) c le e = λ k. sym e k ∷ sym (take_rest (x ∷ rest) 1) k

-- the answer for what is left, more by what was read
abbrev pub read : List ℕ → List ℕ → Option ℕ → Option ℕ
read text rest answer = option_map (λ n. n + (length text - length rest)) answer

-- one character more was read
pub read_one : (text rest : List ℕ) (c : ℕ) (answer : Option ℕ) → length (c ∷ rest) ≤ length text → read text (c ∷ rest) (option_map suc answer) ≡ read text rest answer
read_one text rest c None le = refl
read_one text rest c (Some n) le = let same : suc n + (length text - length (c ∷ rest)) ≡ n + (length text - length rest) = omega arith in ap Some same

-- where the loop is
pub record ClosedAt (text rest : List ℕ) (depth : ℕ) : Type 0 where
  pub left : length rest ≤ length text
  pub shallow : depth + length rest ≤ length text
  pub same : read text rest (closed_len false depth rest) ≡ closed_len false 0 text

-- behind both characters of a mark
behind_mark : (text rest : List ℕ) (c b depth : ℕ) → length (c ∷ b ∷ rest) ≤ length text
    → read text (c ∷ b ∷ rest) (option_map suc (closed_len true depth (b ∷ rest))) ≡ read text rest (closed_len false depth rest)
behind_mark text rest c b depth le =
    let less : length (b ∷ rest) ≤ length text = omega arith in
    read_one text (b ∷ rest) c (option_map suc (closed_len false depth rest)) le ∙ read_one text rest b (closed_len false depth rest) less

opened_at : (text tail : List ℕ) (c depth : ℕ) → ClosedAt text (c ∷ tail) depth → opens c tail ≡ true → ClosedAt text (drop 1 tail) (depth + 1)
opened_at text [] c depth at is = absurd (true≢false (sym is ∙ and_false (c == 123)))
opened_at text (b ∷ rest) c depth at is =
    let left : length (c ∷ b ∷ rest) ≤ length text = at.left in
    let shallow : depth + length (c ∷ b ∷ rest) ≤ length text = at.shallow in
    let more : suc depth ≡ depth + 1 = omega arith in
    let whole : read text rest (closed_len false (suc depth) rest) ≡ closed_len false 0 text =
    sym (behind_mark text rest c b (suc depth) left) ∙ ap (λ o. read text (c ∷ b ∷ rest) (past_first o (shuts c (b ∷ rest)) depth (b ∷ rest))) (sym is) ∙ at.same in
    record {
      left = omega arith;
      shallow = omega arith;
      same = subst (λ d. read text rest (closed_len false d rest) ≡ closed_len false 0 text) more whole;
    }

shut_at : (text tail : List ℕ) (c depth : ℕ) → ClosedAt text (c ∷ tail) depth → opens c tail ≡ false → shuts c tail ≡ true → depth ≢ 0 → ClosedAt text (drop 1 tail) (depth - 1)
shut_at text tail c zero at unopened is some = absurd (some refl)
shut_at text [] c (suc depth) at unopened is some = absurd (true≢false (sym is ∙ and_false (c == 45)))
shut_at text (b ∷ rest) c (suc depth) at unopened is some =
    let left : length (c ∷ b ∷ rest) ≤ length text = at.left in
    let shallow : suc depth + length (c ∷ b ∷ rest) ≤ length text = at.shallow in
    let less : depth ≡ suc depth - 1 = omega arith in
    let whole : read text rest (closed_len false depth rest) ≡ closed_len false 0 text =
    sym (behind_mark text rest c b depth left)
    ∙ ap (λ s. read text (c ∷ b ∷ rest) (past_first false s (suc depth) (b ∷ rest))) (sym is)
    ∙ ap (λ o. read text (c ∷ b ∷ rest) (past_first o (shuts c (b ∷ rest)) (suc depth) (b ∷ rest))) (sym unopened) ∙ at.same in
    record {
      left = omega arith;
      shallow = omega arith;
      same = subst (λ d. read text rest (closed_len false d rest) ≡ closed_len false 0 text) less whole;
    }

past_at : (text tail : List ℕ) (c depth : ℕ) → ClosedAt text (c ∷ tail) depth → opens c tail ≡ false → shuts c tail ≡ false → ClosedAt text tail depth
past_at text tail c depth at unopened none =
    let left : length (c ∷ tail) ≤ length text = at.left in
    let shallow : depth + length (c ∷ tail) ≤ length text = at.shallow in
    record {
      left = omega arith;
      shallow = omega arith;
      same = sym (read_one text tail c (closed_len false depth tail) left)
          ∙ ap (λ s. read text (c ∷ tail) (past_first false s depth tail)) (sym none)
          ∙ ap (λ o. read text (c ∷ tail) (past_first o (shuts c tail) depth tail)) (sym unopened) ∙ at.same;
    }

-- the three steps of the loop, where its text is known by an equation
pub opened : (text rest tail behind : List ℕ) (c depth : ℕ) → ClosedAt text rest depth → rest ≡ c ∷ tail → opens c tail ≡ true → behind ≡ drop 1 tail → ClosedAt text behind (depth + 1)
opened text rest tail behind c depth at whole is same =
    subst (λ x. ClosedAt text x (depth + 1)) (sym same) (opened_at text tail c depth (subst (λ x. ClosedAt text x depth) whole at) is)

pub shut_one : (text rest tail behind : List ℕ) (c depth : ℕ) → ClosedAt text rest depth → rest ≡ c ∷ tail → opens c tail ≡ false → shuts c tail ≡ true → depth ≢ 0 → behind ≡ drop 1 tail → ClosedAt text behind (depth - 1)
shut_one text rest tail behind c depth at whole unopened is some same =
    subst (λ x. ClosedAt text x (depth - 1)) (sym same) (shut_at text tail c depth (subst (λ x. ClosedAt text x depth) whole at) unopened is some)

pub passed : (text rest tail : List ℕ) (c depth : ℕ) → ClosedAt text rest depth → rest ≡ c ∷ tail → opens c tail ≡ false → shuts c tail ≡ false → ClosedAt text tail depth
passed text rest tail c depth at whole unopened none = past_at text tail c depth (subst (λ x. ClosedAt text x depth) whole at) unopened none
