-- A text has one list of items at most under the whole rules, and they join to it.
use Rattle.std.proofs.Common.{◌≡◌, ℕ, List, [], ◌∷◌, ◌++◌, refl, sym, ap, ◌∙◌, append_assoc, take, drop, take-append-drop}
use Rattle.hr_base.specs.declared.lexeme.Item.{Item}
use Rattle.hr_rules.specs.Lexing.{joined}
use Rattle.hr_rules.specs.Lexemes.{class_of, is_piece, bars, mark_len, led_by, OneReading, ReadingsJoin}
use Rattle.hr_rules.proofs.Lexing.{one_lexing, lexings_join_lem}
use Rattle.hr_rules.proofs.Apart.{rules_keep_apart}

pub one_reading_lem : OneReading
one_reading_lem bytes items others a b =
    let mark : List ℕ = take (mark_len bytes) bytes in
    let same = one_lexing rules_keep_apart a.1.1.0 b.1.1.0 refl in
    a.1.1.1 ∙ (λ k. led_by mark (same.0 k) (same.1 k)) ∙ sym b.1.1.1

led_joins : (mark : List ℕ) (list : List Item) (tail : List ℕ) → joined (led_by mark list tail).list (led_by mark list tail).tail ≡ mark ++ joined list tail
led_joins mark [] tail = refl
led_joins mark (item ∷ items) tail = append_assoc mark item.trivia (item.lexeme.text ++ joined items tail)

pub readings_join_lem : ReadingsJoin
readings_join_lem bytes items a =
    let mark : List ℕ = take (mark_len bytes) bytes in
    let rest : drop (mark_len bytes) bytes ≡ joined a.0 a.1.0 = lexings_join_lem class_of is_piece bars (drop (mark_len bytes) bytes) a.0 a.1.0 a.1.1.0 in
    sym (take-append-drop (mark_len bytes) bytes) ∙ ap (λ x. mark ++ x) rest ∙ sym (led_joins mark a.0 a.1.0) ∙ ap (λ x. joined x.list x.tail) (sym a.1.1.1)
