use Rattle.std.proofs.Common.{rules, ◌≡◌, take, drop, ℕ, List, sym, ap, subst, ◌∙◌}
use Rattle.std.specs.Str.{all_scalars, chars, IsUtf8}
use Rattle.std.proofs.lemmas.Str.{scalars-chars, encodes-chars, encodes_same}
use lib.Utf8.{scalars, encodes}
use Rattle.hr_base.specs.declared.lexeme.Item.{Item}
use Rattle.hr_base.specs.declared.lexeme.Items.{Items}
use Rattle.hr_rules.specs.Lexemes.{class_of, is_piece, bars, led_by, mark_len, LexesText}
use Rattle.hr_rules.specs.Lexing.{Lexes}
use Rattle.hr_lexer.specs.Refusals.{IsStop, OrMemory}
use Rattle.hr_lexer.proofs.Bytes.{scalars_drop}
use Rattle.hr_lexer.proofs.Marks.{mark_front, mark_back}
use Rattle.hr_lexer.proofs.Whence.{refused}
use Rattle.hr_lexer.proofs.lexing.items.Goals as goal

pub read_items-requires-clause-scalars : goal.read_items-requires-clause-scalars
read_items-requires-clause-scalars c =
    let bytes : List ℕ = c.args.bytes.now in
    let cs : List ℕ = c.as_slice.result.now in
    let valid : IsUtf8 bytes = search rules in
    let spelled : bytes ≡ encodes cs = search rules in
    let same : cs ≡ chars bytes = encodes_same cs (chars bytes) (sym spelled ∙ sym (encodes-chars bytes valid)) in
    ap all_scalars c.split.ensures.characters ∙ scalars_drop c.mark_count.result cs (ap all_scalars same ∙ scalars-chars bytes valid)

pub returns-in_err-items-clause-refused : goal.returns-in_err-items-clause-refused
returns-in_err-items-clause-refused c =
    let bytes : List ℕ = c.args.bytes.now in
    let cs : List ℕ = c.as_slice.result.now in
    let spelled : bytes ≡ encodes cs = search rules in
    let valid : IsUtf8 bytes = search rules in
    let behind : c.split.result.1.bytes.now ≡ drop (mark_len bytes) bytes =
    c.split.ensures.bytes ∙ ap (λ n. encodes (drop n cs)) c.mark_count.ensures.value ∙ sym (mark_back cs bytes spelled) in
    let it : OrMemory (IsStop bytes) c.in_err-items.field-0.0 = refused bytes c.split.result.1.bytes.now valid behind c.in_err-items.field-0.0 c.in_err-items.ensures.refused in
    search rules

pub returns-clause-read : goal.returns-clause-read
returns-clause-read c =
    let bytes : List ℕ = c.args.bytes.now in
    let cs : List ℕ = c.as_slice.result.now in
    let list : List Item = c.in_ok-items.items.list in
    let tail : List ℕ = c.in_ok-items.items.tail in
    let spelled : bytes ≡ encodes cs = search rules in
    let mark : c.split.result.0.now ≡ take (mark_len bytes) bytes =
    c.split.ensures.text ∙ ap (λ n. encodes (take n cs)) c.mark_count.ensures.value ∙ sym (mark_front cs bytes spelled) in
    let behind : c.split.result.1.bytes.now ≡ drop (mark_len bytes) bytes =
    c.split.ensures.bytes ∙ ap (λ n. encodes (drop n cs)) c.mark_count.ensures.value ∙ sym (mark_back cs bytes spelled) in
    let lexes : Lexes class_of is_piece bars (drop (mark_len bytes) bytes) list tail = subst (λ x. Lexes class_of is_piece bars x list tail) behind c.in_ok-items.ensures.read in
    let all : (led : Items) → led ≡ led_by c.split.result.0.now list tail → LexesText bytes led =
    λ led e. (list, (tail, (lexes, e ∙ ap (λ m. led_by m list tail) mark))) in
    search rules
