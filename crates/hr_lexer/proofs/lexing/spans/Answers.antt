use Rattle.std.proofs.Common.{rules, ◌≡◌, ◌≢◌, ◌≤◌, ◌+◌, ◌-◌, ◌==◌, ◌++◌, ◌∷◌, [], ℕ, Bool, true, false, List, length, take, drop, refl, sym, ap, subst, ◌∙◌, arith}
use lib.Utf8.{scalars, encodes}
use Rattle.hr_lexer.specs.declared.spans.Span.{Span}
use Rattle.hr_lexer.specs.Spans.{items_at, past_spans}
use Rattle.hr_lexer.specs.Refusals.{IsHalt}
use Rattle.hr_lexer.proofs.Bytes.{scalars_drop}
use Rattle.hr_lexer.proofs.Steps.{stepped, halted, finished, back_len}
use Rattle.hr_lexer.proofs.SpansJoin.{all_taken, items_more, behind_more, within_more}
use Rattle.hr_lexer.proofs.Instances.{readers}
use Rattle.hr_lexer.proofs.lexing.spans.Goals as goal

zero_when : (b : Bool) (n : ℕ) → b ≡ true → b ≡ (n == 0) → n ≡ 0
zero_when b n p q = let e : (n == 0) ≡ true = sym q ∙ p in grind arith

some_when : (b : Bool) (n : ℕ) → b ≡ false → b ≡ (n == 0) → n ≢ 0
some_when b n p q = let e : (n == 0) ≡ false = sym q ∙ p in grind arith

shorter : (n : ℕ) (left rest : List ℕ) → rest ≡ drop n left → length (encodes rest) ≤ length (encodes left)
shorter n left rest e = subst (λ x. length (encodes x) ≤ length (encodes left)) (sym e) (back_len n left)

pub returns-then-is_empty-clause-read : goal.returns-then-is_empty-clause-read
returns-then-is_empty-clause-read c =
    let text : List ℕ = c.args.characters.now in
    let left : List ℕ = c.loop-rest.left.now in
    let n : ℕ = c.trivia_len-trivia.result in
    let rest : List ℕ = c.split_at.result.1.now in
    let empty : length rest ≡ 0 = zero_when c.is_empty.result (length rest) c.if-is_empty.true c.is_empty.ensures in
    let tail : encodes (past_spans c.loop-rest.spans.items text) ≡ encodes (take n left) =
    ap encodes (sym c.loop-rest.invariant.behind ∙ sym (all_taken n left rest c.split_at.ensures.back empty)) in
    finished readers (encodes text) (items_at c.loop-rest.spans.items text) left c.loop-rest.invariant.progress c.loop-rest.invariant.scalars
    n c.trivia_len-trivia.ensures.value rest c.split_at.ensures.back (encodes (past_spans c.loop-rest.spans.items text)) tail empty

pub utf8_len-requires : goal.utf8_len-requires
utf8_len-requires c =
    let less : length (encodes c.split_at.result.1.now) ≤ length (encodes c.loop-rest.left.now) = shorter c.trivia_len-trivia.result c.loop-rest.left.now c.split_at.result.1.now c.split_at.ensures.back in
    let place : length (encodes c.loop-rest.left.now) ≤ c.args.len = c.loop-rest.invariant.place in
    omega (arith, c.ranges.len.fits)

pub overflow_sub-len : goal.overflow_sub-len
overflow_sub-len c =
    let less : length (encodes c.split_at.result.1.now) ≤ length (encodes c.loop-rest.left.now) = shorter c.trivia_len-trivia.result c.loop-rest.left.now c.split_at.result.1.now c.split_at.ensures.back in
    let place : length (encodes c.loop-rest.left.now) ≤ c.args.len = c.loop-rest.invariant.place in
    let is : c.utf8_len.result ≡ length (encodes c.split_at.result.1.now) = c.utf8_len.ensures in
    omega arith

pub returns-in_default-clause-refused : goal.returns-in_default-clause-refused
returns-in_default-clause-refused c =
    let text : List ℕ = c.args.characters.now in
    let left : List ℕ = c.loop-rest.left.now in
    let n : ℕ = c.trivia_len-trivia.result in
    let rest : List ℕ = c.split_at.result.1.now in
    let less : length (encodes rest) ≤ length (encodes left) = shorter n left rest c.split_at.ensures.back in
    let place : length (encodes left) ≤ c.args.len = c.loop-rest.invariant.place in
    let is : c.utf8_len.result ≡ length (encodes rest) = c.utf8_len.ensures in
    let here : c.args.len - c.utf8_len.result + length (encodes rest) ≡ c.args.len = omega arith in
    subst (λ e. IsHalt c.args.len (encodes text) e) (sym c.cause_at.ensures)
    (halted readers (encodes text) (items_at c.loop-rest.spans.items text) left c.loop-rest.invariant.progress c.loop-rest.invariant.scalars
    n c.trivia_len-trivia.ensures.value rest c.split_at.ensures.back c.args.len (c.args.len - c.utf8_len.result)
    (some_when c.is_empty.result (length rest) c.if-is_empty.false c.is_empty.ensures) (sym c.lexeme_at.ensures.value ∙ c.in_default.is) here)

pub loop-rest-preserved : goal.loop-rest-preserved
loop-rest-preserved c =
    let text : List ℕ = c.args.characters.now in
    let left : List ℕ = c.loop-rest.left.now in
    let n : ℕ = c.trivia_len-trivia.result in
    let rest : List ℕ = c.split_at.result.1.now in
    let taken = c.in-Some.taken in
    let behind : List ℕ = c.split_at-in-loop-rest.result.1.now in
    let spans : List Span = c.loop-rest.spans.items in
    let others : List Span = c.push.new.self.items in
    let pushed : others ≡ spans ++ (record { trivia = n; taken = taken } ∷ []) = search rules in
    let within : taken.len ≤ length rest = c.in-Some.ensures.within in
    let less : length (encodes rest) ≤ length (encodes left) = shorter n left rest c.split_at.ensures.back in
    let less' : length (encodes behind) ≤ length (encodes rest) = shorter taken.len rest behind c.split_at-in-loop-rest.ensures.back in
    let place : length (encodes left) ≤ c.args.len = c.loop-rest.invariant.place in
    record {
      scalars = ap scalars c.split_at-in-loop-rest.ensures.back ∙ scalars_drop taken.len rest (ap scalars c.split_at.ensures.back ∙ scalars_drop n left c.loop-rest.invariant.scalars);
      place = omega arith;
      within = within_more spans others text left rest n taken c.loop-rest.invariant.behind c.split_at.ensures.back pushed c.loop-rest.invariant.within c.trivia_len-trivia.ensures.within within;
      behind = behind_more spans others text left rest n taken c.loop-rest.invariant.behind c.split_at.ensures.back pushed behind c.split_at-in-loop-rest.ensures.back;
      progress = stepped readers (encodes text) (items_at spans text) left c.loop-rest.invariant.progress c.loop-rest.invariant.scalars
          n c.trivia_len-trivia.ensures.value rest c.split_at.ensures.back taken (encodes (take n left)) (encodes (take taken.len rest)) behind (items_at others text)
          (sym c.lexeme_at.ensures.value ∙ c.in-Some.is) refl refl c.split_at-in-loop-rest.ensures.back
          (items_more spans others text left rest n taken c.loop-rest.invariant.behind c.split_at.ensures.back pushed);
    }
