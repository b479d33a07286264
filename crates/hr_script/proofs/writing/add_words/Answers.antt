use Rattle.std.proofs.Common.{◌++◌, ap, ◌∙◌, map, append_assoc}
use Rattle.hr_script.specs.Language.{verb_word}
use Rattle.hr_script.proofs.Joined.{spaced, joined}
use Rattle.hr_script.proofs.writing.add_words.Goals as goal

pub loop-word-init : goal.loop-word-init
loop-word-init c =
    ap (λ x. x ++ spaced (map (λ w. w.now) c.args.words.now)) c.in_ok-extend_from_slice.ensures.items
    ∙ append_assoc c.args.bytes.now.items _ (spaced (map (λ w. w.now) c.args.words.now))
    ∙ ap (λ x. c.args.bytes.now.items ++ x) (ap (λ x. x ++ spaced (map (λ w. w.now) c.args.words.now)) (c.as_bytes.ensures.value ∙ c.word.ensures) ∙ joined (verb_word c.args.verb) (map (λ w. w.now) c.args.words.now))
