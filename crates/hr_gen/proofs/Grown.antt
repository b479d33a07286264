-- One module more.
use Rattle.std.proofs.Common.{◌≡◌, ℕ, ◌+◌, suc, List, [], ◌∷◌, ◌++◌, refl, sym, ap, ◌∙◌, append_assoc, arith}
use Rattle.hr_script.specs.declared.command.Command.{Command}
use Rattle.hr_gen.specs.Project.{module_text, module_texts, renaming, parameter, module_commands}

next : (k : ℕ) → suc k ≡ k + 1
next k = omega arith

pub text_more : (seed size k : ℕ) (texts after : List (List ℕ)) (text : List ℕ) → after ≡ texts ++ text ∷ [] → texts ≡ module_texts seed size k
    → text ≡ module_text seed size k → after ≡ module_texts seed size (k + 1)
text_more seed size k texts after text pushed before is =
    pushed ∙ ap (λ x. x ++ text ∷ []) before ∙ ap (λ x. module_texts seed size k ++ x ∷ []) is ∙ ap (module_texts seed size) (next k)

pub commands_more : (k : ℕ) (list one two : List Command) (c d : Command) → one ≡ list ++ c ∷ [] → two ≡ one ++ d ∷ [] → list ≡ module_commands k
    → c ≡ renaming k → d ≡ parameter k → two ≡ module_commands (k + 1)
commands_more k list one two c d first second before is also =
    second ∙ ap (λ x. x ++ d ∷ []) first ∙ append_assoc list (c ∷ []) (d ∷ []) ∙ ap (λ x. x ++ c ∷ d ∷ []) before
    ∙ ap (λ x. module_commands k ++ x ∷ d ∷ []) is ∙ ap (λ x. module_commands k ++ renaming k ∷ x ∷ []) also ∙ ap module_commands (next k)
