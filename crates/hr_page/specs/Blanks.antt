-- What stands before new lexemes, and which blanks and comments have a comment.
use Rattle.std.specs.Prelude.{ℕ, Bool, true, false, ◌&&◌, ◌==◌, List, [], ◌∷◌, if◌then◌else◌, codes}
use Rattle.std.specs.List.{list_any}
use Rattle.hr_base.specs.declared.lexeme.Class.{Class}
use Rattle.hr_base.specs.declared.lexeme.Lexeme.{Lexeme}
use Rattle.hr_rules.specs.Names.{is_one_of}

-- each comment has a dash (45), and no blank has one
abbrev pub has_comment : List ℕ → Bool
has_comment trivia = list_any (λ b. b == 45) trivia

abbrev pub is_special : Class → Bool
is_special Class.Special = true
is_special _ = false

abbrev pub opens : Lexeme → Bool
opens lexeme = is_special lexeme.class && is_one_of (codes "(" ∷ codes "{" ∷ codes "[" ∷ []) lexeme.text

abbrev pub joins : Lexeme → Bool
joins lexeme = is_special lexeme.class && is_one_of (codes ")" ∷ codes "}" ∷ codes "," ∷ codes ";" ∷ []) lexeme.text

-- New lexemes are one blank (32) apart, without a blank behind `(`, `{`, `[` and before `)`, `}`, `,`, `;`:
--     g y = f y                       g y = (f undefined) y
abbrev pub new_trivia : Lexeme → Lexeme → List ℕ
new_trivia before lexeme = if opens before then [] else if joins lexeme then [] else 32 ∷ []
