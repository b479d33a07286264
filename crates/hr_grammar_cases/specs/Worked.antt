-- Worked texts that are read as their trees.
use Rattle.std.specs.Prelude.{ℕ, List, [], ◌∷◌}
use lib.Chars.{codes}
use Rattle.hr_base.specs.declared.lexeme.Class.{Class}
use Rattle.hr_base.specs.declared.lexeme.Item.{Item}
use Rattle.hr_grammar.specs.Yields.{nesting_limit}
use Rattle.hr_tree.specs.declared.expressions.Exp.{Exp}
use Rattle.hr_tree.specs.declared.modules.Module.{Module}
use Rattle.hr_grammar.specs.Worked.{defines, annotated_in_let, section_of_lambda, case_in_if, sum_behind_case}
use Rattle.hr_grammar_cases.specs.Modules.{Derives}

-- an item, by what stands before it
abbrev item : Class → List ℕ → List ℕ → Item
item class trivia text = record { trivia = trivia; lexeme = record { class = class; text = text } }

-- `a = let b = 1 :: Int in b`: the inner block ends before `in`
abbrev pub annotated_in_let_items : List Item
annotated_in_let_items = item Class.VarId [] (codes "a") ∷ (item Class.ReservedOp (codes " ") (codes "=") ∷ (item Class.ReservedId (codes " ") (codes "let") ∷ (item Class.VarId (codes " ") (codes "b") ∷ (item Class.ReservedOp (codes " ") (codes "=") ∷ (item Class.Integer (codes " ") (codes "1") ∷ (item Class.ReservedOp (codes " ") (codes "::") ∷ (item Class.ConId (codes " ") (codes "Int") ∷ (item Class.ReservedId (codes " ") (codes "in") ∷ (item Class.VarId (codes " ") (codes "b") ∷ [])))))))))

-- `a = (\x -> x +)`: a section
abbrev pub section_of_lambda_items : List Item
section_of_lambda_items = item Class.VarId [] (codes "a") ∷ (item Class.ReservedOp (codes " ") (codes "=") ∷ (item Class.Special (codes " ") (codes "(") ∷ (item Class.ReservedOp [] (codes "\\") ∷ (item Class.VarId [] (codes "x") ∷ (item Class.ReservedOp (codes " ") (codes "->") ∷ (item Class.VarId (codes " ") (codes "x") ∷ (item Class.VarSym (codes " ") (codes "+") ∷ (item Class.Special [] (codes ")") ∷ []))))))))

-- `a = if case x of y -> y then 1 else 2`: the inner block ends before `then`
abbrev pub case_in_if_items : List Item
case_in_if_items = item Class.VarId [] (codes "a") ∷ (item Class.ReservedOp (codes " ") (codes "=") ∷ (item Class.ReservedId (codes " ") (codes "if") ∷ (item Class.ReservedId (codes " ") (codes "case") ∷ (item Class.VarId (codes " ") (codes "x") ∷ (item Class.ReservedId (codes " ") (codes "of") ∷ (item Class.VarId (codes " ") (codes "y") ∷ (item Class.ReservedOp (codes " ") (codes "->") ∷ (item Class.VarId (codes " ") (codes "y") ∷ (item Class.ReservedId (codes " ") (codes "then") ∷ (item Class.Integer (codes " ") (codes "1") ∷ (item Class.ReservedId (codes " ") (codes "else") ∷ (item Class.Integer (codes " ") (codes "2") ∷ []))))))))))))

-- `a = (case a of A -> 1 :: T + 2)`: the inner block ends before `+`
abbrev pub sum_behind_case_items : List Item
sum_behind_case_items = item Class.VarId [] (codes "a") ∷ (item Class.ReservedOp (codes " ") (codes "=") ∷ (item Class.Special (codes " ") (codes "(") ∷ (item Class.ReservedId [] (codes "case") ∷ (item Class.VarId (codes " ") (codes "a") ∷ (item Class.ReservedId (codes " ") (codes "of") ∷ (item Class.ConId (codes " ") (codes "A") ∷ (item Class.ReservedOp (codes " ") (codes "->") ∷ (item Class.Integer (codes " ") (codes "1") ∷ (item Class.ReservedOp (codes " ") (codes "::") ∷ (item Class.ConId (codes " ") (codes "T") ∷ (item Class.VarSym (codes " ") (codes "+") ∷ (item Class.Integer (codes " ") (codes "2") ∷ (item Class.Special [] (codes ")") ∷ [])))))))))))))

-- the module that binds `a`
abbrev pub defines_a : Exp → Module
defines_a body = defines (codes "a") body

-- they are read as their trees
abbrev pub WorkedTexts : Type 0
WorkedTexts =
    Derives nesting_limit (defines_a annotated_in_let) annotated_in_let_items
    × Derives nesting_limit (defines_a section_of_lambda) section_of_lambda_items
    × Derives nesting_limit (defines_a case_in_if) case_in_if_items
    × Derives nesting_limit (defines_a sum_behind_case) sum_behind_case_items
