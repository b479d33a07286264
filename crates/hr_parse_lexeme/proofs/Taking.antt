-- A lexeme that is ahead is taken, and no block ends with it.
use Rattle.std.proofs.Common.{◌≡◌, ℕ, Bool, true, false, List, [], ◌∷◌, Option, if◌then◌else◌, refl, ap, ap₂, ◌∙◌, sym, subst, inl, inr}
use lib.Chars.{codes}
use Rattle.hr_base.specs.declared.place.Pos.{Pos}
use Rattle.hr_base.specs.declared.lexeme.Class.{Class}
use Rattle.hr_base.specs.declared.lexeme.Item.{Item}
use Rattle.hr_rules.specs.declared.role.Role.{Role}
use Rattle.hr_rules.specs.declared.block.OpenBlock.{OpenBlock}
use Rattle.hr_rules.specs.declared.block.Placed.{Placed}
use Rattle.hr_rules.specs.Names.{is_spelled, is_one_of}
use Rattle.hr_rules.specs.Roles.{role_of, role_by, fixity_words, top_words}
use Rattle.hr_rules.specs.Blocks.{is_close_brace, blocks_behind}
use Rattle.hr_layout.specs.Standing.{Standing, next_of, taken}
use Rattle.hr_parse_lexeme.specs.declared.mark.Mark.{Mark}
use Rattle.hr_parse_lexeme.specs.declared.sort.Sort.{Sort}
use Rattle.hr_parse_lexeme.specs.Marks.{IsMark, mark_class, mark_text}
use Rattle.hr_parse_lexeme.specs.Sorts.{IsSort, has_sort}
use Rattle.hr_parse_lexeme.specs.Reads.{Accepts, IsAhead}

-- what is no closing brace leaves the blocks
pub kept : (role : Role) (blocks : List OpenBlock) → is_close_brace role ≡ false → blocks_behind role blocks ≡ blocks
kept role [] e = refl
kept role (OpenBlock.Implicit col kind ∷ outer) e = refl
kept role (OpenBlock.Explicit ∷ outer) e = ap (λ closes. if closes then outer else OpenBlock.Explicit ∷ outer) e

-- lexemes of a kind that no closing brace is of
abbrev pub OpenKind : (Item → Type 0) → Type 0
OpenKind Is = (item : Item) → Is item → is_close_brace (role_of item.lexeme) ≡ false

took_next : (Is : Item → Type 0) → OpenKind Is → (rest : List Placed) (end : Pos) (blocks : List OpenBlock) (behind_of : Bool) → IsAhead Is blocks rest
    → Accepts Is (next_of rest) (record { rest = rest; end = end; blocks = blocks; behind_of = behind_of }) (taken (record { rest = rest; end = end; blocks = blocks; behind_of = behind_of }))
took_next Is passes [] end blocks behind_of h = elim h [ ]
took_next Is passes (next ∷ rest) end blocks behind_of h =
    record { is = h.1; taken = record { read = λ levels within. (h.0, refl, refl); blocks = kept (role_of next.item.lexeme) blocks (passes next.item h.1) } }

took : (Is : Item → Type 0) → OpenKind Is → (found : Option Item) (before after : Standing) → IsAhead Is before.blocks before.rest
    → found ≡ next_of before.rest → after ≡ taken before → Accepts Is found before after
took Is passes found before after ahead item goes =
    subst (λ f. Accepts Is f before after) (sym item)
    (subst (λ a. Accepts Is (next_of before.rest) before a) (sym goes) (took_next Is passes before.rest before.end before.blocks before.behind_of ahead))

mark_open : (mark : Mark) → is_close_brace (role_by (mark_class mark) (mark_text mark)) ≡ false
mark_open Mark.LeftParen = refl
mark_open Mark.RightParen = refl
mark_open Mark.LeftSquare = refl
mark_open Mark.RightSquare = refl
mark_open Mark.LeftBrace = refl
mark_open Mark.Comma = refl
mark_open Mark.Semicolon = refl
mark_open Mark.Backquote = refl
mark_open Mark.Equals = refl
mark_open Mark.Bar = refl
mark_open Mark.Arrow = refl
mark_open Mark.BackArrow = refl
mark_open Mark.DoubleColon = refl
mark_open Mark.Colon = refl
mark_open Mark.Dots = refl
mark_open Mark.Backslash = refl
mark_open Mark.At = refl
mark_open Mark.Tilde = refl
mark_open Mark.Minus = refl
mark_open Mark.As = refl
mark_open Mark.Hiding = refl
mark_open Mark.Qualified = refl
mark_open _ = refl

abbrev closes : Class → List ℕ → Bool
closes class text = is_close_brace (role_by class text)

pub mark_is_open : (mark : Mark) → OpenKind (IsMark mark)
unfolding role_of
mark_is_open mark item h = ap₂ closes h.0 h.1 ∙ mark_open mark

either : (test : Bool) (first second : Role) → is_close_brace first ≡ false → is_close_brace second ≡ false → is_close_brace (if test then first else second) ≡ false
either true first second e f = e
either false first second e f = f

word_open : (text : List ℕ) → closes Class.ReservedId text ≡ false
word_open text =
    either (is_spelled (codes "_") text) _ _ refl (either (is_spelled (codes "where") text) _ _ refl (either (is_spelled (codes "of") text) _ _ refl
    (either (is_one_of fixity_words text) _ _ refl (either (is_one_of top_words text) _ _ refl refl))))

symbol_open : (text : List ℕ) → closes Class.VarSym text ≡ false
symbol_open text = either (is_spelled (codes "-") text) _ _ refl refl

-- a class but that of the brackets
of_class : (class : Class) → ((text : List ℕ) → closes class text ≡ false) → (item : Item) → item.lexeme.class ≡ class → is_close_brace (role_of item.lexeme) ≡ false
unfolding role_of
of_class class passes item e = ap (λ c. closes c item.lexeme.text) e ∙ passes item.lexeme.text

pub sort_is_open : (sort : Sort) → OpenKind (IsSort sort)
sort_is_open Sort.Variable item h = of_class Class.VarId (λ text. refl) item h
sort_is_open Sort.Constructor item h = of_class Class.ConId (λ text. refl) item h
sort_is_open Sort.VariableSymbol item h = of_class Class.VarSym symbol_open item h
sort_is_open Sort.ConstructorSymbol item h = of_class Class.ConSym (λ text. refl) item h
sort_is_open Sort.NamedVariable item (inl h) = of_class Class.VarId (λ text. refl) item h
sort_is_open Sort.NamedVariable item (inr h) = of_class Class.QVarId (λ text. refl) item h
sort_is_open Sort.NamedConstructor item (inl h) = of_class Class.ConId (λ text. refl) item h
sort_is_open Sort.NamedConstructor item (inr h) = of_class Class.QConId (λ text. refl) item h
sort_is_open Sort.NamedVariableSymbol item (inl h) = of_class Class.VarSym symbol_open item h
sort_is_open Sort.NamedVariableSymbol item (inr h) = of_class Class.QVarSym (λ text. refl) item h
sort_is_open Sort.QualifiedConstructorSymbol item h = of_class Class.QConSym (λ text. refl) item h
sort_is_open Sort.Integer item h = of_class Class.Integer (λ text. refl) item h
sort_is_open Sort.Literal item (inl h) = of_class Class.Integer (λ text. refl) item h
sort_is_open Sort.Literal item (inr (inl h)) = of_class Class.Char (λ text. refl) item h
sort_is_open Sort.Literal item (inr (inr h)) = of_class Class.Str (λ text. refl) item h
sort_is_open Sort.Word item h = of_class Class.ReservedId word_open item h

pub took_mark : (mark : Mark) (found : Option Item) (before after : Standing) → IsAhead (IsMark mark) before.blocks before.rest
    → found ≡ next_of before.rest → after ≡ taken before → Accepts (IsMark mark) found before after
took_mark mark = took (IsMark mark) (mark_is_open mark)

pub took_sort : (sort : Sort) (found : Option Item) (before after : Standing) → IsAhead (IsSort sort) before.blocks before.rest
    → found ≡ next_of before.rest → after ≡ taken before → Accepts (IsSort sort) found before after
took_sort sort = took (IsSort sort) (sort_is_open sort)
