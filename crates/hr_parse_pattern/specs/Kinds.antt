-- Operators of symbols by their kind (Haskell 98 Report, section 2.4).
use Rattle.std.specs.Prelude.{◌≡◌, ◌⊎◌}
use lib.Chars.{codes}
use Rattle.hr_base.specs.declared.lexeme.Class.{Class}
use Rattle.hr_base.specs.declared.lexeme.Item.{Item}
use Rattle.hr_base.specs.declared.lexeme.Lexeme.{Lexeme}
use Rattle.hr_grammar.specs.Words.{IsOf, IsMinus, IsBackquote}
use Rattle.hr_grammar.specs.Spelled.{IsColon}
use Rattle.hr_parse_lexeme.specs.declared.kind.Kind.{Kind}

-- a symbol of an operator of the kind; a lexeme of any other kind is none
abbrev pub IsSymbolOf : Kind → Item → Type 0
IsSymbolOf Kind.VariableSymbol item = IsOf Class.VarSym item
IsSymbolOf Kind.QualifiedVariableSymbol item = IsOf Class.VarSym item ⊎ IsOf Class.QVarSym item
IsSymbolOf Kind.ConstructorSymbol item = IsOf Class.ConSym item
IsSymbolOf Kind.QualifiedConstructorSymbol item = IsOf Class.QConSym item
IsSymbolOf Kind.Minus item = IsMinus item
IsSymbolOf Kind.Colon item = IsColon item
IsSymbolOf Kind.Backquote item = IsBackquote item
IsSymbolOf _ item = ⊥

-- of a constructor's operator
abbrev pub IsConstructorLexeme : Lexeme → Type 0
IsConstructorLexeme lexeme = (lexeme.class ≡ Class.ConSym) ⊎ ((lexeme.class ≡ Class.QConSym) ⊎ ((lexeme.class ≡ Class.ReservedOp) × (lexeme.text ≡ codes ":")))

abbrev pub IsConstructorSymbol : Item → Type 0
IsConstructorSymbol item = IsConstructorLexeme item.lexeme
