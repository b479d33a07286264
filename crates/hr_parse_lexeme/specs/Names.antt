-- Constructors that have no name (Haskell 98 Report, sections 3.2 and 4.1.2): `()`, `[]`, and commas in parentheses.
use Rattle.hr_layout.specs.Standing.{Standing}
use Rattle.hr_tree.specs.declared.names.Constructor.{Constructor}
use Rattle.hr_tree.specs.Names.{constructor_items}
use Rattle.hr_grammar.specs.Words.{IsLeftParen, IsRightParen, IsLeftSquare, IsRightSquare}
use Rattle.hr_grammar.specs.Spelled.{AreCommas}
use Rattle.hr_parse_lexeme.specs.declared.mark.Mark.{Mark}
use Rattle.hr_parse_lexeme.specs.declared.names.Bracket.{Bracket}
use Rattle.hr_parse_lexeme.specs.Marks.{IsMark}
use Rattle.hr_parse_lexeme.specs.Reads.{Takes, Spells}

abbrev pub IsNameless : Constructor → Type 0
IsNameless (Constructor.Unit left right) = IsLeftParen left × IsRightParen right
IsNameless (Constructor.EmptyList left right) = IsLeftSquare left × IsRightSquare right
IsNameless (Constructor.Tuple left commas right) = IsLeftParen left × (AreCommas commas × IsRightParen right)
IsNameless _ = ⊥

-- what an opening bracket begins
abbrev pub Opens : Mark → Bracket → Standing → Standing → Type 0
Opens mark (Bracket.Constructor named) before after = Spells IsNameless constructor_items named before after
Opens mark (Bracket.Open left) before after = Takes (IsMark mark) left before after
