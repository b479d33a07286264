-- What the readers meet, all together.
use Rattle.hr_lexer.proofs.NamesRead.{small, symbol, special}
use Rattle.hr_lexer.proofs.NumbersRead.{digit_reads}
use Rattle.hr_lexer.proofs.PiecesRead.{piece_right, piece_found}
use Rattle.hr_lexer.proofs.Progress.{Readers}
use Rattle.hr_lexer.proofs.QualifiedFound.{large_reads}
use Rattle.hr_lexer.proofs.QuotesRead.{quote_reads, double_quote_reads}
use Rattle.hr_lexer.proofs.Whole.{EachKind, lexeme_right, lexeme_longest}

-- each kind of character that begins lexemes
each_kind : EachKind
each_kind = record {
  small = small;
  large = large_reads;
  symbol = symbol;
  special = special;
  digit = digit_reads;
  quote = quote_reads;
  double_quote = double_quote_reads;
}

pub readers : Readers
readers = record {
  right = lexeme_right each_kind;
  longest = lexeme_longest each_kind;
  piece_right = piece_right;
  piece_found = piece_found;
}
