-- The infix sequences of a module, read from what joins them (Haskell 98 Report, sections 3.4, 3.17.1 and 4.4.3): a
-- sequence begins, its operands and operators take turns, and it ends.
use Rattle.std.specs.Prelude.{ℕ, ◌+◌, ◌-◌, ◌==◌, Bool, true, false, List, [], ◌∷◌, ◌++◌, if◌then◌else◌, length, take, fold, Option, Some, None, slice_get, slice_set}
use Rattle.std.specs.Str.{bytes_eq}
use Rattle.hr_scope_rules.specs.declared.joint.Joint.{Joint}
use Rattle.hr_scope_rules.specs.Events.{Mark, Joined, Outlined}
use Rattle.hr_sequences.specs.declared.reading.Open.{Open}
use Rattle.hr_sequences.specs.declared.reading.Reading.{Reading}
use Rattle.hr_sequences.specs.declared.sequence.Sequence.{Sequence}
use Rattle.hr_sequences.specs.declared.sequence.SequencePart.{SequencePart}

-- the sequences that have begun, in the order of their first lexemes, and those that have not ended, the innermost last
pub record Begun : Type 0 where
  pub sequences : List Sequence
  pub unended : List Open

abbrev pub begun_in : Reading → Begun
begun_in reading = record { sequences = reading.begun.items; unended = reading.«open».items }

abbrev pub changed_at : (Sequence → Sequence) → List Sequence → ℕ → Option Sequence → List Sequence
changed_at change sequences number None = sequences
changed_at change sequences number (Some sequence) = slice_set sequences number (change sequence)

abbrev pub changed : (Sequence → Sequence) → List Sequence → ℕ → List Sequence
changed change sequences number = changed_at change sequences number (slice_get sequences number)

abbrev pub with_part : SequencePart → Sequence → Sequence
with_part part sequence = record { parts = sequence.parts ++ part ∷ []; root = sequence.root }

-- the sequence of that number with one part more
abbrev pub put : List Sequence → ℕ → SequencePart → List Sequence
put sequences number part = changed (with_part part) sequences number

abbrev pub with_root : Sequence → Sequence
with_root sequence = record { parts = sequence.parts; root = Some (length sequence.parts) }

-- the next part of the sequence of that number is its root
abbrev pub root_put : Bool → List Sequence → ℕ → List Sequence
root_put false sequences number = sequences
root_put true sequences number = changed with_root sequences number

abbrev pub last_of : List Open → Option Open
last_of unended = slice_get unended (length unended - 1)

abbrev pub if_begins : ℕ → Option Open → Option Open
if_begins at None = None
if_begins at (Some innermost) = if innermost.operand_at == at then Some innermost else None

-- the innermost sequence, if an operand of it begins there
abbrev pub operand_begins : List Open → ℕ → Option Open
operand_begins unended at = if_begins at (last_of unended)

-- A sequence begins. What stands on both sides of a left side's operator is read as parts of the left side
abbrev pub begun_behind : Begun → ℕ → Bool → Option Open → Begun
begun_behind begun at is_pattern None = record {
  sequences = begun.sequences ++ record { parts = []; root = None } ∷ [];
  unended = begun.unended ++ record { number = length begun.sequences; operand_at = at; is_pattern = is_pattern; is_inner = false } ∷ [];
}
begun_behind begun at is_pattern (Some outer) = record {
  sequences = begun.sequences;
  unended = begun.unended ++ record { number = outer.number; operand_at = at; is_pattern = is_pattern; is_inner = true } ∷ [];
}

abbrev pub minus_of : Bool → ℕ → SequencePart
minus_of false at = SequencePart.Minus at
minus_of true at = SequencePart.PatternMinus at

-- A minus before an operand. That of a negative integer that is no operand belongs to no sequence
abbrev pub minus_behind : Begun → ℕ → Option Open → Begun
minus_behind begun at None = begun
minus_behind begun at (Some innermost) = record {
  sequences = put begun.sequences innermost.number (minus_of innermost.is_pattern at);
  unended = begun.unended;
}

abbrev pub is_backquote : Option Mark → Bool
is_backquote None = false
is_backquote (Some mark) = bytes_eq mark.item.lexeme.text (96 ∷ [])

-- the number of an operator in backquotes is that of the name between them
abbrev pub name_at : Bool → ℕ → ℕ
name_at false at = at
name_at true at = at + 1

abbrev pub behind_name : Bool → ℕ → ℕ
behind_name false item = item + 1
behind_name true item = item + 2

abbrev pub operator_behind : Bool → Begun → ℕ → Bool → Option Open → Begun
operator_behind quoted begun at is_root None = begun
operator_behind quoted begun at is_root (Some innermost) = record {
  sequences = put (root_put is_root (put begun.sequences innermost.number SequencePart.Operand) innermost.number) innermost.number (SequencePart.Operator (name_at quoted at));
  unended = take (length begun.unended - 1) begun.unended
      ++ record { number = innermost.number; operand_at = behind_name quoted (name_at quoted at); is_pattern = innermost.is_pattern; is_inner = innermost.is_inner } ∷ [];
}

-- the innermost sequence ends with an operand, unless its parts belong to a left side
abbrev pub end_behind : Begun → Option Open → Begun
end_behind begun None = begun
end_behind begun (Some innermost) = record {
  sequences = if innermost.is_inner then begun.sequences else put begun.sequences innermost.number SequencePart.Operand;
  unended = take (length begun.unended - 1) begun.unended;
}

abbrev pub joint_behind : List Mark → Begun → ℕ → Joint → Begun
joint_behind marks begun at Joint.Expression = begun_behind begun at false (operand_begins begun.unended at)
joint_behind marks begun at Joint.Pattern = begun_behind begun at true (operand_begins begun.unended at)
joint_behind marks begun at Joint.Minus = minus_behind begun at (operand_begins begun.unended at)
joint_behind marks begun at Joint.Operator = operator_behind (is_backquote (slice_get marks at)) begun at false (last_of begun.unended)
joint_behind marks begun at Joint.Root = operator_behind (is_backquote (slice_get marks at)) begun at true (last_of begun.unended)
joint_behind marks begun at Joint.End = end_behind begun (last_of begun.unended)

abbrev pub joined_behind : List Mark → Begun → Joined → Begun
joined_behind marks begun joined = joint_behind marks begun joined.at joined.joint

abbrev pub nothing_begun : Begun
nothing_begun = record { sequences = []; unended = [] }

-- the sequences of what was read, in the order of their first lexemes; of two that begin together, or of which one
-- stands in the other, the outer one first
unfoldable pub sequences_of : Outlined → List Sequence
sequences_of outlined = (fold (joined_behind outlined.marks) nothing_begun outlined.joints).sequences
