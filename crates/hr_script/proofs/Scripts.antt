-- Lines of a script: which commands they are, and that what is written is read again.
use Rattle.std.proofs.Common.{◌≡◌, inl, inr, ℕ, ◌+◌, ◌-◌, ◌<◌, ◌≤◌, ◌==◌, Bool, true, false, not, cond, Option, Some, None, ◌&&◌, List, [], ◌∷◌, ◌++◌, length, take, drop, refl, sym, ap, subst, ◌∙◌, true≢false, arith, append_assoc, append-nil, length-append}
use Rattle.std.specs.List.{slice_split, position, position_or_len, before_first, after_first, AllByRecursion}
use Rattle.std.specs.Str.{is_utf8}
use Rattle.std.specs.Str.Lines.{lines, lines_of_parts, strip_carriage_return}
use Rattle.std.proofs.lemmas.Bool.{ne_eqb}
use Rattle.std.proofs.lemmas.List.Splits.{slice_split_none, slice_split_at, slice_split_first, length-slice_split}
use Rattle.std.proofs.lemmas.List.Elements.{All-nil, All-cons}
use Rattle.std.proofs.lemmas.Bool.Decides.{nat_tests}
use Rattle.hr_rules.specs.Letters.{is_blank, kind_of}
use Rattle.hr_script.specs.declared.command.Command.{Command}
use Rattle.hr_script.specs.declared.command.Command.TheVariants.{Rename, AddParameter, RemoveParameter, LiftOne, LiftTop, Demote, Generalise, Move, Abstract, Undo}
use Rattle.hr_script.specs.Language.{line_of, IsCommandLine, is_linefeed, is_skipped, AreLines, Script, IsLine, script_bytes}
use Rattle.hr_script.specs.Language.AreLines.{ends, skips, commands}
use Rattle.hr_script.specs.Laws.{IsFirstBad, IsMemory, IsSayable}
use Rattle.hr_script.specs.Numbers.{cut_at}
use Rattle.hr_script.specs.Reader.{command_in, when_built}
use Rattle.hr_script.specs.declared.error.ScriptError.{ScriptError}
use Rattle.hr_script.specs.declared.error.ScriptError.TheVariants.{BadLine, TooManySteps, Memory}
use Rattle.hr_script.specs.Progress.{Progress, Adds, IsLineRefused}
use Rattle.hr_script.proofs.Commands.{line_lacks, line_there, one_command}
use Rattle.hr_script.proofs.Pieces.{Lacks}

-- Lines.

abbrev at_end : ℕ → Bool
at_end = is_linefeed

parts_there : (bytes : List ℕ) → slice_split at_end bytes ≡ [] → ⊥
parts_there bytes none = omega (arith, ap length none, length-slice_split at_end bytes)

behind_first : (first : List ℕ) (parts : List (List ℕ)) → (parts ≡ [] → ⊥) → lines_of_parts (first ∷ parts) ≡ strip_carriage_return first ∷ lines_of_parts parts
behind_first first [] some = absurd (some refl)
behind_first first (next ∷ parts) some = refl

-- a line that a linefeed ends, and the lines behind it
pub first_line : (line rest : List ℕ) → Lacks 10 line → lines (line ++ 10 ∷ rest) ≡ strip_carriage_return line ∷ lines rest
first_line line rest lacks =
    ap lines_of_parts (slice_split_at at_end line 10 rest lacks refl) ∙ behind_first line (slice_split at_end rest) (parts_there rest)

-- a last line, which nothing ends
pub last_line : (line : List ℕ) → Lacks 10 line → 0 < length line → lines line ≡ line ∷ []
last_line [] lacks some = absurd (omega arith)
last_line (b ∷ line) lacks some =
    ap lines_of_parts (slice_split_none at_end (b ∷ line) lacks)
    ∙ ap (λ x. cond x [] ((b ∷ line) ∷ [])) (ne_eqb (length (b ∷ line)) 0 (λ e. omega arith))

-- where no linefeed stands
ends_nowhere : (bytes : List ℕ) → length bytes ≤ position_or_len at_end bytes → Lacks 10 bytes
ends_nowhere [] far = All-nil (λ b. (b == 10) ≡ false)
ends_nowhere (b ∷ bytes) far = by (b == 10) refl refl (ends_nowhere bytes)
  where
    by : (x : Bool) → (b == 10) ≡ x → position_or_len at_end (b ∷ bytes) ≡ cond (not x) (1 + position_or_len at_end bytes) 0
        → (length bytes ≤ position_or_len at_end bytes → Lacks 10 bytes) → Lacks 10 (b ∷ bytes)
    by true here is later = absurd (omega (arith, far, is))
    by false other is later = All-cons (λ c. (c == 10) ≡ false) b bytes other (later (omega (arith, far, is)))

pub line_found : (bytes : List ℕ) (end : ℕ) → ◌≡◌ {A = Option ℕ} (Some end) (position at_end bytes) → end < length bytes
    → lines bytes ≡ strip_carriage_return (take end bytes) ∷ lines (drop (end + 1) bytes)
line_found bytes end found within =
    let at : end ≡ position_or_len at_end bytes = grind (arith, nat_tests, found) in
    ap lines_of_parts (slice_split_first at_end bytes 0 (omega (arith, at)))
    ∙ behind_first (before_first at_end bytes) (slice_split at_end (after_first at_end bytes)) (parts_there (after_first at_end bytes))
    ∙ ap (λ n. strip_carriage_return (take n bytes) ∷ lines (drop (n + 1) bytes)) (sym at)

pub line_left : (bytes : List ℕ) → ◌≡◌ {A = Option ℕ} None (position at_end bytes) → 0 < length bytes → lines bytes ≡ bytes ∷ []
line_left bytes none some =
    let far : length bytes ≤ position_or_len at_end bytes = grind (arith, nat_tests, none) in
    last_line bytes (ends_nowhere bytes far) some

no_return : (line : List ℕ) → Lacks 13 line → strip_carriage_return line ≡ line
no_return [] lacks = refl
no_return (b ∷ line) lacks =
    ap (λ x. cond x (take (length (b ∷ line) - 1) (b ∷ line)) (b ∷ line)) (lacks (length (b ∷ line) - 1) 0 (omega arith))

-- What is written is read again.

linefeed_blank : is_blank 10 ≡ true
unfolding kind_of
linefeed_blank = refl

return_blank : is_blank 13 ≡ true
unfolding kind_of
return_blank = refl

pub written_lem : (cs : List Command) → AllByRecursion IsSayable cs → Script (script_bytes cs) cs
written_lem [] all = ends
written_lem (c ∷ cs) all =
    let front : lines (line_of c ++ 10 ∷ script_bytes cs) ≡ line_of c ∷ lines (script_bytes cs) =
    first_line (line_of c) (script_bytes cs) (line_lacks c all.0.0 10 (omega arith) linefeed_blank)
    ∙ ap (λ x. x ∷ lines (script_bytes cs)) (no_return (line_of c) (line_lacks c all.0.0 13 (omega arith) return_blank)) in
    subst (λ ls. AreLines ls (c ∷ cs)) (sym front)
    (commands (line_of c) c (lines (script_bytes cs)) cs (record { line_is = refl; speakable = all.0.0; built = all.0.1 }) (written_lem cs all.1))

-- A line is a command or none, and not both.

never : (a : Bool) → (a && false) ≡ false
never true = refl
never false = refl

not_skipped : (c : Command) → is_skipped (line_of c) ≡ false
not_skipped (Rename m p n) = never (is_utf8 (line_of (Rename m p n)))
not_skipped (AddParameter m p n) = never (is_utf8 (line_of (AddParameter m p n)))
not_skipped (RemoveParameter m p i) = never (is_utf8 (line_of (RemoveParameter m p i)))
not_skipped (LiftOne m p) = never (is_utf8 (line_of (LiftOne m p)))
not_skipped (LiftTop m p) = never (is_utf8 (line_of (LiftTop m p)))
not_skipped (Demote m p) = never (is_utf8 (line_of (Demote m p)))
not_skipped (Generalise m p n) = never (is_utf8 (line_of (Generalise m p n)))
not_skipped (Move a n b) = never (is_utf8 (line_of (Move a n b)))
not_skipped (Abstract m t) = never (is_utf8 (line_of (Abstract m t)))
not_skipped Undo = never (is_utf8 (line_of Undo))

apart : (line : List ℕ) (c : Command) → is_skipped line ≡ true → IsCommandLine line c → ⊥
apart line c skipped is = true≢false (sym skipped ∙ ap is_skipped is.line_is ∙ not_skipped c)

one_list : {ls ms : List (List ℕ)} {cs ds : List Command} → AreLines ls cs → AreLines ms ds → ls ≡ ms → cs ≡ ds
one_list ends ends e = refl
one_list ends (skips line ms ds s rest) e = cc
one_list ends (commands line d ms ds is rest) e = cc
one_list (skips line ls cs s rest) ends e = cc
one_list (commands line c ls cs is rest) ends e = cc
one_list (skips line ls cs s rest) (skips other ms ds t more) e = let tail : ls ≡ ms = cc in one_list rest more tail
one_list (skips line ls cs s rest) (commands other d ms ds is more) e =
    let head : line ≡ other = cc in absurd (apart other d (subst (λ x. is_skipped x ≡ true) head s) is)
one_list (commands line c ls cs is rest) (skips other ms ds t more) e =
    let head : line ≡ other = cc in absurd (apart other c t (subst (λ x. IsCommandLine x c) head is))
one_list (commands line c ls cs is rest) (commands other d ms ds also more) e =
    let head : line ≡ other = cc in
    let tail : ls ≡ ms = cc in
    let first : c ≡ d = one_command other c d (subst (λ x. IsCommandLine x c) head is) also in
    ap (λ x. x ∷ cs) first ∙ ap (λ xs. d ∷ xs) (one_list rest more tail)

pub one_script_lem : (bytes : List ℕ) (cs ds : List Command) → Script bytes cs → Script bytes ds → cs ≡ ds
one_script_lem bytes cs ds a b = one_list a b refl

-- Line after line.

-- what a line adds to the commands before it
pub snoc : {ls : List (List ℕ)} {cs : List Command} → AreLines ls cs → (line : List ℕ) (c : Command) → IsCommandLine line c
    → AreLines (ls ++ line ∷ []) (cs ++ c ∷ [])
snoc ends line c is = commands line c [] [] is ends
snoc (skips other ls cs s rest) line c is = skips other (ls ++ line ∷ []) (cs ++ c ∷ []) s (snoc rest line c is)
snoc (commands other d ls cs also rest) line c is = commands other d (ls ++ line ∷ []) (cs ++ c ∷ []) also (snoc rest line c is)

pub snoc_skipped : {ls : List (List ℕ)} {cs : List Command} → AreLines ls cs → (line : List ℕ) → is_skipped line ≡ true → AreLines (ls ++ line ∷ []) cs
snoc_skipped ends line s = skips line [] [] s ends
snoc_skipped (skips other ls cs t rest) line s = skips other (ls ++ line ∷ []) cs t (snoc_skipped rest line s)
snoc_skipped (commands other d ls cs also rest) line s = commands other d (ls ++ line ∷ []) cs also (snoc_skipped rest line s)

pub each_line : {ls : List (List ℕ)} {cs : List Command} → AreLines ls cs → AllByRecursion IsLine ls
each_line ends = tt
each_line (skips line ls cs s rest) = (inl s, each_line rest)
each_line (commands line c ls cs is rest) = (inr (c, is), each_line rest)

pub begun : (bytes : List ℕ) → Progress bytes bytes 0 []
begun bytes = record { before = []; lines_are = refl; number_is = refl; read = ends }

pub goes_on : (bytes rest line behind : List ℕ) (number : ℕ) (cs ds : List Command) → Progress bytes rest number cs → lines rest ≡ line ∷ lines behind
    → Adds line cs ds true → Progress bytes behind (number + 1) ds
goes_on bytes rest line behind number cs ds p here added = record {
  before = p.before ++ line ∷ [];
  lines_are = p.lines_are ∙ ap (λ x. p.before ++ x) here ∙ sym (append_assoc p.before (line ∷ []) (lines behind));
  number_is = omega (arith, p.number_is, length-append p.before (line ∷ []));
  read = by added;
}
  where
    by : Adds line cs ds true → AreLines (p.before ++ line ∷ []) ds
    by (inl s) = subst (AreLines (p.before ++ line ∷ [])) (sym s.1) (snoc_skipped p.read line s.0)
    by (inr c) = subst (AreLines (p.before ++ line ∷ [])) (sym c.2) (snoc p.read line c.0 c.1)

pub stops_at : (bytes rest line behind : List ℕ) (number : ℕ) (cs ds : List Command) → Progress bytes rest number cs → lines rest ≡ line ∷ lines behind
    → Adds line cs ds false → IsFirstBad bytes (number + 1)
stops_at bytes rest line behind number cs ds p here bad = record {
  before = p.before;
  line = line;
  behind = lines behind;
  lines_are = p.lines_are ∙ ap (λ x. p.before ++ x) here;
  number_is = ap (λ n. n + 1) p.number_is;
  good = each_line p.read;
  bad = bad;
}

pub all_read : (bytes rest : List ℕ) (number : ℕ) (cs : List Command) → Progress bytes rest number cs → lines rest ≡ [] → Script bytes cs
all_read bytes rest number cs p none =
    subst (λ ls. AreLines ls cs) (sym (p.lines_are ∙ ap (λ x. p.before ++ x) none ∙ append-nil p.before)) p.read

-- Refusals.

behind_is_line : (before : List (List ℕ)) (line : List ℕ) (behind : List (List ℕ)) → AllByRecursion IsLine (before ++ line ∷ behind) → IsLine line
behind_is_line [] line behind all = all.0
behind_is_line (other ∷ before) line behind all = behind_is_line before line behind all.1

pub refused_lem : (bytes : List ℕ) (error : ScriptError) (cs : List Command) → IsLineRefused bytes error → Script bytes cs → IsMemory error
refused_lem bytes (BadLine number) cs why script =
    why.bad (behind_is_line why.before why.line why.behind (each_line (subst (λ ls. AreLines ls cs) why.lines_are script)))
refused_lem bytes TooManySteps cs why script = why
refused_lem bytes (Memory reason) cs why script = tt

pub line_not : (line : List ℕ) (found : Option Command) → is_skipped line ≡ false → found ≡ when_built (command_in (cut_at 32 line)) → found ≡ None → IsLine line → ⊥
line_not line found skipped is none (inl s) = true≢false (sym s ∙ skipped)
line_not line found skipped is none (inr c) = let e : ◌≡◌ {A = Option Command} (Some c.0) None = sym (line_there line c.0 c.1) ∙ sym is ∙ none in cc
