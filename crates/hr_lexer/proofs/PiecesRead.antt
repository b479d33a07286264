-- Blanks and comments are read by their rules.
use Rattle.std.proofs.Common.{◌≡◌, ◌≤◌, ℕ, zero, suc, ◌+◌, Bool, true, false, cond, not, ◌&&◌, ◌==◌, List, [], ◌∷◌, ◌++◌, length, take, drop, Option, Some, None, refl, sym, ap, subst, ◌∙◌, true≢false, arith, take-append-drop, length-take-le}
use Rattle.std.specs.List.{list_all, prefix_len}
use Rattle.std.specs.Option.{option_map}
use Rattle.std.proofs.lemmas.List.Sums.{prefix_len-le-length}
use Rattle.hr_rules.specs.declared.character.Kind.{Kind}
use Rattle.hr_rules.specs.Letters.{kind_of}
use Rattle.hr_rules.specs.Operators.{is_dash}
use Rattle.hr_rules.specs.Runs.{is_run, ends_run}
use Rattle.hr_rules.specs.Comments.{goes_on, begins_line_comment, is_in_line, is_line_comment, is_nested_comment, opens, shuts, shut, closed_len, ends_there}
use Rattle.hr_rules.specs.Lexemes.{is_empty, spelled_piece, spelled_piece_by}
use Rattle.hr_rules.proofs.Apart.{both_left, both_right, both, and_false, goes_on_over, begins_over, closed_over, ends, Keeps}
use Rattle.hr_lexer.specs.TriviaReader.{line_comment_len, nested_comment_len, piece_len_by}
use Rattle.hr_lexer.proofs.Statements.{PieceRight, PieceFound}
use Rattle.hr_lexer.proofs.RunsRead.{whole_run, whole_run_len}

no_some : {A : Type 0} {n : ℕ} → None ≡ Some n → A
no_some e = cc

-- an answer under a test
pub some_if : (b : Bool) (x : Option ℕ) (n : ℕ) → cond b x None ≡ Some n → (b ≡ true) × (x ≡ Some n)
some_if true x n e = (refl, e)
some_if false x n e = no_some e

-- a greater answer
pub some_suc : (x : Option ℕ) (n : ℕ) → option_map suc x ≡ Some n → (m : ℕ) × (n ≡ suc m) × (x ≡ Some m)
some_suc None n e = no_some e
some_suc (Some m) n e = (m, cc, refl)

-- a dash is in a line
dash_in_line : (d : ℕ) → is_dash d ≡ true → is_in_line d ≡ true
dash_in_line d e = let is : d ≡ 45 = grind arith in subst (λ x. is_in_line x ≡ true) (sym is) refl

no_dash : (d : ℕ) (after : List ℕ) {A : Type 0} → ends_run is_in_line (d ∷ after) ≡ true → is_dash d ≡ true → A
no_dash d after stop dash = absurd (true≢false (sym stop ∙ ap not (dash_in_line d dash)))

-- a line comment begins the line alone
begins_under : (x after : List ℕ) → ends_run is_in_line after ≡ true → begins_line_comment (x ++ after) ≡ true → begins_line_comment x ≡ true
begins_under [] [] stop is = is
begins_under [] (b ∷ []) stop is = absurd (true≢false (sym is))
begins_under [] (b ∷ d ∷ after) stop is = no_dash b (d ∷ after) stop (both_left (is_dash b) (is_dash d) (both_left (is_dash b && is_dash d) (not (goes_on after)) is))
begins_under (a ∷ []) [] stop is = is
begins_under (a ∷ []) (b ∷ after) stop is = no_dash b after stop (both_right (is_dash a) (is_dash b) (both_left (is_dash a && is_dash b) (not (goes_on after)) is))
begins_under (a ∷ b ∷ rest) after stop is = ap (λ x. (is_dash a && is_dash b) && not x) (sym (goes_on_over rest after stop)) ∙ is

-- what the length of a line takes is a line comment
line_front : (text : List ℕ) → begins_line_comment text ≡ true → is_line_comment (take (prefix_len is_in_line text) text) (drop (prefix_len is_in_line text) text) ≡ true
line_front text is =
    let n : ℕ = prefix_len is_in_line text in
    let run : is_run is_in_line (take n text) (drop n text) ≡ true = whole_run is_in_line text in
    let stop : ends_run is_in_line (drop n text) ≡ true = both_right (list_all is_in_line (take n text)) (ends_run is_in_line (drop n text)) run in
    let whole : begins_line_comment (take n text ++ drop n text) ≡ true = ap begins_line_comment (take-append-drop n text) ∙ is in
    both (begins_line_comment (take n text)) (is_run is_in_line (take n text) (drop n text)) (begins_under (take n text) (drop n text) stop whole) run

-- what is read of a kind: one character, and some of the others
abbrev Piece : Kind → ℕ → List ℕ → ℕ → Type 0
Piece kind c rest n = (m : ℕ) × (n ≡ suc m) × (m ≤ length rest) × (spelled_piece_by kind c (take m rest) (drop m rest) ≡ true)

line_piece : (c : ℕ) (rest : List ℕ) (n : ℕ) → n ≤ length (c ∷ rest) → is_line_comment (take n (c ∷ rest)) (drop n (c ∷ rest)) ≡ true → Piece Kind.Symbol c rest n
line_piece c rest zero le is = absurd (true≢false (sym is))
line_piece c rest (suc m) le is = (m, refl, omega arith, is)

line_read : (c : ℕ) (rest : List ℕ) (n : ℕ) → line_comment_len (c ∷ rest) ≡ Some n → Piece Kind.Symbol c rest n
line_read c rest n e =
    let len : ℕ = prefix_len is_in_line (c ∷ rest) in
    let read = some_if (begins_line_comment (c ∷ rest)) (Some len) n e in
    let some : ◌≡◌ {A = Option ℕ} (Some len) (Some n) = read.1 in
    let same : len ≡ n = cc in
    let within : len ≤ length (c ∷ rest) = prefix_len-le-length is_in_line (c ∷ rest) in
    subst (Piece Kind.Symbol c rest) same (line_piece c rest len within (line_front (c ∷ rest) read.0))

-- a comment's end is found in what is read
abbrev Cut : List ℕ → Type 0
Cut rest = (half : Bool) (depth n : ℕ) → closed_len half depth rest ≡ Some n → (n ≤ length rest) × (closed_len half depth (take n rest) ≡ Some n)

-- behind a character that is no half of a mark
abbrev pub past_first : Bool → Bool → ℕ → List ℕ → Option ℕ
past_first o s depth rest = cond o (option_map suc (closed_len true (suc depth) rest)) (cond s (shut (λ d. closed_len true d rest) depth) (option_map suc (closed_len false depth rest)))

abbrev PastCut : Bool → Bool → ℕ → List ℕ → ℕ → Type 0
PastCut o s depth rest n = (k : ℕ) × (n ≡ suc (suc k)) × (suc k ≤ length rest) × (past_first o s depth (take (suc k) rest) ≡ Some n)

-- something is read, so that what is cut isn't empty
some_read : (half : Bool) (depth n : ℕ) (rest : List ℕ) → closed_len half depth (take n rest) ≡ Some n → (k : ℕ) × (n ≡ suc k)
some_read true depth zero rest e = no_some e
some_read false depth zero rest e = no_some e
some_read half depth (suc k) rest e = (k, refl)

mapped_cut : (half : Bool) (depth n : ℕ) (rest : List ℕ) → Cut rest → option_map suc (closed_len half depth rest) ≡ Some n
    → (k : ℕ) × (n ≡ suc (suc k)) × (suc k ≤ length rest) × (option_map suc (closed_len half depth (take (suc k) rest)) ≡ Some n)
mapped_cut half depth n rest cut e =
    let read = some_suc (closed_len half depth rest) n e in
    let m : ℕ = read.0 in
    let at = cut half depth m read.2 in
    let more = some_read half depth m rest at.1 in
    let k : ℕ = more.0 in
    let same : m ≡ suc k = more.1 in
    let le : m ≤ length rest = at.0 in
    let whole : n ≡ suc m = read.1 in
    let answer : option_map suc (closed_len half depth (take m rest)) ≡ Some n = ap (option_map suc) at.1 ∙ ap Some (sym whole) in
    (k, whole ∙ ap suc same, omega arith, ap (λ x. option_map suc (closed_len half depth (take x rest))) (sym same) ∙ answer)

shut_cut : (depth n : ℕ) (b : ℕ) (rest : List ℕ) → Cut (b ∷ rest) → shut (λ d. closed_len true d (b ∷ rest)) depth ≡ Some n → PastCut false true depth (b ∷ rest) n
shut_cut zero n b rest cut e = let same : n ≡ 2 = cc in (0, same, omega arith, e)
shut_cut (suc d) n b rest cut e = mapped_cut true d n (b ∷ rest) cut e

past_cut : (o s : Bool) (depth n : ℕ) (b : ℕ) (rest : List ℕ) → Cut (b ∷ rest) → past_first o s depth (b ∷ rest) ≡ Some n → PastCut o s depth (b ∷ rest) n
past_cut true s depth n b rest cut e = mapped_cut true (suc depth) n (b ∷ rest) cut e
past_cut false true depth n b rest cut e = shut_cut depth n b rest cut e
past_cut false false depth n b rest cut e = mapped_cut false depth n (b ∷ rest) cut e

-- no comment ends in one character
pub no_end : (c depth : ℕ) → closed_len false depth (c ∷ []) ≡ None
no_end c depth = ap (λ o. past_first o (shuts c []) depth []) (and_false (c == 123)) ∙ ap (λ s. past_first false s depth []) (and_false (c == 45))

closed_cut : (text : List ℕ) → Cut text
closed_cut [] true depth n e = no_some e
closed_cut [] false depth n e = no_some e
closed_cut (c ∷ rest) true depth n e =
    let read = some_suc (closed_len false depth rest) n e in
    let m : ℕ = read.0 in
    let at = closed_cut rest false depth m read.2 in
    let whole : n ≡ suc m = read.1 in
    let le : m ≤ length rest = at.0 in
    let answer : option_map suc (closed_len false depth (take m rest)) ≡ Some n = ap (option_map suc) at.1 ∙ ap Some (sym whole) in
    (omega arith, ap (λ x. closed_len true depth (take x (c ∷ rest))) whole ∙ answer)
closed_cut (c ∷ []) false depth n e = no_some (sym (no_end c depth) ∙ e)
closed_cut (c ∷ b ∷ rest) false depth n e =
    let at = past_cut (opens c (b ∷ rest)) (shuts c (b ∷ rest)) depth n b rest (closed_cut (b ∷ rest)) e in
    let k : ℕ = at.0 in
    let whole : n ≡ suc (suc k) = at.1 in
    let le : suc k ≤ length (b ∷ rest) = at.2 in
    (omega arith, ap (λ x. closed_len false depth (take x (c ∷ b ∷ rest))) whole ∙ at.3)

equal_self : (n : ℕ) → (n == n) ≡ true
equal_self n = grind arith

nested_read : (c : ℕ) (rest : List ℕ) (n : ℕ) → nested_comment_len (c ∷ rest) ≡ Some n → Piece Kind.Special c rest n
nested_read c [] n e = no_some e
nested_read c (b ∷ rest) n e =
    let read = some_if (c == 123 && b == 45) (option_map (λ n. n + 2) (closed_len false 0 rest)) n e in
    by (closed_len false 0 rest) refl read.1 read.0
  where
    by : (len : Option ℕ) → closed_len false 0 rest ≡ len → option_map (λ n. n + 2) len ≡ Some n → (c == 123 && b == 45) ≡ true → Piece Kind.Special c (b ∷ rest) n
    by None is e mark = no_some e
    by (Some l) is e mark =
        let same : l + 2 ≡ n = cc in
        let at = closed_cut rest false 0 l is in
        let le : l ≤ length rest = at.0 in
        let cut : closed_len false 0 (take l rest) ≡ Some l = at.1 in
        let ends : ends_there (closed_len false 0 (take l rest)) (take l rest) ≡ true =
        ap (λ x. ends_there x (take l rest)) cut ∙ ap (λ k. l == k) (length-take-le l rest le) ∙ equal_self l in
        (suc l, omega arith, omega arith, both (c == 123 && b == 45) (ends_there (closed_len false 0 (take l rest)) (take l rest)) mark ends)

one_read : (kind : Kind) (c : ℕ) (rest : List ℕ) (n : ℕ) → spelled_piece_by kind c [] rest ≡ true → ◌≡◌ {A = Option ℕ} (Some 1) (Some n) → Piece kind c rest n
one_read kind c rest n is e = let same : n ≡ 1 = cc in (0, same, omega arith, is)

piece_read : (kind : Kind) (c : ℕ) (rest : List ℕ) (n : ℕ) → piece_len_by kind (c ∷ rest) ≡ Some n → Piece kind c rest n
piece_read Kind.Blank c rest n e = one_read Kind.Blank c rest n refl e
piece_read Kind.Newline c rest n e = one_read Kind.Newline c rest n refl e
piece_read Kind.Symbol c rest n e = line_read c rest n e
piece_read Kind.Special c rest n e = nested_read c rest n e
piece_read Kind.Small c rest n e = no_some e
piece_read Kind.Large c rest n e = no_some e
piece_read Kind.Digit c rest n e = no_some e
piece_read Kind.WideDigit c rest n e = no_some e
piece_read Kind.Quote c rest n e = no_some e
piece_read Kind.DoubleQuote c rest n e = no_some e
piece_read Kind.Other c rest n e = no_some e

pub piece_right : PieceRight
piece_right [] n e = no_some e
piece_right (c ∷ rest) n e =
    let read = piece_read (kind_of c) c rest n e in
    let m : ℕ = read.0 in
    let whole : n ≡ suc m = read.1 in
    let le : m ≤ length rest = read.2 in
    (omega arith, omega arith, ap (λ x. spelled_piece (take x (c ∷ rest)) (drop x (c ∷ rest))) whole ∙ read.3)

-- and found where they are
one_found : (c : ℕ) (x : List ℕ) → is_empty x ≡ true → ◌≡◌ {A = Option ℕ} (Some 1) (Some (length (c ∷ x)))
one_found c [] is = refl
one_found c (d ∷ x) is = absurd (true≢false (sym is))

line_found : (x after : List ℕ) → is_line_comment x after ≡ true → line_comment_len (x ++ after) ≡ Some (length x)
line_found x after is =
    let run : is_run is_in_line x after ≡ true = both_right (begins_line_comment x) (is_run is_in_line x after) is in
    let stop : ends_run is_in_line after ≡ true = both_right (list_all is_in_line x) (ends_run is_in_line after) run in
    let begin : begins_line_comment (x ++ after) ≡ true = begins_over x after stop (both_left (begins_line_comment x) (is_run is_in_line x after) is) in
    ap (λ b. cond b (Some (prefix_len is_in_line (x ++ after))) None) begin ∙ ap Some (whole_run_len is_in_line x after run)

nested_found : (x after : List ℕ) → is_nested_comment x ≡ true → nested_comment_len (x ++ after) ≡ Some (length x)
unfolding Keeps
nested_found [] after is = absurd (true≢false (sym is))
nested_found (c ∷ []) after is = absurd (true≢false (sym is))
nested_found (c ∷ d ∷ x) after is =
    let mark : (c == 123 && d == 45) ≡ true = both_left (c == 123 && d == 45) (ends_there (closed_len false 0 x) x) is in
    let end : closed_len false 0 x ≡ Some (length x) = ends (closed_len false 0 x) x (both_right (c == 123 && d == 45) (ends_there (closed_len false 0 x) x) is) in
    let over : closed_len false 0 (x ++ after) ≡ Some (length x) = closed_over false 0 x after (length x) end in
    let two : length x + 2 ≡ suc (suc (length x)) = omega arith in
    ap (λ b. cond b (option_map (λ n. n + 2) (closed_len false 0 (x ++ after))) None) mark ∙ ap (option_map (λ n. n + 2)) over ∙ ap Some two

found_by : (kind : Kind) (c : ℕ) (x after : List ℕ) → spelled_piece_by kind c x after ≡ true → piece_len_by kind (c ∷ (x ++ after)) ≡ Some (length (c ∷ x))
found_by Kind.Blank c x after is = one_found c x is
found_by Kind.Newline c x after is = one_found c x is
found_by Kind.Symbol c x after is = line_found (c ∷ x) after is
found_by Kind.Special c x after is = nested_found (c ∷ x) after is
found_by Kind.Small c x after is = absurd (true≢false (sym is))
found_by Kind.Large c x after is = absurd (true≢false (sym is))
found_by Kind.Digit c x after is = absurd (true≢false (sym is))
found_by Kind.WideDigit c x after is = absurd (true≢false (sym is))
found_by Kind.Quote c x after is = absurd (true≢false (sym is))
found_by Kind.DoubleQuote c x after is = absurd (true≢false (sym is))
found_by Kind.Other c x after is = absurd (true≢false (sym is))

pub piece_found : PieceFound
piece_found [] after is = absurd (true≢false (sym is))
piece_found (c ∷ x) after is = found_by (kind_of c) c x after is
