-- The reader of lines finds a command exactly where the line is one.
use Rattle.std.proofs.Common.{◌≡◌, inl, ℕ, ◌<◌, ◌==◌, Bool, true, false, cond, ◌&&◌, nat_lt, List, [], ◌∷◌, get_or, Option, Some, None, refl, sym, ap, subst, ◌∙◌, arith}
use Rattle.std.specs.List.{list_all, join_with_byte, find, AllByRecursion}
use Rattle.std.specs.Option.{option_map, option_and_then}
use Rattle.std.proofs.lemmas.Bool.{ne_eqb}
use Rattle.std.proofs.lemmas.Bool.Decides.{nat_tests}
use Rattle.std.proofs.lemmas.List.Elements.{All-append, All-cons}
use Rattle.std.proofs.lemmas.List.Splits.{join_with_byte-slice_split}
use Rattle.std.proofs.lemmas.List.Sums.{AllPass-from_list_all}
use Rattle.std.proofs.lemmas.Slice.Eq.{bytes_eq-Decides}
use Rattle.hr_base.specs.declared.place.Pos.{Pos}
use Rattle.hr_rules.specs.Letters.{is_blank, kind_of}
use Rattle.std.specs.Fmt.{decimal}
use Rattle.hr_script.specs.declared.command.Command.{Command}
use Rattle.hr_script.specs.declared.command.Command.TheVariants.{Rename, AddParameter, RemoveParameter, LiftOne, LiftTop, Demote, Generalise, Move, Abstract, Undo}
use Rattle.hr_script.specs.declared.command.Verb.{Verb}
use Rattle.hr_script.specs.declared.command.Verb.TheVariants as verb
use Rattle.hr_script.specs.Texts.{is_module_name, is_word}
use Rattle.hr_script.specs.Language.{verb_of, verb_word, pos_word, texts_of, line_of, IsSpot, IsSpeakable, IsCommandLine, is_built}
use Rattle.hr_script.specs.Numbers.{cut_at, when, number_in, position_in}
use Rattle.hr_script.specs.Reader.{verbs, has_word, verb_named, spot_of, at_spot, of_two, with_text, of_three, without_words, command_in, when_built}
use Rattle.hr_script.proofs.Letters.{both, both_left, both_right, word_lacks, module_lacks}
use Rattle.hr_script.proofs.Numerals.{when_some, some_same, number_is, number_there, pos_is, pos_there, pos_lacks, decimal_lacks}
use Rattle.hr_script.proofs.Pieces.{Lacks, cut_again}

-- Verbs and their words.

found_passes : (p : Verb → Bool) (vs : List Verb) (v : Verb) → find p vs ≡ Some v → p v ≡ true
found_passes p [] v e = cc
found_passes p (w ∷ vs) v e = by (p w) refl e (found_passes p vs v)
  where
    by : (b : Bool) → p w ≡ b → cond b (Some w) (find p vs) ≡ Some v → (find p vs ≡ Some v → p v ≡ true) → p v ≡ true
    by true passes e later = subst (λ x. p x ≡ true) (some_same w v e) passes
    by false fails e later = later e

verb_is : (word : List ℕ) (v : Verb) → verb_named word ≡ Some v → word ≡ verb_word v
verb_is word v e = sym ((bytes_eq-Decides (verb_word v) word).0 (found_passes (has_word word) verbs v e))

verb_there : (v : Verb) → verb_named (verb_word v) ≡ Some v
verb_there verb.Rename = refl
verb_there verb.AddParameter = refl
verb_there verb.RemoveParameter = refl
verb_there verb.LiftOne = refl
verb_there verb.LiftTop = refl
verb_there verb.Demote = refl
verb_there verb.Generalise = refl
verb_there verb.Move = refl
verb_there verb.Abstract = refl
verb_there verb.Undo = refl

-- What is found is said by the words.

abbrev Found : Option Verb → List (List ℕ) → Command → Type 0
Found v texts c = (v ≡ Some (verb_of c)) × ((texts ≡ texts_of c) × IsSpeakable c)

alone_is : (v : Option Verb) (c : Command) → without_words v ≡ Some c → Found v [] c
alone_is None c e = cc
alone_is (Some verb.Undo) c e = subst (λ d. Found (Some verb.Undo) [] d) (some_same Undo c e) (refl, (refl, tt))
alone_is (Some verb.Rename) c e = cc
alone_is (Some verb.AddParameter) c e = cc
alone_is (Some verb.RemoveParameter) c e = cc
alone_is (Some verb.LiftOne) c e = cc
alone_is (Some verb.LiftTop) c e = cc
alone_is (Some verb.Demote) c e = cc
alone_is (Some verb.Generalise) c e = cc
alone_is (Some verb.Move) c e = cc
alone_is (Some verb.Abstract) c e = cc

spot_is : (m place : List ℕ) (s : List ℕ × Pos) → spot_of m place ≡ Some s → ((m ≡ s.0) × (place ≡ pos_word s.1)) × IsSpot s.0 s.1
unfolding spot_of
spot_is m place s e =
    let passed = when_some (is_module_name m) (option_map (λ pos. (m, pos)) (position_in place)) s e in by (position_in place) refl passed.0 passed.1
  where
    by : (found : Option Pos) → position_in place ≡ found → is_module_name m ≡ true → option_map (λ pos. (m, pos)) found ≡ Some s
        → ((m ≡ s.0) × (place ≡ pos_word s.1)) × IsSpot s.0 s.1
    by None is named e = cc
    by (Some p) is named e =
        let read = pos_is place p is in
        let same : ◌≡◌ {A = List ℕ × Pos} (m, p) s = some_same {A = List ℕ × Pos} (m, p) s e in
        subst (λ (x : List ℕ × Pos). ((m ≡ x.0) × (place ≡ pos_word x.1)) × IsSpot x.0 x.1) same ((refl, read.0), (named, read.1))

at_spot_is : (v : Option Verb) (s : List ℕ × Pos) (c : Command) → IsSpot s.0 s.1 → at_spot v s ≡ Some c → Found v (s.0 ∷ pos_word s.1 ∷ []) c
at_spot_is None s c is e = cc
at_spot_is (Some verb.LiftOne) s c is e = subst (λ d. Found (Some verb.LiftOne) (s.0 ∷ pos_word s.1 ∷ []) d) (some_same (LiftOne s.0 s.1) c e) (refl, (refl, is))
at_spot_is (Some verb.LiftTop) s c is e = subst (λ d. Found (Some verb.LiftTop) (s.0 ∷ pos_word s.1 ∷ []) d) (some_same (LiftTop s.0 s.1) c e) (refl, (refl, is))
at_spot_is (Some verb.Demote) s c is e = subst (λ d. Found (Some verb.Demote) (s.0 ∷ pos_word s.1 ∷ []) d) (some_same (Demote s.0 s.1) c e) (refl, (refl, is))
at_spot_is (Some verb.Rename) s c is e = cc
at_spot_is (Some verb.AddParameter) s c is e = cc
at_spot_is (Some verb.RemoveParameter) s c is e = cc
at_spot_is (Some verb.Generalise) s c is e = cc
at_spot_is (Some verb.Move) s c is e = cc
at_spot_is (Some verb.Abstract) s c is e = cc
at_spot_is (Some verb.Undo) s c is e = cc

-- a step behind a spot
behind_spot : (v : Option Verb) (m place : List ℕ) (more : List (List ℕ)) (f : List ℕ × Pos → Option Command) (c : Command)
    → ((s : List ℕ × Pos) → IsSpot s.0 s.1 → f s ≡ Some c → Found v (s.0 ∷ pos_word s.1 ∷ more) c)
    → option_and_then f (spot_of m place) ≡ Some c → Found v (m ∷ place ∷ more) c
behind_spot v m place more f c each e = by (spot_of m place) refl e
  where
    by : (found : Option (List ℕ × Pos)) → spot_of m place ≡ found → option_and_then f found ≡ Some c → Found v (m ∷ place ∷ more) c
    by None is e = cc
    by (Some s) is e =
        let read = spot_is m place s is in
        let found = each s read.1 e in
        (found.0, (ap (λ x. x ∷ place ∷ more) read.0.0 ∙ ap (λ x. s.0 ∷ x ∷ more) read.0.1 ∙ found.1.0, found.1.1))

two_is : (v : Option Verb) (m t : List ℕ) (c : Command) → of_two v m t ≡ Some c → Found v (m ∷ t ∷ []) c
unfolding of_two
two_is (Some verb.Abstract) m t c e =
    let passed = when_some (is_module_name m && is_word t) (Some (Abstract m t)) c e in
    subst (λ d. Found (Some verb.Abstract) (m ∷ t ∷ []) d) (some_same (Abstract m t) c passed.1)
    (refl, (refl, (both_left (is_module_name m) (is_word t) passed.0, both_right (is_module_name m) (is_word t) passed.0)))
two_is None m t c e = behind_spot None m t [] (at_spot None) c (λ s is e. at_spot_is None s c is e) e
two_is (Some verb.LiftOne) m t c e = behind_spot (Some verb.LiftOne) m t [] (at_spot (Some verb.LiftOne)) c (λ s is e. at_spot_is (Some verb.LiftOne) s c is e) e
two_is (Some verb.LiftTop) m t c e = behind_spot (Some verb.LiftTop) m t [] (at_spot (Some verb.LiftTop)) c (λ s is e. at_spot_is (Some verb.LiftTop) s c is e) e
two_is (Some verb.Demote) m t c e = behind_spot (Some verb.Demote) m t [] (at_spot (Some verb.Demote)) c (λ s is e. at_spot_is (Some verb.Demote) s c is e) e
two_is (Some verb.Rename) m t c e = behind_spot (Some verb.Rename) m t [] (at_spot (Some verb.Rename)) c (λ s is e. at_spot_is (Some verb.Rename) s c is e) e
two_is (Some verb.AddParameter) m t c e = behind_spot (Some verb.AddParameter) m t [] (at_spot (Some verb.AddParameter)) c (λ s is e. at_spot_is (Some verb.AddParameter) s c is e) e
two_is (Some verb.RemoveParameter) m t c e = behind_spot (Some verb.RemoveParameter) m t [] (at_spot (Some verb.RemoveParameter)) c (λ s is e. at_spot_is (Some verb.RemoveParameter) s c is e) e
two_is (Some verb.Generalise) m t c e = behind_spot (Some verb.Generalise) m t [] (at_spot (Some verb.Generalise)) c (λ s is e. at_spot_is (Some verb.Generalise) s c is e) e
two_is (Some verb.Move) m t c e = behind_spot (Some verb.Move) m t [] (at_spot (Some verb.Move)) c (λ s is e. at_spot_is (Some verb.Move) s c is e) e
two_is (Some verb.Undo) m t c e = behind_spot (Some verb.Undo) m t [] (at_spot (Some verb.Undo)) c (λ s is e. at_spot_is (Some verb.Undo) s c is e) e

text_there : (v : Verb) (s : List ℕ × Pos) (n : List ℕ) (made c : Command) → when (is_word n) (Some made) ≡ Some c
    → ((is_word n ≡ true) → Found (Some v) (s.0 ∷ pos_word s.1 ∷ n ∷ []) made) → Found (Some v) (s.0 ∷ pos_word s.1 ∷ n ∷ []) c
text_there v s n made c e found =
    let passed = when_some (is_word n) (Some made) c e in
    subst (λ d. Found (Some v) (s.0 ∷ pos_word s.1 ∷ n ∷ []) d) (some_same made c passed.1) (found passed.0)

with_text_is : (v : Option Verb) (n : List ℕ) (s : List ℕ × Pos) (c : Command) → IsSpot s.0 s.1 → with_text v n s ≡ Some c
    → Found v (s.0 ∷ pos_word s.1 ∷ n ∷ []) c
with_text_is None n s c is e = cc
with_text_is (Some verb.Rename) n s c is e = text_there verb.Rename s n (Rename s.0 s.1 n) c e (λ w. (refl, (refl, (is, w))))
with_text_is (Some verb.AddParameter) n s c is e = text_there verb.AddParameter s n (AddParameter s.0 s.1 n) c e (λ w. (refl, (refl, (is, w))))
with_text_is (Some verb.Generalise) n s c is e = text_there verb.Generalise s n (Generalise s.0 s.1 n) c e (λ w. (refl, (refl, (is, w))))
with_text_is (Some verb.RemoveParameter) n s c is e = by (number_in n) refl e
  where
    by : (found : Option ℕ) → number_in n ≡ found → option_map (RemoveParameter s.0 s.1) found ≡ Some c → Found (Some verb.RemoveParameter) (s.0 ∷ pos_word s.1 ∷ n ∷ []) c
    by None there e = cc
    by (Some i) there e =
        let read = number_is n i there in
        subst (λ d. Found (Some verb.RemoveParameter) (s.0 ∷ pos_word s.1 ∷ n ∷ []) d) (some_same (RemoveParameter s.0 s.1 i) c e)
        (refl, (ap (λ x. s.0 ∷ pos_word s.1 ∷ x ∷ []) read.0, (is, read.1)))
with_text_is (Some verb.LiftOne) n s c is e = cc
with_text_is (Some verb.LiftTop) n s c is e = cc
with_text_is (Some verb.Demote) n s c is e = cc
with_text_is (Some verb.Move) n s c is e = cc
with_text_is (Some verb.Abstract) n s c is e = cc
with_text_is (Some verb.Undo) n s c is e = cc

three_is : (v : Option Verb) (m t n : List ℕ) (c : Command) → of_three v m t n ≡ Some c → Found v (m ∷ t ∷ n ∷ []) c
unfolding of_three
three_is (Some verb.Move) m t n c e =
    let passed = when_some (is_module_name m && (is_word t && is_module_name n)) (Some (Move m t n)) c e in
    let rest = both_right (is_module_name m) (is_word t && is_module_name n) passed.0 in
    subst (λ d. Found (Some verb.Move) (m ∷ t ∷ n ∷ []) d) (some_same (Move m t n) c passed.1) (
      refl,
      (
        refl,
        (
          both_left (is_module_name m) (is_word t && is_module_name n) passed.0,
          (both_left (is_word t) (is_module_name n) rest, both_right (is_word t) (is_module_name n) rest),
        ),
      ),
    )
three_is None m t n c e = behind_spot None m t (n ∷ []) (with_text None n) c (λ s is e. with_text_is None n s c is e) e
three_is (Some verb.LiftOne) m t n c e = behind_spot (Some verb.LiftOne) m t (n ∷ []) (with_text (Some verb.LiftOne) n) c (λ s is e. with_text_is (Some verb.LiftOne) n s c is e) e
three_is (Some verb.LiftTop) m t n c e = behind_spot (Some verb.LiftTop) m t (n ∷ []) (with_text (Some verb.LiftTop) n) c (λ s is e. with_text_is (Some verb.LiftTop) n s c is e) e
three_is (Some verb.Demote) m t n c e = behind_spot (Some verb.Demote) m t (n ∷ []) (with_text (Some verb.Demote) n) c (λ s is e. with_text_is (Some verb.Demote) n s c is e) e
three_is (Some verb.Rename) m t n c e = behind_spot (Some verb.Rename) m t (n ∷ []) (with_text (Some verb.Rename) n) c (λ s is e. with_text_is (Some verb.Rename) n s c is e) e
three_is (Some verb.AddParameter) m t n c e = behind_spot (Some verb.AddParameter) m t (n ∷ []) (with_text (Some verb.AddParameter) n) c (λ s is e. with_text_is (Some verb.AddParameter) n s c is e) e
three_is (Some verb.RemoveParameter) m t n c e = behind_spot (Some verb.RemoveParameter) m t (n ∷ []) (with_text (Some verb.RemoveParameter) n) c (λ s is e. with_text_is (Some verb.RemoveParameter) n s c is e) e
three_is (Some verb.Generalise) m t n c e = behind_spot (Some verb.Generalise) m t (n ∷ []) (with_text (Some verb.Generalise) n) c (λ s is e. with_text_is (Some verb.Generalise) n s c is e) e
three_is (Some verb.Abstract) m t n c e = behind_spot (Some verb.Abstract) m t (n ∷ []) (with_text (Some verb.Abstract) n) c (λ s is e. with_text_is (Some verb.Abstract) n s c is e) e
three_is (Some verb.Undo) m t n c e = behind_spot (Some verb.Undo) m t (n ∷ []) (with_text (Some verb.Undo) n) c (λ s is e. with_text_is (Some verb.Undo) n s c is e) e

words_are : (v : List ℕ) (texts : List (List ℕ)) (c : Command) → Found (verb_named v) texts c
    → (v ∷ texts ≡ verb_word (verb_of c) ∷ texts_of c) × IsSpeakable c
words_are v texts c found = (ap (λ x. x ∷ texts) (verb_is v (verb_of c) found.0) ∙ ap (λ x. verb_word (verb_of c) ∷ x) found.1.0, found.1.1)

command_is : (words : List (List ℕ)) (c : Command) → command_in words ≡ Some c → (words ≡ verb_word (verb_of c) ∷ texts_of c) × IsSpeakable c
unfolding command_in
command_is [] c e = cc
command_is (v ∷ []) c e = words_are v [] c (alone_is (verb_named v) c e)
command_is (v ∷ m ∷ []) c e = cc
command_is (v ∷ m ∷ t ∷ []) c e = words_are v (m ∷ t ∷ []) c (two_is (verb_named v) m t c e)
command_is (v ∷ m ∷ t ∷ n ∷ []) c e = words_are v (m ∷ t ∷ n ∷ []) c (three_is (verb_named v) m t n c e)
command_is (v ∷ m ∷ t ∷ n ∷ o ∷ more) c e = cc

-- And what the words say is found.

spot_there : (m : List ℕ) (p : Pos) → IsSpot m p → spot_of m (pos_word p) ≡ Some (m, p)
unfolding spot_of
spot_there m p is = ap (λ b. when b (option_map (λ pos. (m, pos)) (position_in (pos_word p)))) is.0 ∙ ap (option_map (λ pos. (m, pos))) (pos_there p is.1)

two_there : (v : Verb) (m t : List ℕ) → of_two (verb_named (verb_word v)) m t ≡ of_two (Some v) m t
two_there v m t = ap (λ x. of_two x m t) (verb_there v)

three_there : (v : Verb) (m t n : List ℕ) → of_three (verb_named (verb_word v)) m t n ≡ of_three (Some v) m t n
three_there v m t n = ap (λ x. of_three x m t n) (verb_there v)

let_through : {A : Type 0} (test : Bool) (found : Option A) → test ≡ true → when test found ≡ found
let_through test found e = ap (λ b. when b found) e

command_there : (c : Command) → IsSpeakable c → command_in (verb_word (verb_of c) ∷ texts_of c) ≡ Some c
unfolding command_in of_two of_three
command_there (Rename m p n) is = three_there verb.Rename m (pos_word p) n ∙ ap (option_and_then (with_text (Some verb.Rename) n)) (spot_there m p is.0) ∙ let_through (is_word n) (Some (Rename m p n)) is.1
command_there (AddParameter m p n) is = three_there verb.AddParameter m (pos_word p) n ∙ ap (option_and_then (with_text (Some verb.AddParameter) n)) (spot_there m p is.0) ∙ let_through (is_word n) (Some (AddParameter m p n)) is.1
command_there (RemoveParameter m p i) is = three_there verb.RemoveParameter m (pos_word p) (decimal i) ∙ ap (option_and_then (with_text (Some verb.RemoveParameter) (decimal i))) (spot_there m p is.0) ∙ ap (option_map (RemoveParameter m p)) (number_there i is.1)
command_there (LiftOne m p) is = two_there verb.LiftOne m (pos_word p) ∙ ap (option_and_then (at_spot (Some verb.LiftOne))) (spot_there m p is)
command_there (LiftTop m p) is = two_there verb.LiftTop m (pos_word p) ∙ ap (option_and_then (at_spot (Some verb.LiftTop))) (spot_there m p is)
command_there (Demote m p) is = two_there verb.Demote m (pos_word p) ∙ ap (option_and_then (at_spot (Some verb.Demote))) (spot_there m p is)
command_there (Generalise m p n) is = three_there verb.Generalise m (pos_word p) n ∙ ap (option_and_then (with_text (Some verb.Generalise) n)) (spot_there m p is.0) ∙ let_through (is_word n) (Some (Generalise m p n)) is.1
command_there (Move a n b) is = three_there verb.Move a n b ∙ let_through (is_module_name a && (is_word n && is_module_name b)) (Some (Move a n b)) (both _ _ is.0 (both _ _ is.1.0 is.1.1))
command_there (Abstract m t) is = two_there verb.Abstract m t ∙ let_through (is_module_name m && is_word t) (Some (Abstract m t)) (both _ _ is.0 is.1)
command_there Undo is = ap without_words (verb_there verb.Undo)

-- Neither a blank nor the end of a line stands in the words.

verb_bytes : (v : Verb) → list_all (nat_lt 44) (verb_word v) ≡ true
verb_bytes verb.Rename = refl
verb_bytes verb.AddParameter = refl
verb_bytes verb.RemoveParameter = refl
verb_bytes verb.LiftOne = refl
verb_bytes verb.LiftTop = refl
verb_bytes verb.Demote = refl
verb_bytes verb.Generalise = refl
verb_bytes verb.Move = refl
verb_bytes verb.Abstract = refl
verb_bytes verb.Undo = refl

verb_lacks : (v : Verb) (c : ℕ) → c < 45 → Lacks c (verb_word v)
verb_lacks v c less = λ k d within.
    let passes : nat_lt 44 (get_or (verb_word v) k d) ≡ true = AllPass-from_list_all (nat_lt 44) (verb_word v) (verb_bytes v) k d within in
    let above : 44 < get_or (verb_word v) k d = grind (arith, nat_tests, passes) in
    ne_eqb (get_or (verb_word v) k d) c (λ same. omega arith)

-- of a blank c
texts_lack : (d : Command) → IsSpeakable d → (c : ℕ) → c < 45 → is_blank c ≡ true → AllByRecursion (Lacks c) (texts_of d)
texts_lack (Rename m p n) is c less blank = (module_lacks m is.0.0 c (omega arith) blank, (pos_lacks p c is.0.1 (omega arith), (word_lacks n is.1 c (omega arith) blank, tt)))
texts_lack (AddParameter m p n) is c less blank = (module_lacks m is.0.0 c (omega arith) blank, (pos_lacks p c is.0.1 (omega arith), (word_lacks n is.1 c (omega arith) blank, tt)))
texts_lack (RemoveParameter m p i) is c less blank = (module_lacks m is.0.0 c (omega arith) blank, (pos_lacks p c is.0.1 (omega arith), (decimal_lacks i c is.1 (inl (omega arith)), tt)))
texts_lack (LiftOne m p) is c less blank = (module_lacks m is.0 c (omega arith) blank, (pos_lacks p c is.1 (omega arith), tt))
texts_lack (LiftTop m p) is c less blank = (module_lacks m is.0 c (omega arith) blank, (pos_lacks p c is.1 (omega arith), tt))
texts_lack (Demote m p) is c less blank = (module_lacks m is.0 c (omega arith) blank, (pos_lacks p c is.1 (omega arith), tt))
texts_lack (Generalise m p n) is c less blank = (module_lacks m is.0.0 c (omega arith) blank, (pos_lacks p c is.0.1 (omega arith), (word_lacks n is.1 c (omega arith) blank, tt)))
texts_lack (Move a n b) is c less blank = (module_lacks a is.0 c (omega arith) blank, (word_lacks n is.1.0 c (omega arith) blank, (module_lacks b is.1.1 c (omega arith) blank, tt)))
texts_lack (Abstract m t) is c less blank = (module_lacks m is.0 c (omega arith) blank, (word_lacks t is.1 c (omega arith) blank, tt))
texts_lack Undo is c less blank = tt

words_lack : (d : Command) → IsSpeakable d → (c : ℕ) → c < 45 → is_blank c ≡ true → AllByRecursion (Lacks c) (verb_word (verb_of d) ∷ texts_of d)
words_lack d is c less blank = (verb_lacks (verb_of d) c less, texts_lack d is c less blank)

joined_lacks : (c separator : ℕ) (word : List ℕ) (words : List (List ℕ)) → (separator ≡ c → ⊥) → AllByRecursion (Lacks c) (word ∷ words)
    → Lacks c (join_with_byte separator (word ∷ words))
joined_lacks c separator word [] other lacks = lacks.0
joined_lacks c separator word (next ∷ words) other lacks =
    All-append (λ b. (b == c) ≡ false) word (separator ∷ join_with_byte separator (next ∷ words)) lacks.0
    (All-cons (λ b. (b == c) ≡ false) separator (join_with_byte separator (next ∷ words)) (ne_eqb separator c other) (joined_lacks c separator next words other lacks.1))

-- a command's line has no end of line in it
pub line_lacks : (d : Command) → IsSpeakable d → (c : ℕ) → c < 32 → is_blank c ≡ true → Lacks c (line_of d)
line_lacks d is c less blank = joined_lacks c 32 (verb_word (verb_of d)) (texts_of d) (λ e. omega arith) (words_lack d is c (omega arith) blank)

space_blank : is_blank 32 ≡ true
unfolding kind_of
space_blank = refl

-- The two together, for a line.

built_found : (found : Option Command) (c : Command) → when_built found ≡ Some c → (found ≡ Some c) × (is_built c ≡ true)
built_found None c e = cc
built_found (Some d) c e =
    let passed = when_some (is_built d) (Some d) c e in
    (passed.1, subst (λ x. is_built x ≡ true) (some_same d c passed.1) passed.0)

pub line_is : (line : List ℕ) (c : Command) → when_built (command_in (cut_at 32 line)) ≡ Some c → IsCommandLine line c
line_is line c e =
    let found = built_found (command_in (cut_at 32 line)) c e in
    let read = command_is (cut_at 32 line) c found.0 in
    record { line_is = sym (join_with_byte-slice_split 32 line) ∙ ap (join_with_byte 32) read.0; speakable = read.1; built = found.1 }

pub line_there : (line : List ℕ) (c : Command) → IsCommandLine line c → when_built (command_in (cut_at 32 line)) ≡ Some c
line_there line c is =
    ap (λ x. when_built (command_in (cut_at 32 x))) is.line_is
    ∙ ap (λ words. when_built (command_in words)) (cut_again 32 (verb_word (verb_of c)) (texts_of c) (words_lack c is.speakable 32 (omega arith) space_blank))
    ∙ ap when_built (command_there c is.speakable)
    ∙ let_through (is_built c) (Some c) is.built

pub one_command : (line : List ℕ) (c d : Command) → IsCommandLine line c → IsCommandLine line d → c ≡ d
one_command line c d is also = some_same c d (sym (line_there line c is) ∙ line_there line d also)
