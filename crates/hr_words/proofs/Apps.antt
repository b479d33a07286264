-- A command is what its arguments made of it, and its matches are told by rows.
use Rattle.std.proofs.Common.{◌≡◌, ◌≢◌, ◌∙◌, ap, sym, subst, ℕ, Bool, true, false, List, [], ◌∷◌, map, Option, Some, None, Result, Ok, Err, find, refl, cond, inl, inr, IfOk, MatchOption}
use Rattle.std.specs.Prelude.{codes, option_map, unwrap_or}
use Rattle.std.specs.Borrow.{Bor}
use Rattle.std.specs.Str.{bytes_eq}
use Rattle.clap.specs.Matches.{matched_of, raw_values}
use Rattle.std.specs.Prelude.{◌⊎◌}
use Rattle.std.specs.declared.alloc.AllocError.{AllocError}
use Rattle.clap.specs.Faults.{fault_of, is_simple_and_free}
use Rattle.clap.specs.Kinds.{IsAmong, Kinds}
use Rattle.clap.specs.Simple.{App, is_simple, matches_of, new_shape, with_rule}
use Rattle.clap.specs.declared.error.kind.ErrorKind.{ErrorKind}
use Rattle.clap.specs.declared.error.kind.ErrorKind.TheVariants.{OutOfMemory}
use Rattle.hr_words.specs.Words.{Request, hare_app, request_in, request_of, shown, values_in, when_taken}
use Rattle.hr_words.specs.declared.words.Request as code
use Rattle.clap.specs.Walk.{Row, Rule, row_of, rows_of}
use Rattle.clap.specs.declared.parser.matches.Found.{Found}
use Rattle.clap.specs.declared.parser.matches.MatchedArg.{MatchedArg}

-- without arguments
abbrev pub plain_app : App
plain_app = record {
  top = record (new_shape (codes "hare")) { no_binary_name = true; disable_help_flag = true; disable_version_flag = true };
  subs = [];
}

pub adds : {before start after : App} {found rule : Rule} → after ≡ with_rule before found → before ≡ start → found ≡ rule → after ≡ with_rule start rule
adds {before} {start} {after} {found} {rule} is from same = is ∙ ap (λ app. with_rule app found) from ∙ ap (with_rule start) same

abbrev values_found : Option (Bor (List ℕ) × MatchedArg) → Option (List (List ℕ))
values_found found = option_map raw_values (option_map (λ entry. entry.1) found)

row_found : (id : List ℕ) (entries : List (Bor (List ℕ) × MatchedArg))
    → option_map (λ row. row.values) (find (λ row. bytes_eq row.id id) (map row_of entries)) ≡ values_found (find (λ entry. bytes_eq entry.0.now id) entries)
row_found id [] = refl
row_found id (entry ∷ entries) = by (bytes_eq entry.0.now id) (row_found id entries)
  where
    by : (is : Bool) → option_map (λ row. row.values) (find (λ row. bytes_eq row.id id) (map row_of entries)) ≡ values_found (find (λ entry. bytes_eq entry.0.now id) entries)
        → option_map (λ row. row.values) (cond is (Some (row_of entry)) (find (λ row. bytes_eq row.id id) (map row_of entries)))
        ≡ values_found (cond is (Some entry) (find (λ entry. bytes_eq entry.0.now id) entries))
    by true rest = refl
    by false rest = rest

pub values_of_found : (found : Found) (id : List ℕ) → option_map (λ row. row.values) (find (λ row. bytes_eq row.id id) (rows_of found)) ≡ option_map raw_values (matched_of found id)
values_of_found found id = row_found id found.entries.items

pub values_there : (found : Found) (id : List ℕ) (values : List (List ℕ)) → Some values ≡ option_map raw_values (matched_of found id) → values ≡ values_in (rows_of found) id
values_there found id values is = ap (λ there. unwrap_or there []) (is ∙ sym (values_of_found found id))

pub none_there : (found : Found) (id : List ℕ) → ◌≡◌ {A = Option (List (List ℕ))} None (option_map raw_values (matched_of found id)) → [] ≡ values_in (rows_of found) id
none_there found id is = ap (λ there. unwrap_or there []) (is ∙ sym (values_of_found found id))

-- words that the command line takes ask for what is in its matches
request_is : (words : List (List ℕ)) (rows : List Row) → fault_of hare_app words ≡ [] → rows ≡ matches_of hare_app words → request_in rows ≡ request_of words
unfolding request_of
request_is words rows none are = ap request_in are ∙ ap (λ kinds. when_taken kinds (request_in (matches_of hare_app words))) (sym none)

hare_is_simple : is_simple hare_app ≡ true
hare_is_simple = refl

hare_is_free : is_simple_and_free hare_app ≡ true
hare_is_free = refl

pub is_simple_app : (app : App) → app ≡ hare_app → is_simple app ≡ true
is_simple_app app is = ap is_simple is ∙ hare_is_simple

pub is_free_app : (app : App) → app ≡ hare_app → is_simple_and_free app ≡ true
is_free_app app is = ap is_simple_and_free is ∙ hare_is_free

pub is_request : (app : App) (words : List (List ℕ)) (rows : List Row) → app ≡ hare_app → fault_of app words ≡ [] → rows ≡ matches_of app words → request_in rows ≡ request_of words
is_request app words rows is none are = request_is words rows (ap (λ a. fault_of a words) (sym is) ∙ none) (are ∙ ap (λ a. matches_of a words) is)

nothing_taken : (kind : ErrorKind) (kinds : Kinds) (found : Option Request) → IsAmong kind kinds → ◌≡◌ {A = Option Request} (when_taken kinds found) None
nothing_taken kind [] found among = absurd among
nothing_taken kind (first ∷ kinds) found among = refl

no_words : (words : List (List ℕ)) (kind : ErrorKind) → IsAmong kind (fault_of hare_app words) → request_of words ≡ None
unfolding request_of
no_words words kind among = nothing_taken kind (fault_of hare_app words) (request_in (matches_of hare_app words)) among

-- words that it refuses ask for nothing
refused_by : (result : Result (Option code.Request) AllocError) (kind : ErrorKind) (words : List (List ℕ)) → IfOk result (λ found. found ≡ None) → IfOk result (λ found. kind ≢ OutOfMemory)
    → (kind ≡ OutOfMemory) ⊎ IsAmong kind (fault_of hare_app words) → IfOk result (λ found. MatchOption found (request_of words ≡ None) (λ request. request_of words ≡ Some (shown request)))
refused_by (Err error) kind words none other cause = tt
refused_by (Ok found) kind words none other (inl memory) = absurd (other memory)
refused_by (Ok found) kind words none other (inr among) =
    subst (λ f. MatchOption f (request_of words ≡ None) (λ request. request_of words ≡ Some (shown request))) (sym none) (no_words words kind among)

pub refused_words : (app : App) (result : Result (Option code.Request) AllocError) (kind : ErrorKind) (words : List (List ℕ)) → app ≡ hare_app → IfOk result (λ found. found ≡ None) → IfOk result (λ found. kind ≢ OutOfMemory)
    → (kind ≡ OutOfMemory) ⊎ IsAmong kind (fault_of app words) → IfOk result (λ found. MatchOption found (request_of words ≡ None) (λ request. request_of words ≡ Some (shown request)))
refused_words app result kind words is none other cause = refused_by result kind words none other (subst (λ a. (kind ≡ OutOfMemory) ⊎ IsAmong kind (fault_of a words)) is cause)
