-- The words of a command line, as `clap` states what its simple command makes of them.
use Rattle.std.specs.Prelude.{Bool, true, false, ℕ, List, [], ◌∷◌, map, codes, find, option_map, unwrap_or, Option, Some, None}
use Rattle.std.specs.Str.{bytes_eq}
use Rattle.std.specs.String.{string_bytes}
use Rattle.clap.specs.Faults.{fault_of}
use Rattle.clap.specs.Kinds.{Kinds}
use Rattle.clap.specs.Lexer.{usize_max}
use Rattle.clap.specs.Simple.{App, matches_of, new_rule, new_shape}
use Rattle.clap.specs.Walk.{Row, Rule}
use Rattle.clap.specs.declared.builder.action.ArgAction.TheVariants.{Append, SetTrue}
use Rattle.hr_words.specs.declared.words.Request as code

-- what words ask for: the script of this name is to be run on the files of these names; in a dry run no file is to be
-- replaced, and where it keeps going a refused step does not end it
pub record Request : Type 0 where
  pub script : List ℕ
  pub files : List (List ℕ)
  pub dry_run : Bool
  pub keep_going : Bool

abbrev pub shown : code.Request → Request
shown r = record { script = string_bytes r.script; files = map string_bytes r.files.items; dry_run = r.dry_run; keep_going = r.keep_going }

-- a flag with a long name
abbrev pub flag_rule : List ℕ → Rule
flag_rule name = record (new_rule name) { long = Some name; action = Some SetTrue }

abbrev pub script_rule : Rule
script_rule = new_rule (codes "SCRIPT")

-- any number of files
abbrev pub file_rule : Rule
file_rule = record (new_rule (codes "FILE")) { action = Some Append; range = Some (record { start_inclusive = 0; end_inclusive = usize_max }) }

-- the command line, without flags for help and version
abbrev pub hare_app : App
hare_app = record {
  top = record (new_shape (codes "hare")) {
    no_binary_name = true;
    disable_help_flag = true;
    disable_version_flag = true;
    rules = flag_rule (codes "dry-run") ∷ flag_rule (codes "keep-going") ∷ script_rule ∷ file_rule ∷ [];
  };
  subs = [];
}

-- the values of an argument
abbrev pub values_in : List Row → List ℕ → List (List ℕ)
values_in rows id = unwrap_or (option_map (λ row. row.values) (find (λ row. bytes_eq row.id id) rows)) []

-- a flag is set
abbrev pub is_on : List (List ℕ) → Bool
is_on (value ∷ []) = bytes_eq value (codes "true")
is_on _ = false

-- a script and a file at least are there
abbrev pub request_with : List (List ℕ) → List (List ℕ) → Bool → Bool → Option Request
request_with (script ∷ []) (file ∷ files) dry_run keep_going = Some (record { script = script; files = file ∷ files; dry_run = dry_run; keep_going = keep_going })
request_with _ _ dry_run keep_going = None

abbrev pub request_in : List Row → Option Request
request_in rows = request_with (values_in rows (codes "SCRIPT")) (values_in rows (codes "FILE")) (is_on (values_in rows (codes "dry-run"))) (is_on (values_in rows (codes "keep-going")))

-- the command line refuses no word
abbrev pub when_taken : Kinds → Option Request → Option Request
when_taken [] found = found
when_taken (kind ∷ kinds) found = None

-- what the words ask for, if they are good: the command line takes them, and a script and a file are there
unfoldable pub request_of : List (List ℕ) → Option Request
request_of words = when_taken (fault_of hare_app words) (request_in (matches_of hare_app words))
