-- What is written for a type in a scope of identifiers is lexed as its lexemes, and reads as the type alone.
use Rattle.std.proofs.Common.{◌≡◌, inl, inr, ℕ, Bool, true, false, cond, nat_lt, List, [], ◌∷◌, ◌++◌, map, codes, Option, Some, None, slice_get, refl, sym, ap, subst, ◌∙◌}
use Rattle.std.specs.List.{AllByRecursion as Each}
use Rattle.hr_base.specs.declared.bind.Entity.{Entity}
use Rattle.hr_base.specs.declared.bind.Name.{Name}
use Rattle.hr_base.specs.declared.lexeme.Class.{Class}
use Rattle.hr_base.specs.declared.lexeme.Items.{Items}
use Rattle.hr_rules.specs.Lexemes.{LexesText}
use Rattle.hr_rules.proofs.Reading.{one_reading_lem}
use Rattle.hr_type.specs.declared.mono.Mono.{Mono}
use Rattle.hr_type.specs.declared.mono.Mono.TheVariants.{Var, Con, Fun}
use Rattle.hr_type.specs.declared.spell.TypeScope.{TypeScope}
use Rattle.hr_type.specs.declared.spell.Brackets.{Brackets}
use Rattle.hr_type.specs.declared.spell.Brackets.TheVariants.{Square, Round}
use Rattle.hr_type.specs.Grammar.{ReadsType, Spells}
use Rattle.hr_type.specs.Spelling as spec
use Rattle.hr_type.specs.Spelling.{Piece, blank, lexeme, Written, written, within, brackets_of, name_text, bytes_of, lexemes_of}
use Rattle.hr_type.proofs.Terms.{every_type}
use Rattle.hr_type.proofs.Spellings.{written_var, written_fun, written_enclosed, written_applied}
use Rattle.hr_type_laws.specs.Lexed.{LexesAs, texts_of, WrittenIsLexed, SpelledReadsBack}
use Rattle.hr_type_laws.specs.Scopes.{IsConid, IsTypeScope}
use Rattle.hr_type_laws.proofs.Between.{written_apart}
use Rattle.hr_type_laws.proofs.Lexed.{pieces_lexed}
use Rattle.hr_type_laws.proofs.Read.{one_type_lem}
use Rattle.hr_type_laws.proofs.Telling.{scopes_tell_apart_lem}
use Rattle.hr_type_laws.proofs.Tokens.{Token, identifier, left, right, left_square, right_square, comma, arrow}

AreTokens : List Piece → Type 0
AreTokens ps = Each Token (lexemes_of ps)

append_tokens : (xs ys : List Piece) → AreTokens xs → AreTokens ys → AreTokens (xs ++ ys)
unfolding AreTokens
append_tokens [] ys a b = b
append_tokens (blank ∷ xs) ys a b = append_tokens xs ys a b
append_tokens (lexeme text ∷ xs) ys a b = (a.0, append_tokens xs ys a.1 b)

enclosed_tokens : (before after : List ℕ) (ps : List Piece) → Token before → Token after → AreTokens ps → AreTokens (lexeme before ∷ (ps ++ lexeme after ∷ []))
unfolding AreTokens
enclosed_tokens before after ps b a all = (b, append_tokens ps (lexeme after ∷ []) all (a, tt))

within_tokens : (least : ℕ) (w : Written) → AreTokens w.pieces → AreTokens (within least w)
within_tokens least w all = by_test (nat_lt w.grade least)
  where
    by_test : (b : Bool) → AreTokens (cond b (lexeme (codes "(") ∷ (w.pieces ++ lexeme (codes ")") ∷ [])) w.pieces)
    by_test true = enclosed_tokens (codes "(") (codes ")") w.pieces left right all
    by_test false = all

arrow_tokens : (ps : List Piece) → AreTokens ps → AreTokens (blank ∷ lexeme (codes "->") ∷ blank ∷ ps)
unfolding AreTokens
arrow_tokens ps all = (arrow, all)

brackets_tokens : (b : Brackets) (ps : List Piece) → AreTokens ps → AreTokens (lexeme (spec.opening b) ∷ (ps ++ lexeme (spec.closing b) ∷ []))
brackets_tokens Square ps all = enclosed_tokens (codes "[") (codes "]") ps left_square right_square all
brackets_tokens Round ps all = enclosed_tokens (codes "(") (codes ")") ps left right all

conid : (text : List ℕ) → IsConid text → Token text
conid text (inl e) = identifier text Class.ConId e refl
conid text (inr e) = identifier text Class.QConId e refl

module _ (scope : TypeScope) (is : IsTypeScope scope) where
  Claim : Mono → Type 0
  Claim t = AreTokens (written scope t).pieces

  arguments_tokens : (ts : List Mono) → Each Claim ts → AreTokens (spec.arguments (map (written scope) ts))
  unfolding Claim AreTokens
  arguments_tokens [] all = tt
  arguments_tokens (t ∷ ts) all =
      append_tokens (within 2 (written scope t)) (spec.arguments (map (written scope) ts)) (within_tokens 2 (written scope t) all.0) (arguments_tokens ts all.1)

  rest_tokens : (ts : List Mono) → Each Claim ts → AreTokens (spec.listed_rest (map (written scope) ts))
  unfolding Claim AreTokens
  rest_tokens [] all = tt
  rest_tokens (t ∷ ts) all = (comma, append_tokens (written scope t).pieces (spec.listed_rest (map (written scope) ts)) all.0 (rest_tokens ts all.1))

  listed_tokens : (ts : List Mono) → Each Claim ts → AreTokens (spec.listed (map (written scope) ts))
  unfolding Claim AreTokens
  listed_tokens [] all = tt
  listed_tokens (t ∷ ts) all = append_tokens (written scope t).pieces (spec.listed_rest (map (written scope) ts)) all.0 (rest_tokens ts all.1)

  variable_tokens : (n : ℕ) (o : Option (List ℕ)) → slice_get scope.variables n ≡ o → AreTokens (spec.variable_pieces o)
  unfolding AreTokens
  variable_tokens n None has = tt
  variable_tokens n (Some text) has = (identifier text Class.VarId (is.variables n text has) refl, tt)

  name_tokens : (e : Entity) (o : Option Name) → spec.name_for e scope.names ≡ o → AreTokens (spec.name_pieces o)
  unfolding AreTokens
  name_tokens e None has = tt
  name_tokens e (Some name) has = (conid (name_text name) (is.names e name has), tt)

  var_claim : (n : ℕ) → Claim (Var n)
  unfolding Claim
  var_claim n = subst (λ w. AreTokens w.pieces) (sym (written_var scope (Var n) n refl)) (variable_tokens n (slice_get scope.variables n) refl)

  fun_claim : (a b : Mono) → Claim a → Claim b → Claim (Fun a b)
  unfolding Claim
  fun_claim a b p q =
      subst (λ w. AreTokens w.pieces) (sym (written_fun scope (Fun a b) a b refl))
      (append_tokens (within 1 (written scope a)) (blank ∷ lexeme (codes "->") ∷ blank ∷ (written scope b).pieces) (within_tokens 1 (written scope a) p) (arrow_tokens (written scope b).pieces q))

  con_claim : (e : Entity) (ts : List Mono) → Each Claim ts → Claim (Con e ts)
  unfolding Claim
  con_claim e ts all = by_brackets (brackets_of e) refl
    where
      by_brackets : (o : Option Brackets) → brackets_of e ≡ o → AreTokens (written scope (Con e ts)).pieces
      by_brackets None plain =
          subst (λ w. AreTokens w.pieces) (sym (written_applied scope (Con e ts) e ts refl plain))
          (append_tokens (spec.name_pieces (spec.name_for e scope.names)) (spec.arguments (map (written scope) ts)) (name_tokens e (spec.name_for e scope.names) refl) (arguments_tokens ts all))
      by_brackets (Some b) syntax_is =
          subst (λ w. AreTokens w.pieces) (sym (written_enclosed scope (Con e ts) e ts b refl syntax_is)) (brackets_tokens b (spec.listed (map (written scope) ts)) (listed_tokens ts all))

  written_tokens : (t : Mono) → AreTokens (written scope t).pieces
  unfolding Claim
  written_tokens t = every_type Claim var_claim con_claim fun_claim t

  written_lexed : (t : Mono) → LexesAs (bytes_of (written scope t).pieces) (lexemes_of (written scope t).pieces)
  unfolding AreTokens
  written_lexed t = pieces_lexed (written scope t).pieces (written_apart scope t) (written_tokens t)

  -- however the bytes are lexed
  lexemes_are : (t : Mono) (bytes : List ℕ) → Spells scope t bytes → (items : Items) → LexesText bytes items → texts_of items.list ≡ lexemes_of (written scope t).pieces
  lexemes_are t bytes spells items lexes =
      let l = written_lexed t in
      let here : LexesText bytes l.items = subst (λ x. LexesText x l.items) (sym spells.text) l.lexes in
      ap (λ x. texts_of x.list) (one_reading_lem bytes items l.items lexes here) ∙ l.are

pub written_is_lexed_lem : WrittenIsLexed
written_is_lexed_lem scope is t = written_lexed scope is t

pub spelled_reads_back_lem : SpelledReadsBack
spelled_reads_back_lem scope is t bytes spells items lexes =
    let same : texts_of items.list ≡ lexemes_of (written scope t).pieces = lexemes_are scope is t bytes spells items lexes in
    let reads : ReadsType scope 0 (texts_of items.list) t = subst (λ xs. ReadsType scope 0 xs t) (sym same) spells.reads in
    (reads, λ u other. one_type_lem scope (scopes_tell_apart_lem scope is) (texts_of items.list) u t other reads)
