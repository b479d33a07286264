-- Trees that stand are read: what is asked of each on the level below, and lists of them.
use Rattle.std.proofs.Common.{◌≡◌, ℕ, Bool, true, false, if◌then◌else◌, List, [], ◌∷◌, ◌++◌, map, Option, Some, None, refl, sym, ◌∙◌, subst, inl, inr}
use Rattle.std.specs.List.{AllByRecursion, flat_map}
use lib.Chars.{codes}
use Rattle.hr_base.specs.declared.lexeme.Class.{Class}
use Rattle.hr_base.specs.declared.lexeme.Item.{Item}
use Rattle.hr_rules.specs.declared.role.Role.{Role}
use Rattle.hr_rules.specs.declared.block.BlockKind.{BlockKind}
use Rattle.hr_rules.specs.declared.block.Placed.{Placed}
use Rattle.hr_rules.specs.Blocks.{is_open_brace}
use Rattle.hr_rules.specs.Names.{is_spelled, is_one_of}
use Rattle.hr_rules.specs.Roles.{fixity_words, top_words, role_by, role_of, word_role, reserved_role}
use Rattle.hr_tree.specs.declared.names.Operator.{Operator}
use Rattle.hr_tree.specs.declared.lists.Block.{Block}
use Rattle.hr_tree.specs.declared.lists.Listed.{Listed}
use Rattle.hr_tree.specs.declared.patterns.Pat.{Pat}
use Rattle.hr_tree.specs.declared.expressions.Exp.{Exp}
use Rattle.hr_tree.specs.declared.expressions.Decl.{Decl}
use Rattle.hr_tree.specs.declared.expressions.Alt.{Alt}
use Rattle.hr_tree.specs.Names.{maybe_item, operator_items}
use Rattle.hr_tree.specs.Lists.{listed_items, block_items}
use Rattle.hr_tree.specs.Yields.{pat_items, exp_items, decl_items, alt_items}
use Rattle.hr_grammar.specs.Words.{IsText}
use Rattle.hr_grammar.specs.Spelled.{IsOperator, IsVariableOperator, IsConstructorOperator}
use Rattle.hr_grammar.specs.Separated.{There, AreSeparated}
use Rattle.hr_grammar.specs.Nodes.{Nodes, Colons, PatPlace, ExpPlace, DeclPlace}
use Rattle.hr_grammar.specs.Firsts.{FirstHas, begins_pattern, begins_operand, opens_expression, BeginsExpression, opens_part}
use Rattle.hr_grammar.specs.Spans.{Laid, row, block_laid}
use Rattle.hr_grammar_cases.specs.Readings.{Reading, one, take_all, in_turn, separated, inside}
use Rattle.hr_grammar_cases.specs.Derivations.{Derivations}
use Rattle.hr_grammar_cases.proofs.Stretches.{Text}
use Rattle.hr_grammar_cases.proofs.StandingBlocks.{block_by}
use Rattle.hr_grammar_cases.proofs.StandingTrees.{laid_exp, laid_decl, laid_alt, separated_laid}
use Rattle.hr_grammar_cases_laws.proofs.Retaken.{one_there_retakes}
use Rattle.hr_grammar_cases_laws.proofs.Regaining.{Firm, text_firm, class_firm, nothing_firm, Regains, through, then_regains, all_regain, retaken_regains, nothing_regains}
use Rattle.hr_grammar_cases_laws.proofs.RegainingPieces.{Begun, begun_firm}

-- ---- first items
pub begun_more : (items more : List Item) → Begun items → Begun (items ++ more)
begun_more [] more b = elim b [ ]
begun_more (item ∷ items) more b = b

pub firm_text : (class : Class) (text : List ℕ) (item : Item) (items : List Item) → IsText class text item → is_open_brace (role_by class text) ≡ false → Firm (item ∷ items)
firm_text class text item items is e rest nb = text_firm class text item is e

no_brace : (test : Role → Bool) → test Role.OpenBrace ≡ false → (role : Role) → test role ≡ true → is_open_brace role ≡ false
no_brace test e Role.OpenBrace t = let no : ⊥ = cc in elim no [ ]
no_brace test e _ t = refl

begins_begun : (test : Role → Bool) → test Role.OpenBrace ≡ false → (items : List Item) → FirstHas test items → Begun items
begins_begun test e [] b = elim b [ ]
begins_begun test e (item ∷ items) b = no_brace test e (role_of item.lexeme) b

pub pattern_begun : (items : List Item) → FirstHas begins_pattern items → Begun items
pattern_begun = begins_begun begins_pattern refl

pub part_begun : (kind : BlockKind) (items : List Item) → FirstHas (opens_part kind) items → Begun items
part_begun BlockKind.Body = begins_begun (opens_part BlockKind.Body) refl
part_begun BlockKind.Declarations = begins_begun (opens_part BlockKind.Declarations) refl
part_begun BlockKind.Alternatives = begins_begun (opens_part BlockKind.Alternatives) refl

-- none of five choices of roles is a `{`
no_choice : (first second third fourth fifth last : Role) → is_open_brace first ≡ false → is_open_brace second ≡ false → is_open_brace third ≡ false → is_open_brace fourth ≡ false → is_open_brace fifth ≡ false
    → is_open_brace last ≡ false → (a b c d e : Bool) → is_open_brace (if a then first else (if b then second else (if c then third else (if d then fourth else (if e then fifth else last))))) ≡ false
no_choice first second third fourth fifth last p q r s t u true b c d e = p
no_choice first second third fourth fifth last p q r s t u false true c d e = q
no_choice first second third fourth fifth last p q r s t u false false true d e = r
no_choice first second third fourth fifth last p q r s t u false false false true e = s
no_choice first second third fourth fifth last p q r s t u false false false false true = t
no_choice first second third fourth fifth last p q r s t u false false false false false = u

word_firm : (text : List ℕ) → is_open_brace (word_role text) ≡ false
word_firm text =
    no_choice Role.Wildcard Role.Where Role.Of Role.FixityWord Role.TopWord Role.Other refl refl refl refl refl refl
    (is_spelled (codes "_") text) (is_spelled (codes "where") text) (is_spelled (codes "of") text) (is_one_of fixity_words text) (is_one_of top_words text)

reserved_firm : (text : List ℕ) → is_open_brace (reserved_role text) ≡ false
reserved_firm text =
    no_choice Role.Operator Role.DoubleColon Role.Bar Role.Arrow Role.Tilde Role.Other refl refl refl refl refl refl
    (is_spelled (codes ":") text) (is_spelled (codes "::") text) (is_spelled (codes "|") text) (is_spelled (codes "->") text) (is_spelled (codes "~") text)

opening_firm : (class : Class) (text : List ℕ) → opens_expression class text ≡ true → is_open_brace (role_by class text) ≡ false
opening_firm Class.ReservedId text e = word_firm text
opening_firm Class.ReservedOp text e = reserved_firm text
opening_firm Class.VarId text e = refl
opening_firm Class.ConId text e = refl
opening_firm Class.QVarId text e = refl
opening_firm Class.QConId text e = refl
opening_firm Class.Integer text e = refl
opening_firm Class.Float text e = refl
opening_firm Class.Char text e = refl
opening_firm Class.Str text e = refl
opening_firm Class.VarSym text e = let no : ⊥ = cc in elim no [ ]
opening_firm Class.ConSym text e = refl
opening_firm Class.QVarSym text e = refl
opening_firm Class.QConSym text e = refl
opening_firm Class.Special text e = let no : ⊥ = cc in elim no [ ]

pub expression_begun : (items : List Item) → BeginsExpression items → Begun items
unfolding role_of
expression_begun [] b = elim b [ ]
expression_begun (item ∷ items) (inl b) = no_brace begins_operand refl (role_of item.lexeme) b
expression_begun (item ∷ items) (inr b) = opening_firm item.lexeme.class item.lexeme.text b

-- operators
symbol_firm : (text : List ℕ) → is_open_brace (role_by Class.VarSym text) ≡ false
symbol_firm text = by (is_spelled (codes "-") text)
  where
    by : (b : Bool) → is_open_brace (if b then Role.Minus else Role.Operator) ≡ false
    by true = refl
    by false = refl

variable_operator_begun : (operator : Operator) → IsVariableOperator operator → Begun (operator_items operator)
variable_operator_begun (Operator.Symbol symbol) (inl is) = class_firm Class.VarSym symbol is (symbol_firm symbol.lexeme.text)
variable_operator_begun (Operator.Symbol symbol) (inr is) = class_firm Class.QVarSym symbol is refl
variable_operator_begun (Operator.Quoted left name right) is = text_firm Class.Special (codes "`") left is.0 refl

constructor_operator_begun : (operator : Operator) → IsConstructorOperator operator → Begun (operator_items operator)
constructor_operator_begun (Operator.Symbol symbol) (inl is) = class_firm Class.ConSym symbol is refl
constructor_operator_begun (Operator.Symbol symbol) (inr (inl is)) = class_firm Class.QConSym symbol is refl
constructor_operator_begun (Operator.Symbol symbol) (inr (inr is)) = text_firm Class.ReservedOp (codes ":") symbol is refl
constructor_operator_begun (Operator.Quoted left name right) is = text_firm Class.Special (codes "`") left is.0 refl

pub operator_begun : (operator : Operator) → IsOperator operator → Begun (operator_items operator)
operator_begun operator (inl is) = variable_operator_begun operator is
operator_begun operator (inr is) = constructor_operator_begun operator is

-- ---- the trees of the grammar on the level below are read where they stand
pub record AllRegain (text : Text) (below : Derivations) (allowed : Nodes) : Type 0 where
  pub pat_begins : (place : PatPlace) (pat : Pat) → allowed.pat place pat → Begun (pat_items pat)
  pub exp_begins : (free : Colons) (place : ExpPlace) (exp : Exp) → allowed.exp free place exp → Begun (exp_items exp)
  pub exp : (n : ℕ) (free : Colons) (place : ExpPlace) (exp : Exp) → allowed.exp free place exp → Regains text n false (laid_exp exp) (exp_items exp) (inside (below.exp n free place exp))
  pub decl : (n : ℕ) (place : DeclPlace) (decl : Decl) → allowed.decl place decl → Regains text n false (laid_decl decl) (decl_items decl) (inside (below.decl n place decl))
  pub alt : (n : ℕ) (alt : Alt) → allowed.alt alt → Regains text n false (laid_alt alt) (alt_items alt) (inside (below.alt n alt))
  pub declarations : (m : ℕ) (block : Block Decl) → allowed.declarations DeclPlace.Local block
      → Regains text m true (block_laid BlockKind.Declarations (block_by laid_decl block)) (block_items decl_items block) (below.declarations m DeclPlace.Local block)
  pub alternatives : (m : ℕ) (block : Block Alt) → allowed.alternatives block
      → Regains text m true (block_laid BlockKind.Alternatives (block_by laid_alt block)) (block_items alt_items block) (below.alternatives m block)

-- ---- lists
turn_firm : {T : Type 0} (items_of : T → List Item) (Is : T → Type 0) → ((x : T) → Is x → Begun (items_of x)) → (xs : List T) → AllByRecursion Is xs → Firm (flat_map items_of xs)
turn_firm items_of Is begun [] are = nothing_firm
turn_firm items_of Is begun (x ∷ xs) are = begun_firm (items_of x ++ flat_map items_of xs) (begun_more (items_of x) (flat_map items_of xs) (begun x are.0))

pub in_turn_regain : {T : Type 0} {text : Text} {n : ℕ} (laid_of : T → Laid) (items_of : T → List Item) (of : T → Reading) (Is : T → Type 0) → ((x : T) → Is x → Begun (items_of x))
    → ((x : T) → Is x → Regains text n false (laid_of x) (items_of x) (of x)) → (xs : List T) → AllByRecursion Is xs
    → Regains text n false (row (map laid_of xs)) (flat_map items_of xs) (in_turn of xs)
in_turn_regain laid_of items_of of Is begun each [] are = nothing_regains
in_turn_regain laid_of items_of of Is begun each (x ∷ xs) are =
    then_regains (inr (turn_firm items_of Is begun xs are.1)) (each x are.0) (in_turn_regain laid_of items_of of Is begun each xs are.1)

separator_firm : (Separates : Item → Type 0) → ((item : Item) → Separates item → is_open_brace (role_of item.lexeme) ≡ false) → (separator : Option Item) → There Separates separator → Firm (maybe_item separator)
separator_firm Separates firm None is = elim is [ ]
separator_firm Separates firm (Some item) is = λ rest nb. firm item is

none_firm : (separator : Option Item) → separator ≡ None → Firm (maybe_item separator)
none_firm separator e = subst (λ s. Firm (maybe_item s)) (sym e) nothing_firm

separated_begun : {T : Type 0} (Separates : Item → Type 0) (items_of : T → List Item) (Is : T → Type 0) → ((x : T) → Is x → Begun (items_of x)) → (listed : Listed T) (rest : List (Listed T))
    → AreSeparated Separates Is (listed ∷ rest) → Begun (flat_map (listed_items items_of) (listed ∷ rest))
separated_begun Separates items_of Is begun listed [] are =
    begun_more (listed_items items_of listed) [] (begun_more (items_of listed.part) (maybe_item listed.separator) (begun listed.part are.0))
separated_begun Separates items_of Is begun listed (next ∷ rest) are =
    begun_more (listed_items items_of listed) (flat_map (listed_items items_of) (next ∷ rest)) (begun_more (items_of listed.part) (maybe_item listed.separator) (begun listed.part are.0))

pub separated_regain : {T : Type 0} {text : Text} {n : ℕ} (Separates : Item → Type 0) → ((item : Item) → Separates item → is_open_brace (role_of item.lexeme) ≡ false) → (laid_of : T → Laid) (items_of : T → List Item)
    (of : T → Reading) (Is : T → Type 0) → ((x : T) → Is x → Begun (items_of x)) → ((x : T) → Is x → Regains text n false (laid_of x) (items_of x) (of x)) → (list : List (Listed T))
    → AreSeparated Separates Is list → Regains text n false (separated_laid laid_of list) (flat_map (listed_items items_of) list) (separated (one n Separates) of list)
separated_regain Separates firm laid_of items_of of Is begun each [] are = nothing_regains
separated_regain {n = n} Separates firm laid_of items_of of Is begun each (listed ∷ []) are =
    through (λ ts us r. (are.1, subst (λ l. of listed.part ts l) (sym (r.2 ∙ none_left listed.separator are.1 r.1.0 r.0 r.1.2)) r.1.1))
    (then_regains (inr nothing_firm) (then_regains (inr (none_firm listed.separator are.1)) (each listed.part are.0) (all_regain (maybe_item listed.separator))) nothing_regains)
  where
    none_left : (separator : Option Item) → separator ≡ None → (ts us : List Placed) → take_all n (maybe_item separator) ts us → us ≡ ts
    none_left None e ts us h = h
    none_left (Some item) e ts us h = let no : ⊥ = cc in elim no [ ]
separated_regain {n = n} Separates firm laid_of items_of of Is begun each (listed ∷ (next ∷ rest)) are =
    through (λ ts us r. (r.1.0, r.1.1, (r.0, r.1.2, r.2)))
    (then_regains (inr (begun_firm (flat_map (listed_items items_of) (next ∷ rest)) (separated_begun Separates items_of Is begun next rest are.1.1)))
    (then_regains (inr (separator_firm Separates firm listed.separator are.1.0)) (each listed.part are.0) (retaken_regains (one_there_retakes n Separates listed.separator are.1.0)))
    (separated_regain Separates firm laid_of items_of of Is begun each (next ∷ rest) are.1.1))
