-- Each node of a pattern is read where its parts are.
use Rattle.std.proofs.Common.{◌≡◌, ◌≢◌, ℕ, zero, suc, ◌+◌, ◌-◌, ◌<◌, ◌≤◌, min, max, true, List, [], ◌∷◌, ◌++◌, length, Some, None, Result, Ok, Err, IfOk, refl, sym, ap, ◌∙◌, subst, arith, length-append}
use Rattle.std.proofs.lemmas.Bool.{false≢true}
use lib.Chars.{codes}
use Rattle.hr_base.specs.declared.lexeme.Item.{Item}
use Rattle.hr_rules.specs.declared.block.Placed.{Placed}
use Rattle.hr_layout.specs.Standing.{Standing}
use Rattle.hr_tree.specs.declared.lists.Listed.{Listed}
use Rattle.hr_tree.specs.declared.lists.Operand.{Operand}
use Rattle.hr_tree.specs.declared.names.Constructor.{Constructor}
use Rattle.hr_tree.specs.declared.names.Operator.{Operator}
use Rattle.hr_tree.specs.declared.names.Variable.{Variable}
use Rattle.hr_tree.specs.declared.patterns.Pat.{Pat, out-Pat}
use Rattle.hr_tree.specs.declared.patterns.Pat.TheVariants.{Variable as Bound, Wildcard, Literal, Negative, Constructor as Nullary, As, Lazy, Apply, Infix, Tuple, List as ListOf, Group}
use Rattle.hr_tree.specs.declared.patterns.Pat.TheOpen.{Pat-F}
use Rattle.hr_tree.specs.declared.patterns.Pat.TheViews.{out-roll-Pat, rolls-Variable, rolls-Wildcard, rolls-Literal, rolls-Negative, rolls-Constructor, rolls-As, rolls-Lazy, rolls-Apply, rolls-Infix, rolls-Tuple, rolls-List, rolls-Group}
use Rattle.hr_tree.specs.Names.{constructor_items, operator_items, variable_items}
use Rattle.hr_grammar.specs.Words.{IsWord, IsReserved, IsLiteral, IsMinus, IsInteger, IsLeftParen, IsRightParen, IsLeftSquare, IsRightSquare, IsComma}
use Rattle.hr_grammar.specs.Spelled.{IsVariable, IsConstructor, IsConstructorOperator, AreParts}
use Rattle.hr_grammar.specs.Nodes.{PatPlace}
use Rattle.hr_grammar.specs.Patterns.{HasTwo}
use Rattle.hr_grammar_cases.specs.Readings.{Reading, ◌▷◌, given, one, spelled, there, in_turn}
use Rattle.hr_grammar_cases.specs.Derivations.{Derivations}
use Rattle.hr_grammar_cases.specs.Patterns.{pat_operands, pat_reading}
use Rattle.hr_grammar_cases.specs.Modules.{derivations}
use Rattle.hr_grammar_cases.proofs.Shrinks.{readings_shrink_lem}
use Rattle.hr_parse_lexeme.specs.declared.stop.Stop.{Stop}
use Rattle.hr_parse_lexeme.specs.Reads.{Phrase, Consumes, Takes, Spells, ReadsEach, ReadsParts}
use Rattle.hr_parse_lexeme.proofs.Phrases.{last, then, item, last_item, name, last_name, where_given, none_between, parts_close, raised, placed_as}
use Rattle.hr_parse_pattern.specs.declared.brackets.Head.{Head}
use Rattle.hr_parse_pattern.specs.declared.many.Many.{Many}
use Rattle.hr_parse_pattern.specs.declared.many.Parts.{Parts}
use Rattle.hr_parse_pattern.specs.declared.part.Operands.{Operands}
use Rattle.hr_parse_pattern.specs.declared.part.Part.{Part}
use Rattle.hr_parse_pattern.specs.declared.separated.Separated.{Separated}
use Rattle.hr_parse_pattern.specs.Lists.{more_trees}
use Rattle.hr_parse_pattern.specs.Nodes.{deeper, applied_by, applied_of, atom_of, closed_by, closed_of, infix_by, infix_of, square_of}
use Rattle.hr_parse_pattern.specs.Patterns.{ReadsPat, ReadsArguments, ReadsThen, ReadsPatterns, ReadsOperands, ReadsHead, head_height, with_comma, with_operator}
use Rattle.hr_parse_pattern.proofs.Lists.{left_of_max, right_of_max, none_before}

-- a pattern by its outermost node
node : {h : ℕ} {a b : Standing} (place : PatPlace) (layer : Pat-F Pat) (pat : Pat) → out-Pat pat ≡ layer → Consumes h (λ below n. pat_reading below n place layer) a b
    → Consumes (h + 1) (λ below n. below.pat n place pat) a b
node place layer pat e p =
    raised (λ below n. below.pat n place pat) (λ levels n ts us r. subst (λ l. pat_reading (derivations levels) n place l ts us) (sym e) r) p

out_bound : (bound : Variable) → out-Pat (Bound bound) ≡ Pat-F.Variable bound
out_bound bound = ap out-Pat (sym (rolls-Variable bound)) ∙ out-roll-Pat (Pat-F.Variable bound)

out_wildcard : (word : Item) → out-Pat (Wildcard word) ≡ Pat-F.Wildcard word
out_wildcard word = ap out-Pat (sym (rolls-Wildcard word)) ∙ out-roll-Pat (Pat-F.Wildcard word)

out_literal : (literal : Item) → out-Pat (Literal literal) ≡ Pat-F.Literal literal
out_literal literal = ap out-Pat (sym (rolls-Literal literal)) ∙ out-roll-Pat (Pat-F.Literal literal)

out_negative : (minus number : Item) → out-Pat (Negative minus number) ≡ Pat-F.Negative minus number
out_negative minus number = ap out-Pat (sym (rolls-Negative minus number)) ∙ out-roll-Pat (Pat-F.Negative minus number)

out_nullary : (named : Constructor) → out-Pat (Nullary named) ≡ Pat-F.Constructor named
out_nullary named = ap out-Pat (sym (rolls-Constructor named)) ∙ out-roll-Pat (Pat-F.Constructor named)

out_as : (bound : Variable) (mark : Item) (part : Pat) → out-Pat (As bound mark part) ≡ Pat-F.As bound mark part
out_as bound mark part = ap out-Pat (sym (rolls-As bound mark part)) ∙ out-roll-Pat (Pat-F.As bound mark part)

out_lazy : (mark : Item) (part : Pat) → out-Pat (Lazy mark part) ≡ Pat-F.Lazy mark part
out_lazy mark part = ap out-Pat (sym (rolls-Lazy mark part)) ∙ out-roll-Pat (Pat-F.Lazy mark part)

out_apply : (named : Constructor) (arguments : List Pat) → out-Pat (Apply named arguments) ≡ Pat-F.Apply named arguments
out_apply named arguments = ap out-Pat (sym (rolls-Apply named arguments)) ∙ out-roll-Pat (Pat-F.Apply named arguments)

out_infix : (operands : List (Operand Pat)) → out-Pat (Infix operands) ≡ Pat-F.Infix operands
out_infix operands = ap out-Pat (sym (rolls-Infix operands)) ∙ out-roll-Pat (Pat-F.Infix operands)

out_tuple : (left : Item) (parts : List (Listed Pat)) (right : Item) → out-Pat (Tuple left parts right) ≡ Pat-F.Tuple left parts right
out_tuple left parts right = ap out-Pat (sym (rolls-Tuple left parts right)) ∙ out-roll-Pat (Pat-F.Tuple left parts right)

out_list : (left : Item) (parts : List (Listed Pat)) (right : Item) → out-Pat (ListOf left parts right) ≡ Pat-F.List left parts right
out_list left parts right = ap out-Pat (sym (rolls-List left parts right)) ∙ out-roll-Pat (Pat-F.List left parts right)

out_group : (left : Item) (part : Pat) (right : Item) → out-Pat (Group left part right) ≡ Pat-F.Group left part right
out_group left part right = ap out-Pat (sym (rolls-Group left part right)) ∙ out-roll-Pat (Pat-F.Group left part right)

not_empty : {T : Type 0} (x : T) (xs : List T) → (x ∷ xs) ≢ []
not_empty x xs = λ e. cc

not_empty_behind : {T : Type 0} (xs : List T) (x : T) → (xs ++ x ∷ []) ≢ []
not_empty_behind [] x = λ e. cc
not_empty_behind (y ∷ ys) x = λ e. cc

-- a pattern that equals one that is read
pub made : {place : PatPlace} {found part : Part Pat} {a b : Standing} → found ≡ part → ReadsPat place part a b → ReadsPat place found a b
made {place} {a = a} {b} e p = subst (λ t. ReadsPat place t a b) (sym e) p

-- one level above a height that is no greater than the limit
within_levels : (h : ℕ) → deeper h ≤ 257 → deeper h ≡ h + 1
within_levels h p = omega arith

pub limited : (h : ℕ) → h ≤ 256 → deeper h ≡ h + 1
limited h p = omega arith

raised_to : {place : PatPlace} {tree : Pat} (h : ℕ) {a b : Standing} → deeper h ≡ h + 1 → Consumes (h + 1) (λ below n. below.pat n place tree) a b
    → ReadsPat place (record { tree = tree; height = deeper h }) a b
raised_to {place} {tree} h {a} {b} e p = subst (λ k. Consumes k (λ below n. below.pat n place tree) a b) (sym e) p

-- patterns without patterns in them
pub variable_read : (place : PatPlace) {bound : Variable} {a b : Standing} → Spells IsVariable variable_items bound a b → ReadsPat place (record { tree = Bound bound; height = 1 }) a b
variable_read place {bound} p = node place (Pat-F.Variable bound) (Bound bound) (out_bound bound) (last_name {m = 0} p)

pub wildcard_read : {word : Item} {a b : Standing} → Takes (IsWord (codes "_")) word a b → ReadsPat PatPlace.Atomic (record { tree = Wildcard word; height = 1 }) a b
wildcard_read {word} p = node PatPlace.Atomic (Pat-F.Wildcard word) (Wildcard word) (out_wildcard word) (last_item {m = 0} p)

pub literal_read : {literal : Item} {a b : Standing} → Takes IsLiteral literal a b → ReadsPat PatPlace.Atomic (record { tree = Literal literal; height = 1 }) a b
literal_read {literal} p = node PatPlace.Atomic (Pat-F.Literal literal) (Literal literal) (out_literal literal) (last_item {m = 0} p)

pub negative_read : {minus number : Item} {a b c : Standing} → Takes IsMinus minus a b → Takes IsInteger number b c → ReadsPat PatPlace.Operand (record { tree = Negative minus number; height = 1 }) a c
negative_read {minus} {number} p q =
    node PatPlace.Operand (Pat-F.Negative minus number) (Negative minus number) (out_negative minus number) (where_given _ refl (item p (last_item {m = 0} q)))

nullary_read : (place : PatPlace) {named : Constructor} {a b : Standing} → Spells IsConstructor constructor_items named a b → ReadsPat place (record { tree = Nullary named; height = 1 }) a b
nullary_read place {named} p = node place (Pat-F.Constructor named) (Nullary named) (out_nullary named) (last_name {m = 0} p)

pub atom_read : (head : Head) {a b : Standing} → ReadsHead head a b → ReadsPat PatPlace.Atomic (atom_of head) a b
atom_read (Head.Named named) p = nullary_read PatPlace.Atomic p
atom_read (Head.Atom part) p = p

-- a variable with what it is bound to
pub as_read : {bound : Variable} {mark : Item} {part : Part Pat} {a b c d : Standing} → part.height ≤ 256 → Spells IsVariable variable_items bound a b → Takes (IsReserved (codes "@")) mark b c
    → ReadsPat PatPlace.Atomic part c d → ReadsPat PatPlace.Atomic (record { tree = As bound mark part.tree; height = deeper part.height }) a d
as_read {bound} {mark} {part} fits p q r =
    raised_to part.height (limited part.height fits) (node PatPlace.Atomic (Pat-F.As bound mark part.tree) (As bound mark part.tree) (out_as bound mark part.tree) (name p (item q r)))

pub lazy_read : {mark : Item} {part : Part Pat} {a b c : Standing} → part.height ≤ 256 → Takes (IsReserved (codes "~")) mark a b → ReadsPat PatPlace.Atomic part b c
    → ReadsPat PatPlace.Atomic (record { tree = Lazy mark part.tree; height = deeper part.height }) a c
lazy_read {mark} {part} fits p q =
    raised_to part.height (limited part.height fits) (node PatPlace.Atomic (Pat-F.Lazy mark part.tree) (Lazy mark part.tree) (out_lazy mark part.tree) (item p q))

-- a constructor with its arguments
applied_in : (named : Constructor) (arguments : List Pat) (h : ℕ) {a b c : Standing} → h ≤ 256 → Spells IsConstructor constructor_items named a b
    → ReadsEach h (λ below n. below.pat n PatPlace.Atomic) arguments b c → ReadsPat PatPlace.Operand (applied_by named arguments h) a c
applied_in named [] h fits p q = none_between q (nullary_read PatPlace.Operand p)
applied_in named (first ∷ rest) h fits p q =
    raised_to h (limited h fits)
    (node PatPlace.Operand (Pat-F.Apply named (first ∷ rest)) (Apply named (first ∷ rest)) (out_apply named (first ∷ rest)) (where_given _ (refl, not_empty first rest) (name p q.reads)))

pub applied_read : {named : Constructor} {arguments : Many Pat} {a b c : Standing} → arguments.height ≤ 256 → Spells IsConstructor constructor_items named a b → ReadsArguments arguments b c
    → ReadsPat PatPlace.Operand (applied_of named arguments) a c
applied_read {named} {arguments} fits p q = applied_in named arguments.list arguments.height fits p q

-- operands between operators
operands_end : (below : Derivations) (n : ℕ) (others : List (Operand Pat)) (last : Pat) (ts vs us : List Placed) → in_turn (with_operator below n) others ts vs → below.pat n PatPlace.Operand last vs us
    → pat_operands below n (others ++ record { minus = None; part = last; operator = None } ∷ []) ts us
operands_end below n [] last ts vs us e h = ((refl, refl), subst (λ l. below.pat n PatPlace.Operand last l us) e h)
operands_end below n (one ∷ []) last ts vs us h g =
    (h.1.0, (h.1.1.0, h.1.1.1, (h.0, h.1.1.2, operands_end below n [] last h.0 vs us h.2 g)))
operands_end below n (one ∷ (next ∷ rest)) last ts vs us h g =
    (h.1.0, (h.1.1.0, h.1.1.1, (h.0, h.1.1.2, operands_end below n (next ∷ rest) last h.0 vs us h.2 g)))

all_operands : (others : List (Operand Pat)) (last : Pat) {h : ℕ} {a b : Standing} → Consumes h (λ below n. in_turn (with_operator below n) others ▷ below.pat n PatPlace.Operand last) a b
    → Consumes h (λ below n. pat_operands below n (others ++ record { minus = None; part = last; operator = None } ∷ [])) a b
all_operands others last {a = a} {b} p =
    record { read = λ levels le. operands_end (derivations levels) _ others last a.rest (p.read levels le).0 b.rest (p.read levels le).1 (p.read levels le).2; blocks = p.blocks }

two_operands : {T : Type 0} (first : T) (rest : List T) (last : T) → HasTwo ((first ∷ rest) ++ last ∷ [])
two_operands first [] last = tt
two_operands first (next ∷ rest) last = tt

-- what may stand at a place may stand where more may
operand_too : (below : Derivations) (n : ℕ) (layer : Pat-F Pat) (ts us : List Placed) → pat_reading below n PatPlace.Atomic layer ts us → pat_reading below n PatPlace.Operand layer ts us
operand_too below n (Pat-F.Variable bound) ts us r = r
operand_too below n (Pat-F.Wildcard word) ts us r = r
operand_too below n (Pat-F.Literal literal) ts us r = r
operand_too below n (Pat-F.Negative minus number) ts us r = absurd (false≢true r.0)
operand_too below n (Pat-F.Constructor named) ts us r = r
operand_too below n (Pat-F.As bound mark part) ts us r = r
operand_too below n (Pat-F.Lazy mark part) ts us r = r
operand_too below n (Pat-F.Apply named arguments) ts us r = absurd (false≢true r.0.0)
operand_too below n (Pat-F.Infix operands) ts us r = absurd (false≢true r.0.0)
operand_too below n (Pat-F.Tuple left parts right) ts us r = r
operand_too below n (Pat-F.List left parts right) ts us r = r
operand_too below n (Pat-F.Group left part right) ts us r = r
operand_too below n (Pat-F.Fields named left fields right) ts us r = elim r [ ]

whole_too : (below : Derivations) (n : ℕ) (layer : Pat-F Pat) (ts us : List Placed) → pat_reading below n PatPlace.Operand layer ts us → pat_reading below n PatPlace.Whole layer ts us
whole_too below n (Pat-F.Variable bound) ts us r = r
whole_too below n (Pat-F.Wildcard word) ts us r = r
whole_too below n (Pat-F.Literal literal) ts us r = r
whole_too below n (Pat-F.Negative minus number) ts us r = r
whole_too below n (Pat-F.Constructor named) ts us r = r
whole_too below n (Pat-F.As bound mark part) ts us r = r
whole_too below n (Pat-F.Lazy mark part) ts us r = r
whole_too below n (Pat-F.Apply named arguments) ts us r = r
whole_too below n (Pat-F.Infix operands) ts us r = absurd (false≢true r.0.0)
whole_too below n (Pat-F.Tuple left parts right) ts us r = r
whole_too below n (Pat-F.List left parts right) ts us r = r
whole_too below n (Pat-F.Group left part right) ts us r = r
whole_too below n (Pat-F.Fields named left fields right) ts us r = elim r [ ]

on_level : (first second : PatPlace) → ((below : Derivations) (n : ℕ) (layer : Pat-F Pat) (ts us : List Placed) → pat_reading below n first layer ts us → pat_reading below n second layer ts us)
    → (pat : Pat) (levels n : ℕ) (ts us : List Placed) → (derivations levels).pat n first pat ts us → (derivations levels).pat n second pat ts us
on_level first second turn pat zero n ts us r = elim r [ ]
on_level first second turn pat (suc levels) n ts us r = turn (derivations levels) n (out-Pat pat) ts us r

pub as_operand : {part : Part Pat} {a b : Standing} → ReadsPat PatPlace.Atomic part a b → ReadsPat PatPlace.Operand part a b
as_operand {part} p = placed_as (λ below n. below.pat n PatPlace.Operand part.tree) (on_level PatPlace.Atomic PatPlace.Operand operand_too part.tree) p

pub as_whole : {part : Part Pat} {a b : Standing} → ReadsPat PatPlace.Operand part a b → ReadsPat PatPlace.Whole part a b
as_whole {part} p = placed_as (λ below n. below.pat n PatPlace.Whole part.tree) (on_level PatPlace.Operand PatPlace.Whole whole_too part.tree) p

-- the operands as a pattern
infix_in : (others : List (Operand Pat)) (h : ℕ) (part : Part Pat) {a b c : Standing} → (infix_by others h part).height ≤ 257 → ReadsEach h with_operator others a b → ReadsPat PatPlace.Operand part b c
    → ReadsPat PatPlace.Whole (infix_by others h part) a c
infix_in [] h part fits p q = as_whole (none_before p q)
infix_in (first ∷ rest) h part fits p q =
    raised_to (max h part.height) (within_levels (max h part.height) fits)
    (node PatPlace.Whole (Pat-F.Infix ((first ∷ rest) ++ record { minus = None; part = part.tree; operator = None } ∷ [])) (Infix ((first ∷ rest) ++ record { minus = None; part = part.tree; operator = None } ∷ []))
    (out_infix ((first ∷ rest) ++ record { minus = None; part = part.tree; operator = None } ∷ []))
    (where_given _ (refl, two_operands first rest (record { minus = None; part = part.tree; operator = None }))
    (all_operands (first ∷ rest) part.tree (then p.reads (left_of_max h part.height) (last q (right_of_max h part.height))))))

pub infix_read : {operands : Operands Pat} {part : Part Pat} {a b : Standing} → (infix_of operands part).height ≤ 257 → ReadsOperands operands part a b → ReadsPat PatPlace.Whole (infix_of operands part) a b
infix_read {operands} {part} fits p = infix_in operands.list operands.height part fits p.others p.last

-- patterns in brackets
all_parts : {others : Parts Pat} {part : Part Pat} {a b : Standing} → ReadsPatterns others part a b
    → ReadsParts (max others.height part.height) IsComma (λ below n. below.pat n PatPlace.Whole) others.list part.tree a b
all_parts {others} {part} p = record { reads = then p.others.reads (left_of_max others.height part.height) (last p.last (right_of_max others.height part.height)) }

two_parts : (others : List (Listed Pat)) (first last : Listed Pat) → length (first ∷ others) ≤ 14 → AreParts (length ((first ∷ others) ++ last ∷ []))
two_parts others first last room = (omega (arith, length-append (first ∷ others) (last ∷ [])), omega (arith, length-append (first ∷ others) (last ∷ [])))

closed_in : (left : Item) (others : List (Listed Pat)) (h : ℕ) (part : Part Pat) (right : Item) {a b m c d : Standing} → (closed_by left others h part right).height ≤ 257 → length others ≤ 14 → Takes IsLeftParen left a b
    → ReadsEach h with_comma others b m → ReadsPat PatPlace.Whole part m c → Takes IsRightParen right c d → ReadsPat PatPlace.Atomic (closed_by left others h part right) a d
closed_in left [] h part right fits few p others q r =
    raised_to part.height (within_levels part.height fits)
    (node PatPlace.Atomic (Pat-F.Group left part.tree right) (Group left part.tree right) (out_group left part.tree right) (item p (then (none_before others q) (omega arith) (last_item r))))
closed_in left (first ∷ rest) h part right fits few p others q r =
    raised_to (max h part.height) (within_levels (max h part.height) fits)
    (node PatPlace.Atomic (Pat-F.Tuple left ((first ∷ rest) ++ record { part = part.tree; separator = None } ∷ []) right) (Tuple left ((first ∷ rest) ++ record { part = part.tree; separator = None } ∷ []) right)
    (out_tuple left ((first ∷ rest) ++ record { part = part.tree; separator = None } ∷ []) right)
    (where_given _ (two_parts rest first (record { part = part.tree; separator = None }) few)
    (item p (then (parts_close (all_parts {others = record { list = first ∷ rest; height = h }} {part = part} (record { middle = _; others = others; last = q }))) (omega arith) (last_item r)))))

pub closed_read : {left : Item} {separated : Separated} {right : Item} {a b c d : Standing} → (closed_of left separated right).height ≤ 257 → length separated.others.list ≤ 14
    → Takes IsLeftParen left a b → ReadsPatterns separated.others separated.last b c → Takes IsRightParen right c d → ReadsPat PatPlace.Atomic (closed_of left separated right) a d
closed_read {left} {separated} {right} fits few p q r =
    closed_in left separated.others.list separated.others.height separated.last right fits few p q.others q.last r

pub square_read : {left : Item} {separated : Separated} {right : Item} {a b c d : Standing} → (square_of left separated right).height ≤ 257
    → Takes IsLeftSquare left a b → ReadsPatterns separated.others separated.last b c → Takes IsRightSquare right c d → ReadsPat PatPlace.Atomic (square_of left separated right) a d
square_read {left} {separated} {right} fits p q r =
    raised_to (max separated.others.height separated.last.height) (within_levels (max separated.others.height separated.last.height) fits)
    (node PatPlace.Atomic (Pat-F.List left (separated.others.list ++ record { part = separated.last.tree; separator = None } ∷ []) right)
    (ListOf left (separated.others.list ++ record { part = separated.last.tree; separator = None } ∷ []) right)
    (out_list left (separated.others.list ++ record { part = separated.last.tree; separator = None } ∷ []) right)
    (where_given _ (not_empty_behind separated.others.list (record { part = separated.last.tree; separator = None }))
    (item p (then (parts_close (all_parts {others = separated.others} {part = separated.last} q)) (omega arith) (last_item r)))))

-- a pattern is a lexeme or more
pub pat_shrinks : {place : PatPlace} {part : Part Pat} {a b : Standing} → ReadsPat place part a b → length b.rest < length a.rest
pat_shrinks {place} {part} {a} {b} p = readings_shrink_lem.patterns part.height _ place part.tree a.rest b.rest (p.read part.height (omega arith))

-- heights that fit below a depth
pub height_of : {found part : Part Pat} (depth : ℕ) → found ≡ part → depth + found.height ≤ 257 → part.height ≤ 257
height_of {found} {part} depth e p = omega (arith, ap (λ t. t.height) e)

pub height_below : {found part : Part Pat} (depth : ℕ) → found ≡ part → depth + found.height ≤ 256 → part.height ≤ 257
height_below {found} {part} depth e p = omega (arith, ap (λ t. t.height) e)

atom_height : (head : Head) → (atom_of head).height ≡ head_height head
atom_height (Head.Named named) = refl
atom_height (Head.Atom part) = refl

head_level : (head : Head) {found : Part Pat} → found ≡ atom_of head → found.height ≡ head_height head
head_level head e = ap (λ t. t.height) e ∙ atom_height head

pub atom_fits : (head : Head) {found : Part Pat} (depth : ℕ) → found ≡ atom_of head → depth + head_height head ≤ 256 → found.height ≤ 256
atom_fits head depth e p = omega (arith, head_level head e)

pub atom_within : (head : Head) {found : Part Pat} (depth : ℕ) → found ≡ atom_of head → depth + head_height head ≤ 256 → depth + found.height ≤ 256
atom_within head depth e p = omega (arith, head_level head e)

pub node_fits : (head : Head) {found made_of : Part Pat} {tree : Pat} (depth : ℕ) → found ≡ atom_of head → depth + 1 + head_height head ≤ 256 → made_of ≡ record { tree = tree; height = deeper found.height }
    → depth + made_of.height ≤ 256
node_fits head depth e p f = omega (arith, head_level head e, ap (λ t. t.height) f)

pub argument_fits : (many : Many Pat) (head : Head) {more : Many Pat} {found : Part Pat} (depth before : ℕ) → many.height ≤ max before (256 - depth) → found ≡ atom_of head → depth + head_height head ≤ 256
    → more ≡ more_trees many found → more.height ≤ max before (256 - depth)
argument_fits many head depth before p e q f = omega (arith, head_level head e, ap (λ t. t.height) f)

-- arguments behind none
pub many_fits : (h depth : ℕ) {none : Many Pat} → none ≡ record { list = []; height = 0 } → h ≤ max none.height (256 - depth) → h ≤ 256
many_fits h depth e p = omega (arith, ap (λ t. t.height) e)

pub many_within : (h depth : ℕ) {none : Many Pat} → none ≡ record { list = []; height = 0 } → h ≤ max none.height (256 - depth) → h ≤ 256 - depth
many_within h depth e p = omega (arith, ap (λ t. t.height) e)

applied_level : (named : Constructor) (list : List Pat) (height depth : ℕ) → height ≤ 256 - deeper depth → (applied_by named list height).height ≤ max 1 (256 - depth)
applied_level named [] height depth p = omega arith
applied_level named (first ∷ rest) height depth p = omega arith

none_height : (h depth next : ℕ) {none : Many Pat} → none ≡ record { list = []; height = 0 } → next ≡ deeper depth → h ≤ max none.height (256 - next) → h ≤ 256 - deeper depth
none_height h depth next e f p = omega (arith, ap (λ t. t.height) e)

pub applied_fits : (named : Constructor) (many : Many Pat) {none : Many Pat} {found : Part Pat} (depth next : ℕ) → found ≡ applied_of named many → none ≡ record { list = []; height = 0 } → next ≡ deeper depth
    → many.height ≤ max none.height (256 - next) → found.height ≤ max 1 (256 - depth)
applied_fits named many depth next e f g p =
    subst (λ h. h ≤ max 1 (256 - depth)) (sym (ap (λ t. t.height) e)) (applied_level named many.list many.height depth (none_height many.height depth next f g p))

pub operand_fits : (named : Constructor) (many : Many Pat) {none : Many Pat} {found : Part Pat} (depth next : ℕ) → found ≡ applied_of named many → none ≡ record { list = []; height = 0 } → next ≡ deeper depth
    → many.height ≤ max none.height (256 - next) → depth + 1 ≤ 256 → depth + found.height ≤ 256
operand_fits named many depth next e f g p room = omega (arith, applied_fits named many depth next e f g p)

pub named_fits : {head : Head} {named : Constructor} (depth : ℕ) → head ≡ Head.Named named → depth + head_height head ≤ 256 → depth + 1 ≤ 256
named_fits depth e p = omega (arith, ap head_height e)

pub fits_below : (depth : ℕ) (result : Result (Part Pat) Stop) → IfOk result (λ part. depth + 1 + part.height ≤ 257) → IfOk result (λ part. depth + part.height ≤ 256)
fits_below depth (Ok part) p = omega (arith, p)
fits_below depth (Err stop) p = tt
