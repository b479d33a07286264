-- Each declaration without expressions is read where its parts are.
use Rattle.std.proofs.Common.{◌≡◌, ℕ, suc, ◌+◌, ◌≤◌, max, true, List, [], ◌∷◌, ◌++◌, Option, Some, None, Result, Ok, Err, IfOk, inl, refl, sym, ap, ◌∙◌, subst, arith}
use lib.Chars.{codes}
use Rattle.hr_base.specs.declared.lexeme.Class.{Class}
use Rattle.hr_base.specs.declared.lexeme.Ending.{Ending}
use Rattle.hr_base.specs.declared.lexeme.Item.{Item}
use Rattle.hr_rules.specs.declared.block.Placed.{Placed}
use Rattle.hr_layout.specs.Standing.{Standing}
use Rattle.hr_tree.specs.declared.lists.Listed.{Listed}
use Rattle.hr_tree.specs.declared.names.Variable.{Variable}
use Rattle.hr_tree.specs.declared.names.Constructor.{Constructor}
use Rattle.hr_tree.specs.declared.names.Operator.{Operator}
use Rattle.hr_tree.specs.declared.types.Ty.{Ty}
use Rattle.hr_tree.specs.declared.modules.Import.{Import}
use Rattle.hr_tree.specs.declared.declarations.TypeHead.{TypeHead}
use Rattle.hr_tree.specs.declared.declarations.Construction.{Construction}
use Rattle.hr_tree.specs.declared.expressions.Decl.{Decl, out-Decl}
use Rattle.hr_tree.specs.declared.expressions.Decl.TheVariants.{Import as Imports, Synonym, Data, Newtype, Signature, Fixity}
use Rattle.hr_tree.specs.declared.expressions.Decl.TheOpen.{Decl-F}
use Rattle.hr_tree.specs.declared.expressions.Decl.TheViews.{out-roll-Decl, rolls-Import, rolls-Synonym, rolls-Data, rolls-Newtype, rolls-Signature, rolls-Fixity}
use Rattle.hr_tree.specs.declared.expressions.Exp.{Exp}
use Rattle.hr_tree.specs.declared.expressions.Qualifier.{Qualifier}
use Rattle.hr_tree.specs.declared.expressions.Alt.{Alt}
use Rattle.hr_tree.specs.Names.{variable_items, constructor_items, operator_items}
use Rattle.hr_grammar.specs.Words.{IsOf, IsWord, IsEquals, IsDoubleColon, IsBar, IsLeftParen, IsRightParen}
use Rattle.hr_grammar.specs.Spelled.{IsVariable, IsOwnConstructor, IsOwnConstructorOperator, IsOwnOperator}
use Rattle.hr_grammar.specs.Nodes.{TyPlace, DeclPlace}
use Rattle.hr_grammar.specs.Declarations.{IsDigit, takes_local}
use Rattle.hr_grammar.specs.Spans.{top_ending}
use Rattle.hr_grammar_cases.specs.Readings.{Reading, ◌▷◌, given, one, spelled, maybe, in_turn, separated}
use Rattle.hr_grammar_cases.specs.Imports.{import_reading}
use Rattle.hr_grammar_cases.specs.Declarations.{decl_reading, type_head_reading, construction_reading, new_construction_reading}
use Rattle.hr_grammar_cases.specs.Modules.{derivations}
use Rattle.hr_parse_lexeme.specs.declared.nesting.Measured.{Measured}
use Rattle.hr_parse_lexeme.specs.Reads.{Consumes, Takes, Accepts, Spells, ReadsEach, ReadsParts}
use Rattle.hr_parse_lexeme.proofs.Phrases.{last, then, item, last_item, name, last_name, where_given, raised, each_none, each_more, parts_begin, parts_more, parts_close, stays, one_read}
use Rattle.hr_parse_lexeme.specs.declared.stop.Stop.{Stop}
use Rattle.hr_parse_type.specs.Heads.{ReadsTy, ReadsArguments}
use Rattle.hr_parse_type.specs.Nodes.{applied_of}
use Rattle.hr_parse_type.proofs.Types.{applied_read}
use Rattle.hr_parse_declaration.specs.declared.stated.Stated.{Stated}
use Rattle.hr_parse_declaration.specs.Lists.{ReadsPhrase, ReadsNames, IsFixityWord}
use Rattle.hr_parse_declaration.specs.Stated.{ReadsDecl, ReadsLocal, ReadsConstruction, ReadsNew, ReadsConstructions}
use Rattle.hr_parse_declaration.proofs.Listing.{none, single, between, accepted_read, has_part}

-- a node, on the level above its parts
node : {h : ℕ} {a b : Standing} (place : DeclPlace) (layer : Decl-F Decl Exp Qualifier Alt) (decl : Decl) (ending : Ending) → out-Decl decl ≡ layer
    → Consumes h (λ below n. decl_reading below n place layer ending) a b → Consumes (h + 1) (λ below n. below.decl n place decl ending) a b
node place layer decl ending e p =
    raised (λ below n. below.decl n place decl ending) (λ levels n ts us r. subst (λ l. decl_reading (derivations levels) n place l ending ts us) (sym e) r) p

out_import : (import : Import) → out-Decl (Imports import) ≡ Decl-F.Import import
out_import import = ap out-Decl (sym (rolls-Import import)) ∙ out-roll-Decl (Decl-F.Import import)

out_synonym : (word : Item) (head : TypeHead) (equals : Item) (ty : Ty) → out-Decl (Synonym word head equals ty) ≡ Decl-F.Synonym word head equals ty
out_synonym word head equals ty = ap out-Decl (sym (rolls-Synonym word head equals ty)) ∙ out-roll-Decl (Decl-F.Synonym word head equals ty)

out_data : (word : Item) (head : TypeHead) (equals : Item) (list : List (Listed Construction)) → out-Decl (Data word head equals list) ≡ Decl-F.Data word head equals list
out_data word head equals list = ap out-Decl (sym (rolls-Data word head equals list)) ∙ out-roll-Decl (Decl-F.Data word head equals list)

out_newtype : (word : Item) (head : TypeHead) (equals : Item) (part : Construction) → out-Decl (Newtype word head equals part) ≡ Decl-F.Newtype word head equals part
out_newtype word head equals part = ap out-Decl (sym (rolls-Newtype word head equals part)) ∙ out-roll-Decl (Decl-F.Newtype word head equals part)

out_signature : (names : List (Listed Variable)) (colons : Item) (ty : Ty) → out-Decl (Signature names colons ty) ≡ Decl-F.Signature names colons ty
out_signature names colons ty = ap out-Decl (sym (rolls-Signature names colons ty)) ∙ out-roll-Decl (Decl-F.Signature names colons ty)

out_fixity : (word : Item) (level : Option Item) (list : List (Listed Operator)) → out-Decl (Fixity word level list) ≡ Decl-F.Fixity word level list
out_fixity word level list = ap out-Decl (sym (rolls-Fixity word level list)) ∙ out-roll-Decl (Decl-F.Fixity word level list)

-- a declaration that equals one that is read
made : {place : DeclPlace} {found : Stated Decl} {decl : Decl} {height : ℕ} {ending : Ending} {a b : Standing} → found ≡ record { tree = decl; height = height; ending = ending }
    → Consumes height (λ below n. below.decl n place decl ending) a b → ReadsDecl place found a b
made {place} {a = a} {b} e p = subst (λ s. ReadsDecl place s a b) (sym e) p

pub import_read : {found : Stated Decl} {import : Import} {a b : Standing} → (0 ≤ 256 → found ≡ record { tree = Imports import; height = 0 + 1; ending = top_ending })
    → ReadsPhrase (λ n. import_reading n import) a b → ReadsDecl DeclPlace.First found a b
import_read {import = import} e p =
    made (e (none 256)) (node DeclPlace.First (Decl-F.Import import) (Imports import) top_ending (out_import import) (where_given _ (refl, refl) p))

pub synonym_read : {found : Stated Decl} {word equals : Item} {head : TypeHead} {ty : Measured Ty} {tree : Ty} {a b c d f : Standing}
    → (ty.height ≤ 256 → found ≡ record { tree = Synonym word head equals tree; height = ty.height + 1; ending = top_ending }) → ty.height ≤ 256 → tree ≡ ty.tree
    → Takes (IsWord (codes "type")) word a b → ReadsPhrase (λ n. type_head_reading n head) b c → Takes IsEquals equals c d → ReadsTy TyPlace.Whole ty d f
    → ReadsDecl DeclPlace.Top found a f
synonym_read {word = word} {equals} {head} {ty} e fits t p q r s =
    made (e fits ∙ ap (λ x. record { tree = Synonym word head equals x; height = ty.height + 1; ending = top_ending }) t)
    (node DeclPlace.Top (Decl-F.Synonym word head equals ty.tree) (Synonym word head equals ty.tree) top_ending (out_synonym word head equals ty.tree)
    (where_given _ (refl, refl) (item p (then q (none ty.height) (item r s)))))

pub data_read : {found : Stated Decl} {word equals : Item} {head : TypeHead} {list : Measured (List (Listed Construction))} {tree : List (Listed Construction)} {a b c d f : Standing}
    → (list.height ≤ 256 → found ≡ record { tree = Data word head equals tree; height = list.height + 1; ending = top_ending }) → list.height ≤ 256 → tree ≡ list.tree
    → Takes (IsWord (codes "data")) word a b → ReadsPhrase (λ n. type_head_reading n head) b c → Takes IsEquals equals c d → ReadsConstructions list d f
    → ReadsDecl DeclPlace.Top found a f
data_read {word = word} {equals} {head} {list} e fits t p q r s =
    made (e fits ∙ ap (λ x. record { tree = Data word head equals x; height = list.height + 1; ending = top_ending }) t)
    (node DeclPlace.Top (Decl-F.Data word head equals list.tree) (Data word head equals list.tree) top_ending (out_data word head equals list.tree)
    (where_given _ (refl, (refl, s.some)) (item p (then q (none list.height) (item r s.reads)))))

pub newtype_read : {found : Stated Decl} {word equals : Item} {head : TypeHead} {part : Measured Construction} {tree : Construction} {a b c d f : Standing}
    → (part.height ≤ 256 → found ≡ record { tree = Newtype word head equals tree; height = part.height + 1; ending = top_ending }) → part.height ≤ 256 → tree ≡ part.tree
    → Takes (IsWord (codes "newtype")) word a b → ReadsPhrase (λ n. type_head_reading n head) b c → Takes IsEquals equals c d → ReadsNew part d f
    → ReadsDecl DeclPlace.Top found a f
newtype_read {word = word} {equals} {head} {part} e fits t p q r s =
    made (e fits ∙ ap (λ x. record { tree = Newtype word head equals x; height = part.height + 1; ending = top_ending }) t)
    (node DeclPlace.Top (Decl-F.Newtype word head equals part.tree) (Newtype word head equals part.tree) top_ending (out_newtype word head equals part.tree)
    (where_given _ (refl, refl) (item p (then q (none part.height) (item r s)))))

pub signature_read : {found : Stated Decl} {names : List (Listed Variable)} {colons : Item} {ty : Measured Ty} {tree : Ty} {a b c d : Standing}
    → (ty.height ≤ 256 → found ≡ record { tree = Signature names colons tree; height = ty.height + 1; ending = Ending.Signature }) → ty.height ≤ 256 → tree ≡ ty.tree
    → ReadsNames IsVariable variable_items names a b → Takes IsDoubleColon colons b c → ReadsTy TyPlace.Whole ty c d → ReadsLocal found a d
signature_read {names = names} {colons} {ty} e fits t p q r = λ place local.
    made (e fits ∙ ap (λ x. record { tree = Signature names colons x; height = ty.height + 1; ending = Ending.Signature }) t)
    (node place (Decl-F.Signature names colons ty.tree) (Signature names colons ty.tree) Ending.Signature (out_signature names colons ty.tree)
    (where_given _ (refl, (local, p.some)) (then p.reads (none ty.height) (item q r))))

any_word : {word : Item} {a b : Standing} → Takes IsFixityWord word a b → Takes (IsOf Class.ReservedId) word a b
any_word p = record { is = p.is.0; taken = p.taken }

pub fixity_read : {found : Stated Decl} {word : Item} {level : Option Item} {list : List (Listed Operator)} {a b c d : Standing}
    → (0 ≤ 256 → found ≡ record { tree = Fixity word level list; height = 0 + 1; ending = Ending.Fixity })
    → Takes IsFixityWord word a b → Accepts IsDigit level b c → ReadsNames IsOwnOperator operator_items list c d → ReadsLocal found a d
fixity_read {word = word} {level} {list} e p q r = λ place local.
    made (e (none 256))
    (node place (Decl-F.Fixity word level list) (Fixity word level list) Ending.Fixity (out_fixity word level list)
    (where_given _ (refl, (local, (p.is.1, r.some))) (item (any_word p) (then (accepted_read IsDigit level q) (none 0) r.reads))))

-- what fits below a depth fits at all
pub fits_below : (depth height : ℕ) → depth + height ≤ 256 → height ≤ 256
fits_below depth height p = omega arith

-- a type's constructor and its variables
pub head_read : {type_name : Item} {variables : List Item} {a b c : Standing} → Takes (IsOf Class.ConId) type_name a b
    → ReadsEach 0 (λ below n. one n (IsOf Class.VarId)) variables b c → ReadsPhrase (λ n. type_head_reading n (record { name = type_name; variables = variables })) a c
head_read p q = item p q.reads

pub no_variables : {list : List Item} (a : Standing) → list ≡ [] → ReadsEach 0 (λ below n. one n (IsOf Class.VarId)) list a a
no_variables a e = subst (λ l. ReadsEach 0 (λ below n. one n (IsOf Class.VarId)) l a a) (sym e) (each_none _ a)

pub one_variable : {list more : List Item} {variable : Item} {a b c : Standing} → ReadsEach 0 (λ below n. one n (IsOf Class.VarId)) list a b
    → Takes (IsOf Class.VarId) variable b c → more ≡ list ++ variable ∷ [] → ReadsEach 0 (λ below n. one n (IsOf Class.VarId)) more a c
one_variable {a = a} {c = c} p q e = subst (λ l. ReadsEach 0 (λ below n. one n (IsOf Class.VarId)) l a c) (sym e) (each_more 0 p (none 0) (one_read q) (none 0))

pub variables_stay : {list : List Item} {a b c : Standing} → c ≡ b → ReadsEach 0 (λ below n. one n (IsOf Class.VarId)) list a b
    → ReadsEach 0 (λ below n. one n (IsOf Class.VarId)) list a c
variables_stay {list} {a} e p = subst (λ s. ReadsEach 0 (λ below n. one n (IsOf Class.VarId)) list a s) (sym e) p

-- a constructor with its types
prefix_read : {found : Measured Construction} {constructor named : Constructor} {types : Measured (List Ty)} {a b c : Standing}
    → found ≡ record { tree = Construction.Prefix constructor types.tree; height = types.height } → constructor ≡ named
    → Spells IsOwnConstructor constructor_items named a b → ReadsArguments types b c → ReadsConstruction found a c
prefix_read {types = types} {a} {c = c} e k p q =
    subst (λ part. ReadsConstruction part a c) (sym (e ∙ ap (λ x. record { tree = Construction.Prefix x types.tree; height = types.height }) k)) (name p q.reads)

pub named_read : {found : Measured Construction} {constructor : Constructor} {word : Item} {types : Measured (List Ty)} {a b c : Standing}
    → found ≡ record { tree = Construction.Prefix constructor types.tree; height = types.height } → constructor ≡ Constructor.Name word
    → Takes (IsOf Class.ConId) word a b → ReadsArguments types b c → ReadsConstruction found a c
named_read e k p q = prefix_read e k (record { is = p.is; taken = single p }) q

pub symbol_read : {found : Measured Construction} {constructor : Constructor} {left symbol right : Item} {types : Measured (List Ty)} {a b c d f : Standing}
    → found ≡ record { tree = Construction.Prefix constructor types.tree; height = types.height } → constructor ≡ Constructor.Symbol left symbol right
    → Takes IsLeftParen left a b → Takes (IsOf Class.ConSym) symbol b c → Takes IsRightParen right c d → ReadsArguments types d f → ReadsConstruction found a f
symbol_read e k p q r s = prefix_read e k (record { is = (p.is, (q.is, r.is)); taken = between p q r }) s

-- a constructor with its types as the first type of an operator
pub first_read : {first : Measured Ty} {constructor : Constructor} {word : Item} {types : Measured (List Ty)} {a b c : Standing}
    → first ≡ applied_of constructor types.tree types.height → constructor ≡ Constructor.Name word
    → Takes (IsOf Class.ConId) word a b → ReadsArguments types b c → ReadsTy TyPlace.Applied first a c
first_read {types = types} {a} {c = c} e k p q =
    subst (λ ty. ReadsTy TyPlace.Applied ty a c) (sym (e ∙ ap (λ x. applied_of x types.tree types.height) k)) (applied_read (record { is = inl p.is; taken = single p }) q)

applied_within : (constructor : Constructor) (types : List Ty) (depth height : ℕ) → depth + 1 + height ≤ 256 → depth + (applied_of constructor types height).height ≤ 256
applied_within constructor [] depth height p = omega arith
applied_within constructor (first ∷ rest) depth height p = omega arith

pub first_fits : {first : Measured Ty} (constructor : Constructor) (types : Measured (List Ty)) (depth : ℕ) → first ≡ applied_of constructor types.tree types.height
    → depth + 1 + types.height ≤ 256 → depth + first.height ≤ 256
first_fits constructor types depth e p = subst (λ ty. depth + ty.height ≤ 256) (sym e) (applied_within constructor types.tree depth types.height p)

-- what is read behind something, with it
pub behind : (found : Result (Measured Construction) Stop) (P Q : Standing → Type 0) (c : Standing) → IfOk found (λ part. (before : Standing) → P before → ReadsConstruction part before c)
    → ((before : Standing) → Q before → P before) → IfOk found (λ part. (before : Standing) → Q before → ReadsConstruction part before c)
behind (Ok part) P Q c h turn = λ before q. h before (turn before q)
behind (Err stop) P Q c h turn = tt

pub behind_at : (found : Result (Measured Construction) Stop) (P : Standing → Type 0) (a c : Standing) → IfOk found (λ part. (before : Standing) → P before → ReadsConstruction part before c)
    → P a → IfOk found (λ part. ReadsConstruction part a c)
behind_at (Ok part) P a c h p = h a p
behind_at (Err stop) P a c h p = tt

-- an operator between two types
left_of_max : (a b : ℕ) → a ≤ max a b
left_of_max a b = omega arith

right_of_max : (a b : ℕ) → b ≤ max a b
right_of_max a b = omega arith

pub infix_read : {found : Measured Construction} {first second : Measured Ty} {operator o : Operator} {height : ℕ} {a b c d : Standing}
    → found ≡ record { tree = Construction.Infix first.tree o second.tree; height = height } → height ≡ max first.height second.height → o ≡ operator
    → ReadsTy TyPlace.Applied first a b → Spells IsOwnConstructorOperator operator_items operator b c → ReadsTy TyPlace.Applied second c d → ReadsConstruction found a d
infix_read {found} {first} {second} {operator} {o} {height} {a} {b} {c} {d} e f k p q r =
    subst (λ part. ReadsConstruction part a d)
    (sym (e ∙ ap (λ t. record { tree = Construction.Infix first.tree t second.tree; height = height }) k
    ∙ ap (λ h. record { tree = Construction.Infix first.tree operator second.tree; height = h }) f))
    (then p (left_of_max first.height second.height) (name q (last r (right_of_max first.height second.height))))

-- of a `newtype`, with its one type
pub new_read : {found : Measured Construction} {constructor named : Constructor} {ty : Measured Ty} {types : Measured (List Ty)} {a b c : Standing}
    → found ≡ record { tree = Construction.Prefix constructor types.tree; height = types.height } → constructor ≡ named → types ≡ record { tree = ty.tree ∷ []; height = ty.height }
    → Spells IsOwnConstructor constructor_items named a b → ReadsTy TyPlace.Atomic ty b c → ReadsNew found a c
new_read {found} {constructor} {named} {ty} {types} {a} {b} {c} e k t p q =
    subst (λ part. ReadsNew part a c)
    (sym (e ∙ ap (λ x. record { tree = Construction.Prefix x types.tree; height = types.height }) k ∙ ap (λ l. record { tree = Construction.Prefix named l.tree; height = l.height }) t))
    (name p (each_more ty.height (each_none (λ below n. below.ty n TyPlace.Atomic) b) (none ty.height) q (omega arith)).reads)

-- arguments that equal those that are read
pub made_arguments : {found list : List Ty} {height : ℕ} {a b : Standing} → found ≡ list → ReadsEach height (λ below n. below.ty n TyPlace.Atomic) list a b
    → ReadsEach height (λ below n. below.ty n TyPlace.Atomic) found a b
made_arguments {height = height} {a} {b} e p = subst (λ l. ReadsEach height (λ below n. below.ty n TyPlace.Atomic) l a b) (sym e) p

-- constructors with bars
pub first_construction : {list : List (Listed Construction)} {part : Measured Construction} {last : Construction} {a b : Standing} → list ≡ [] → last ≡ part.tree → ReadsConstruction part a b
    → ReadsParts part.height IsBar construction_reading list last a b
first_construction {list} {part} {last} {a} {b} e t p =
    subst (λ l. ReadsParts part.height IsBar construction_reading l last a b) (sym e)
    (subst (λ y. ReadsParts part.height IsBar construction_reading [] y a b) (sym t) (parts_begin IsBar construction_reading part.tree p))

pub next_construction : {h m : ℕ} {list more : List (Listed Construction)} {last part : Construction} {next : Measured Construction} {bar : Item} {a b c d : Standing}
    → ReadsParts h IsBar construction_reading list last a b → Takes IsBar bar b c → ReadsConstruction next c d → part ≡ last
    → more ≡ list ++ record { part = part; separator = Some bar } ∷ [] → m ≡ max next.height h → ReadsParts m IsBar construction_reading more next.tree a d
next_construction {h} {m} {list} {last = last} {next = next} {bar} {a} {d = d} p q r t e f =
    subst (λ l. ReadsParts m IsBar construction_reading l next.tree a d) (sym (e ∙ ap (λ x. list ++ record { part = x; separator = Some bar } ∷ []) t))
    (subst (λ k. ReadsParts k IsBar construction_reading (list ++ record { part = last; separator = Some bar } ∷ []) next.tree a d) (sym f)
    (parts_more next.tree (max next.height h) p (right_of_max next.height h) q r (left_of_max next.height h)))

pub last_construction : {h : ℕ} {list all : List (Listed Construction)} {last part : Construction} {tree : List (Listed Construction)} {a b c : Standing}
    → ReadsParts h IsBar construction_reading list last a b → c ≡ b → part ≡ last → all ≡ list ++ record { part = part; separator = None } ∷ []
    → tree ≡ all → ReadsConstructions (record { tree = tree; height = h }) a c
last_construction {h} {list} {all} {last} {part} {tree} {a} {b} {c} p s t e f =
    subst (λ l. ReadsConstructions (record { tree = l; height = h }) a c) (sym f)
    (record {
      reads = stays s (subst (λ l. Consumes h (λ below n. separated (one n IsBar) (construction_reading below n) l) a b) (sym (e ∙ ap (λ x. list ++ record { part = x; separator = None } ∷ []) t)) (parts_close p));
      some = has_part list (record { part = part; separator = None }) e;
    })
