-- What has been read so far: one piece or operand more, and the end.
use Rattle.std.proofs.Common.{ℕ, Bool, true, false, List, [], ◌∷◌, ◌++◌, refl, subst}
use Rattle.hr_base.specs.declared.lexeme.Ending.{Ending}
use Rattle.hr_base.specs.declared.lexeme.Item.{Item}
use Rattle.hr_rules.specs.declared.block.Placed.{Placed}
use Rattle.hr_tree.specs.declared.lists.Operand.{Operand}
use Rattle.hr_tree.specs.declared.lists.Piece.{Piece}
use Rattle.hr_tree.specs.declared.patterns.Pat.{Pat}
use Rattle.hr_tree.specs.declared.expressions.Exp.{Exp}
use Rattle.hr_grammar.specs.Words.{IsSemicolon}
use Rattle.hr_grammar.specs.Nodes.{Colons, ExpPlace, DeclPlace}
use Rattle.hr_grammar_cases.specs.Readings.{one, in_turn}
use Rattle.hr_grammar_cases.specs.Derivations.{Derivations}
use Rattle.hr_grammar_cases.specs.Patterns.{pat_operands}
use Rattle.hr_grammar_cases.specs.Expressions.{exp_operands}
use Rattle.hr_grammar_cases.specs.Blocks.{Parts, takes_semicolon, ends_here, starts}
use Rattle.hr_grammar_cases.specs.Modules.{decl_parts, alt_parts, derivations}
use Rattle.hr_grammar_cases.specs.Fronts.{pieces_front, braced_front, FrontCloses, BracedFrontCloses, exp_operand_front, pat_operand_front, OperandsClose, FrontsClose}

pub front_closes : {T : Type 0} (parts : Parts T) → FrontCloses parts
front_closes parts kind n place ending [] reached last ts vs us r e =
    let end : ends_here kind n last ts us = subst (λ l. ends_here kind n last l us) r.1 e in subst (λ k. ends_here kind n k ts us) r.0.1 end
front_closes parts kind n place ending (Piece.Semicolon item ∷ pieces) reached last ts vs us r e =
    (r.0, r.1, front_closes parts kind n place Ending.Nothing pieces reached last r.0 vs us r.2 e)
front_closes parts kind n place ending (Piece.Part part ∷ pieces) reached last ts vs us r e =
    (r.0, r.1, (r.2.0, r.2.1, (r.2.2.0, r.2.2.1, front_closes parts kind n r.2.0 r.2.1 pieces reached last r.2.2.0 vs us r.2.2.2 e)))

pub braced_front_closes : {T : Type 0} (parts : Parts T) → BracedFrontCloses parts
braced_front_closes parts place begins [] reached free ts us r = r.1
braced_front_closes parts place begins (Piece.Semicolon item ∷ pieces) reached free ts us r = (r.0, r.1, braced_front_closes parts place true pieces reached free r.0 us r.2)
braced_front_closes parts place begins (Piece.Part part ∷ pieces) reached free ts us r =
    (r.0, (r.1.0, r.1.1, (r.1.2.0, r.1.2.1, braced_front_closes parts r.1.0 false pieces reached free r.1.2.0 us r.1.2.2)))

-- some pieces, and then others
pub front_more : {T : Type 0} (parts : Parts T) (n : ℕ) (place : DeclPlace) (ending : Ending) (pieces others : List (Piece T)) (reached further : DeclPlace) (last final : Ending) (ts vs us : List Placed)
    → pieces_front parts n place ending pieces reached last ts vs → pieces_front parts n reached last others further final vs us → pieces_front parts n place ending (pieces ++ others) further final ts us
front_more parts n place ending [] others reached further last final ts vs us r s =
    let here = subst (λ l. pieces_front parts n reached last others further final l us) r.1 s in
    let there = subst (λ p. pieces_front parts n p last others further final ts us) r.0.0 here in
    subst (λ k. pieces_front parts n place k others further final ts us) r.0.1 there
front_more parts n place ending (Piece.Semicolon item ∷ pieces) others reached further last final ts vs us r s =
    (r.0, r.1, front_more parts n place Ending.Nothing pieces others reached further last final r.0 vs us r.2 s)
front_more parts n place ending (Piece.Part part ∷ pieces) others reached further last final ts vs us r s =
    (r.0, r.1, (r.2.0, r.2.1, (r.2.2.0, r.2.2.1, front_more parts n r.2.0 r.2.1 pieces others reached further last final r.2.2.0 vs us r.2.2.2 s)))

pub braced_front_more : {T : Type 0} (parts : Parts T) (place : DeclPlace) (begins : Bool) (pieces others : List (Piece T)) (reached further : DeclPlace) (free open_again : Bool) (ts vs us : List Placed)
    → braced_front parts place begins pieces reached free ts vs → braced_front parts reached free others further open_again vs us → braced_front parts place begins (pieces ++ others) further open_again ts us
braced_front_more parts place begins [] others reached further free open_again ts vs us r s =
    let here = subst (λ l. braced_front parts reached free others further open_again l us) r.1 s in
    let there = subst (λ p. braced_front parts p free others further open_again ts us) r.0.0 here in
    subst (λ b. braced_front parts place b others further open_again ts us) r.0.1 there
braced_front_more parts place begins (Piece.Semicolon item ∷ pieces) others reached further free open_again ts vs us r s =
    (r.0, r.1, braced_front_more parts place true pieces others reached further free open_again r.0 vs us r.2 s)
braced_front_more parts place begins (Piece.Part part ∷ pieces) others reached further free open_again ts vs us r s =
    (r.0, (r.1.0, r.1.1, (r.1.2.0, r.1.2.1, braced_front_more parts r.1.0 false pieces others reached further free open_again r.1.2.0 vs us r.1.2.2 s)))

-- one piece more: a `;`, and a part
pub semicolon_front : {T : Type 0} (parts : Parts T) (n : ℕ) (place : DeclPlace) (ending : Ending) (item : Item) (ts us : List Placed) → IsSemicolon item → takes_semicolon n item ts us
    → pieces_front parts n place ending (Piece.Semicolon item ∷ []) place Ending.Nothing ts us
semicolon_front parts n place ending item ts us is taken = (us, (is, taken), ((refl, refl), refl))

pub part_front : {T : Type 0} (parts : Parts T) (n : ℕ) (place next : DeclPlace) (ending end : Ending) (part : T) (ts vs us : List Placed) → starts n ending ts vs → parts n place next part end vs us
    → pieces_front parts n place ending (Piece.Part part ∷ []) next end ts us
part_front parts n place next ending end part ts vs us begun read = (vs, begun, (next, end, (us, read, ((refl, refl), refl))))

pub braced_semicolon_front : {T : Type 0} (parts : Parts T) (place : DeclPlace) (begins : Bool) (item : Item) (ts us : List Placed) → one 0 IsSemicolon item ts us
    → braced_front parts place begins (Piece.Semicolon item ∷ []) place true ts us
braced_semicolon_front parts place begins item ts us taken = (us, taken, ((refl, refl), refl))

pub braced_part_front : {T : Type 0} (parts : Parts T) (place next : DeclPlace) (end : Ending) (part : T) (ts us : List Placed) → parts 0 place next part end ts us
    → braced_front parts place true (Piece.Part part ∷ []) next false ts us
braced_part_front parts place next end part ts us read = (refl, (next, end, (us, read, ((refl, refl), refl))))

-- ---- operands
pub exp_operand_before : (below : Derivations) (n : ℕ) (free : Colons) (last : ExpPlace) (operand : Operand Exp) (others : List (Operand Exp)) (ending : Ending) (ts vs us : List Placed)
    → exp_operand_front below n free operand ts vs → exp_operands below n free last others ending vs us → exp_operands below n free last (operand ∷ others) ending ts us
exp_operand_before below n free last operand [] ending ts vs us r q = elim q [ ]
exp_operand_before below n free last operand (next ∷ rest) ending ts vs us r q = (r.0, r.1, (r.2.0, r.2.1, (vs, r.2.2, q)))

exp_operands_close : (below : Derivations) (n : ℕ) (free : Colons) (last : ExpPlace) (fronts : List (Operand Exp)) (operand : Operand Exp) (ending : Ending) (ts vs us : List Placed)
    → in_turn (exp_operand_front below n free) fronts ts vs → exp_operands below n free last (operand ∷ []) ending vs us → exp_operands below n free last (fronts ++ operand ∷ []) ending ts us
exp_operands_close below n free last [] operand ending ts vs us r q = subst (λ l. exp_operands below n free last (operand ∷ []) ending l us) r q
exp_operands_close below n free last (front ∷ fronts) operand ending ts vs us r q =
    exp_operand_before below n free last front (fronts ++ operand ∷ []) ending ts r.0 us r.1 (exp_operands_close below n free last fronts operand ending r.0 vs us r.2 q)

pub pat_operand_before : (below : Derivations) (n : ℕ) (operand : Operand Pat) (others : List (Operand Pat)) (ts vs us : List Placed)
    → pat_operand_front below n operand ts vs → pat_operands below n others vs us → pat_operands below n (operand ∷ others) ts us
pat_operand_before below n operand [] ts vs us r q = elim q [ ]
pat_operand_before below n operand (next ∷ rest) ts vs us r q = (r.0, (r.1.0, r.1.1, (vs, r.1.2, q)))

pat_operands_close : (below : Derivations) (n : ℕ) (fronts : List (Operand Pat)) (operand : Operand Pat) (ts vs us : List Placed)
    → in_turn (pat_operand_front below n) fronts ts vs → pat_operands below n (operand ∷ []) vs us → pat_operands below n (fronts ++ operand ∷ []) ts us
pat_operands_close below n [] operand ts vs us r q = subst (λ l. pat_operands below n (operand ∷ []) l us) r q
pat_operands_close below n (front ∷ fronts) operand ts vs us r q =
    pat_operand_before below n front (fronts ++ operand ∷ []) ts r.0 us r.1 (pat_operands_close below n fronts operand r.0 vs us r.2 q)

pub operands_close : (below : Derivations) → OperandsClose below
operands_close below = record { expressions = exp_operands_close below; patterns = pat_operands_close below }

pub fronts_close_lem : FrontsClose
fronts_close_lem = record {
  operands = λ levels. operands_close (derivations levels);
  declarations = λ levels. (front_closes (decl_parts (derivations levels)), braced_front_closes (decl_parts (derivations levels)));
  alternatives = λ levels. (front_closes (alt_parts (derivations levels)), braced_front_closes (alt_parts (derivations levels)));
}
