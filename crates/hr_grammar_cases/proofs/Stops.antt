-- Where the pieces of a block go on or end behind a part, nothing can go on in the part.
use Rattle.std.proofs.Common.{◌≡◌, ◌≢◌, ℕ, not, ◌||◌, ◌&&◌, Bool, true, false, List, [], ◌∷◌, refl, ap, ap₂, ◌∙◌}
use Rattle.hr_base.specs.declared.lexeme.Ending.{Ending}
use Rattle.hr_base.specs.declared.lexeme.Item.{Item}
use Rattle.hr_rules.specs.declared.role.Role.{Role}
use Rattle.hr_rules.specs.declared.block.BlockKind.{BlockKind}
use Rattle.hr_rules.specs.declared.block.Placed.{Placed}
use Rattle.hr_rules.specs.CanFollow.{follows}
use Rattle.hr_rules.specs.Roles.{role_by, role_of}
use Rattle.hr_rules.specs.Blocks.{role, left_of, at_margin, goes_on, starts_part}
use Rattle.hr_rules.specs.BlockLaws.{nothing_goes_on}
use Rattle.hr_rules.proofs.Margins.{margins}
use Rattle.hr_rules.proofs.BlockEnds.{nothing-goes-on-behind-ends}
use Rattle.hr_tree.specs.declared.lists.Piece.{Piece}
use Rattle.hr_grammar.specs.Words.{IsSemicolon}
use Rattle.hr_grammar.specs.Nodes.{DeclPlace}
use Rattle.hr_grammar_cases.specs.Blocks.{Parts, takes_semicolon, pieces_reading}
use Rattle.hr_grammar_cases.specs.Modules.{decl_parts, alt_parts, derivations}
use Rattle.hr_grammar_cases.specs.Laws.{PiecesStop}

semicolon_role : (item : Item) → IsSemicolon item → role_of item.lexeme ≡ Role.Semicolon
unfolding role_of
semicolon_role item is = ap₂ role_by is.0 is.1

-- by the table no `;` goes on in a part
semicolon_goes : (ending : Ending) → ending ≢ Ending.Nothing → follows ending Role.Semicolon ≡ false
semicolon_goes Ending.Nothing is = absurd (is refl)
semicolon_goes (Ending.Applied where_free guarded) is = refl
semicolon_goes (Ending.Closed where_free guarded) is = refl
semicolon_goes (Ending.Annotated where_free guarded) is = refl
semicolon_goes Ending.Signature is = refl
semicolon_goes Ending.WhereBlock is = refl
semicolon_goes Ending.Fixity is = refl

-- behind a part another one starts at the column alone
pub starts_at : (n : ℕ) (ending : Ending) (next : Placed) (rest : List Placed) → ending ≢ Ending.Nothing → starts_part n ending (next ∷ rest) ≡ true → at_margin n next ≡ true
starts_at n Ending.Nothing next rest is s = absurd (is refl)
starts_at n (Ending.Applied where_free guarded) next rest is s = s
starts_at n (Ending.Closed where_free guarded) next rest is s = s
starts_at n (Ending.Annotated where_free guarded) next rest is s = s
starts_at n Ending.Signature next rest is s = s
starts_at n Ending.WhereBlock next rest is s = s
starts_at n Ending.Fixity next rest is s = s

no_follower : (goes follow : Bool) → follow ≡ false → not (goes && follow) ≡ true
no_follower true follow e = ap not e
no_follower false follow e = refl

at_column : (left at goes follow : Bool) → goes ≡ not (left || at) → at ≡ true → not (goes && follow) ≡ true
at_column true at goes follow g e = ap (λ t. not (t && follow)) g
at_column false at goes follow g e = ap (λ t. not (t && follow)) (g ∙ ap not e)

semicolon_stops : (n : ℕ) (ending : Ending) (item : Item) (ts us : List Placed) → IsSemicolon item → takes_semicolon n item ts us → ending ≢ Ending.Nothing → nothing_goes_on n ending ts ≡ true
semicolon_stops n ending item [] us is t other = elim t [ ]
semicolon_stops n ending item (next ∷ ts) us is t other =
    no_follower (goes_on n next) (follows ending (role next)) (ap (λ r. follows ending r) (ap (λ (i : Item). role_of i.lexeme) t.1 ∙ semicolon_role item is) ∙ semicolon_goes ending other)

start_stops : (n : ℕ) (ending : Ending) (ts : List Placed) → starts_part n ending ts ≡ true → ending ≢ Ending.Nothing → nothing_goes_on n ending ts ≡ true
start_stops n ending [] s other = refl
start_stops n ending (next ∷ ts) s other =
    at_column (left_of n next) (at_margin n next) (goes_on n next) (follows ending (role next)) (margins n next).goes (starts_at n ending next ts other s)

any_stop : {T : Type 0} (parts : Parts T) (kind : BlockKind) (n : ℕ) (place : DeclPlace) (ending : Ending) (pieces : List (Piece T)) (ts us : List Placed)
    → pieces_reading parts kind n place ending pieces ts us → ending ≢ Ending.Nothing → nothing_goes_on n ending ts ≡ true
any_stop parts kind n place ending [] ts us r other = nothing-goes-on-behind-ends n kind ending ts r.0
any_stop parts kind n place ending (Piece.Semicolon item ∷ pieces) ts us r other = semicolon_stops n ending item ts r.0 r.1.0 r.1.1 other
any_stop parts kind n place ending (Piece.Part part ∷ pieces) ts us r other = start_stops n ending ts r.1.0 other

pub pieces_stop_lem : PiecesStop
pieces_stop_lem = record {
  declarations = λ levels n kind place ending pieces ts us r other. any_stop (decl_parts (derivations levels)) kind n place ending pieces ts us r other;
  alternatives = λ levels n kind place ending pieces ts us r other. any_stop (alt_parts (derivations levels)) kind n place ending pieces ts us r other;
}
