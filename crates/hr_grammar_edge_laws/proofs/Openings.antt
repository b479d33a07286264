-- Stretches of lexemes, one behind another, in lists and in blocks: they have as many lexemes as there are items,
-- and their blocks begin behind the opening words, if those of their parts do.
use Rattle.std.proofs.Common.{◌≡◌, ℕ, suc, ◌+◌, Bool, true, false, if◌then◌else◌, List, [], ◌∷◌, ◌++◌, length, map, refl, sym, ap, ap₂, ◌∙◌, subst, arith}
use Rattle.std.specs.List.{AllByRecursion, flat_map}
use Rattle.std.proofs.lemmas.List.{append-nil, length-append, map-append}
use lib.Chars.{codes}
use Rattle.hr_base.specs.declared.lexeme.Ending.{Ending}
use Rattle.hr_base.specs.declared.lexeme.Item.{Item}
use Rattle.hr_rules.specs.declared.block.BlockKind.{BlockKind}
use Rattle.hr_tree.specs.declared.lists.Listed.{Listed}
use Rattle.hr_tree.specs.declared.lists.Block.{Block}
use Rattle.hr_tree.specs.declared.lists.Layout.{Layout}
use Rattle.hr_tree.specs.declared.lists.Piece.{Piece}
use Rattle.hr_tree.specs.Names.{maybe_item}
use Rattle.hr_tree.specs.Lists.{listed_items, piece_items, block_items, opening_items, closing_items}
use Rattle.hr_grammar.specs.Separated.{AreSeparated}
use Rattle.hr_grammar.specs.Blocks.{IsPiece, AreBraced}
use Rattle.hr_grammar.specs.Spans.{Laid, BlockSpan, blockless, one, row, ending_as, ◌▷◌, listed_laid, piece_laid, column_inside, block_laid}
use Rattle.hr_grammar.proofs.walk.Lists.{absent, there}
use Rattle.hr_grammar_edge_laws.specs.Openings.{is_opening, behind_openings, IsNoOpening, AreNoOpenings, block_starts, IsLaidBy}
use Rattle.hr_grammar_edge_laws.proofs.Plain.{special, plain_patterns}

-- the numbers behind the opening words, by the first item
pub numbers_plain : (n : ℕ) (item : Item) (items : List Item) → IsNoOpening item → behind_openings n (item ∷ items) ≡ behind_openings (suc n) items
numbers_plain n item items p = ap (λ b. if b then suc n ∷ behind_openings (suc n) items else behind_openings (suc n) items) p

pub numbers_opening : (n : ℕ) (item : Item) (items : List Item) → is_opening item ≡ true → behind_openings n (item ∷ items) ≡ suc n ∷ behind_openings (suc n) items
numbers_opening n item items p = ap (λ b. if b then suc n ∷ behind_openings (suc n) items else behind_openings (suc n) items) p

pub no_numbers : (n : ℕ) (items : List Item) → AreNoOpenings items → behind_openings n items ≡ []
no_numbers n [] p = refl
no_numbers n (item ∷ items) p = numbers_plain n item items p.0 ∙ no_numbers (suc n) items p.1

pub numbers_append : (n : ℕ) (xs ys : List Item) → behind_openings n (xs ++ ys) ≡ behind_openings n xs ++ behind_openings (n + length xs) ys
numbers_append n [] ys = let e : n ≡ n + 0 = omega arith in ap (λ k. behind_openings k ys) e
numbers_append n (x ∷ xs) ys =
    let e : suc n + length xs ≡ n + suc (length xs) = omega arith in
    by (numbers_append (suc n) xs ys ∙ ap (λ k. behind_openings (suc n) xs ++ behind_openings k ys) e) (is_opening x) refl
  where
    by : behind_openings (suc n) (xs ++ ys) ≡ behind_openings (suc n) xs ++ behind_openings (n + suc (length xs)) ys
        → (b : Bool) → is_opening x ≡ b → behind_openings n (x ∷ (xs ++ ys)) ≡ behind_openings n (x ∷ xs) ++ behind_openings (n + suc (length xs)) ys
    by rest true e = numbers_opening n x (xs ++ ys) e ∙ ap (λ l. suc n ∷ l) rest ∙ ap (λ l. l ++ behind_openings (n + suc (length xs)) ys) (sym (numbers_opening n x xs e))
    by rest false e = numbers_plain n x (xs ++ ys) e ∙ rest ∙ ap (λ l. l ++ behind_openings (n + suc (length xs)) ys) (sym (numbers_plain n x xs e))

-- the same for equal lists and stretches
pub same : {items others : List Item} {laid other : Laid} → items ≡ others → laid ≡ other → IsLaidBy others other → IsLaidBy items laid
same {items} {others} {laid} {other} e f is = subst (λ l. IsLaidBy items l) (sym f) (subst (λ i. IsLaidBy i other) (sym e) is)

-- items without an opening word
pub plain : (items : List Item) → AreNoOpenings items → IsLaidBy items (blockless items)
plain items p = record { extent = refl; starts = λ m n. sym (no_numbers n items p) }

pub join : {xs ys : List Item} {first second : Laid} → IsLaidBy xs first → IsLaidBy ys second → IsLaidBy (xs ++ ys) (first ▷ second)
join {xs} {ys} {first} {second} f s = record {
  extent = ap₂ (λ a b. a + b) f.extent s.extent ∙ sym (length-append xs ys);
  starts = λ m n. map-append (λ (span : BlockSpan). span.start) (first.blocks m n) (second.blocks m (n + first.extent))
      ∙ ap₂ (λ a b. a ++ b) (f.starts m n) (s.starts m (n + first.extent)) ∙ ap (λ k. behind_openings n xs ++ behind_openings (n + k) ys) f.extent ∙ sym (numbers_append n xs ys);
}

pub ends_as : {items : List Item} {laid : Laid} (ending : Ending) → IsLaidBy items laid → IsLaidBy items (ending_as ending laid)
ends_as ending is = record { extent = is.extent; starts = is.starts }

-- a stretch that begins with a block: that one begins where the stretch does
pub record IsBlockBy (items : List Item) (laid : Laid) : Type 0 where
  pub extent : laid.extent ≡ length items
  pub starts : (m n : ℕ) → block_starts (laid.blocks m n) ≡ n ∷ behind_openings n items

pub join_block : {xs ys : List Item} {first second : Laid} → IsBlockBy xs first → IsLaidBy ys second → IsBlockBy (xs ++ ys) (first ▷ second)
join_block {xs} {ys} {first} {second} f s = record {
  extent = ap₂ (λ a b. a + b) f.extent s.extent ∙ sym (length-append xs ys);
  starts = λ m n. map-append (λ (span : BlockSpan). span.start) (first.blocks m n) (second.blocks m (n + first.extent))
      ∙ ap₂ (λ a b. a ++ b) (f.starts m n) (s.starts m (n + first.extent)) ∙ ap (λ k. n ∷ (behind_openings n xs ++ behind_openings (n + k) ys)) f.extent ∙ ap (λ l. n ∷ l) (sym (numbers_append n xs ys));
}

-- behind its opening word
pub opened : {items : List Item} {laid : Laid} (word : Item) → is_opening word ≡ true → IsBlockBy items laid → IsLaidBy (word ∷ items) (one word ▷ laid)
opened {items} {laid} word o is = record {
  extent = let e : laid.extent ≡ length items = is.extent in let whole : 1 + laid.extent ≡ suc (length items) = omega (arith, e) in whole;
  starts = λ m n. is.starts m (n + 1) ∙ (let e : n + 1 ≡ suc n = omega arith in ap (λ k. k ∷ behind_openings k items) e) ∙ sym (numbers_opening n word items o);
}

block_by : (kind : BlockKind) (layout : Layout) (pieces : List (Piece Laid)) (inner : List Item) → AreNoOpenings (opening_items layout) → AreNoOpenings (closing_items layout)
    → IsLaidBy inner (row (map piece_laid pieces)) → IsBlockBy (opening_items layout ++ (inner ++ closing_items layout)) (block_laid kind (record { layout = layout; pieces = pieces }))
block_by kind layout pieces inner p q is =
    let whole = join (plain (opening_items layout) p) (join is (plain (closing_items layout) q)) in
    record {
      extent = whole.extent;
      starts = λ m n. ap (λ l. n ∷ l) (ap block_starts (sym (append-nil ((row (map piece_laid pieces)).blocks (column_inside layout) (n + length (opening_items layout))))) ∙ whole.starts (column_inside layout) n);
    }

-- lists of parts
pub all_by : {T : Type 0} (Is : T → Type 0) (of : T → List Item) (laid : T → Laid) → ((part : T) → Is part → IsLaidBy (of part) (laid part))
    → (parts : List T) → AllByRecursion Is parts → IsLaidBy (flat_map of parts) (row (map laid parts))
all_by Is of laid each [] is = plain [] tt
all_by Is of laid each (part ∷ parts) is = join (each part is.0) (all_by Is of laid each parts is.1)

pub separated_by : {T : Type 0} (Separates : Item → Type 0) → ((item : Item) → Separates item → IsNoOpening item) → (Is : T → Type 0) (of : T → List Item) (laid : T → Laid) → ((part : T) → Is part → IsLaidBy (of part) (laid part))
    → (parts : List (Listed T)) → AreSeparated Separates Is parts → IsLaidBy (flat_map (listed_items of) parts) (row (map listed_laid (map (λ (l : Listed T). record { part = laid l.part; separator = l.separator }) parts)))
separated_by Separates apart Is of laid each [] is = plain [] tt
separated_by Separates apart Is of laid each (listed ∷ []) is = join (join (each listed.part is.0) (plain (maybe_item listed.separator) (absent plain_patterns.joins listed.separator is.1))) (plain [] tt)
separated_by Separates apart Is of laid each (listed ∷ (next ∷ rest)) is =
    join (join (each listed.part is.0) (plain (maybe_item listed.separator) (there plain_patterns.joins Separates (λ item s. (apart item s, tt)) listed.separator is.1.0))) (separated_by Separates apart Is of laid each (next ∷ rest) is.1.1)

-- the pieces of a block
pub piece_by : {T : Type 0} (Is : T → Type 0) (of : T → List Item) (laid : T → Laid) → ((part : T) → Is part → IsLaidBy (of part) (laid part))
    → (turn : Piece T → Piece Laid) → ((item : Item) → turn (Piece.Semicolon item) ≡ Piece.Semicolon item) → ((part : T) → turn (Piece.Part part) ≡ Piece.Part (laid part))
    → (piece : Piece T) → IsPiece Is piece → IsLaidBy (piece_items of piece) (piece_laid (turn piece))
piece_by Is of laid each turn s p (Piece.Semicolon item) is = same refl (ap piece_laid (s item)) (ends_as Ending.Nothing (plain (item ∷ []) (special (codes ";") item is, tt)))
piece_by Is of laid each turn s p (Piece.Part part) is = same refl (ap piece_laid (p part)) (each part is)

pub pieces_by : {T : Type 0} (Is : T → Type 0) (of : T → List Item) (laid : T → Laid) → ((part : T) → Is part → IsLaidBy (of part) (laid part))
    → (turn : Piece T → Piece Laid) → ((item : Item) → turn (Piece.Semicolon item) ≡ Piece.Semicolon item) → ((part : T) → turn (Piece.Part part) ≡ Piece.Part (laid part))
    → (pieces : List (Piece T)) → AllByRecursion (IsPiece Is) pieces → IsLaidBy (flat_map (piece_items of) pieces) (row (map piece_laid (map turn pieces)))
pieces_by Is of laid each turn s p [] is = plain [] tt
pieces_by Is of laid each turn s p (piece ∷ pieces) is = join (piece_by Is of laid each turn s p piece is.0) (pieces_by Is of laid each turn s p pieces is.1)

opening_plain : {T : Type 0} (layout : Layout) (pieces : List (Piece T)) → AreBraced layout pieces → AreNoOpenings (opening_items layout)
opening_plain (Layout.Implicit col) pieces braced = tt
opening_plain (Layout.Explicit left right) pieces braced = (special (codes "{") left braced.0, tt)

closing_plain : {T : Type 0} (layout : Layout) (pieces : List (Piece T)) → AreBraced layout pieces → AreNoOpenings (closing_items layout)
closing_plain (Layout.Implicit col) pieces braced = tt
closing_plain (Layout.Explicit left right) pieces braced = (special (codes "}") right braced.1.0, tt)

-- a block in the braces that it has
pub braced_by : {T : Type 0} (kind : BlockKind) (of : T → List Item) (turn : Piece T → Piece Laid) (block : Block T) → AreBraced block.layout block.pieces
    → IsLaidBy (flat_map (piece_items of) block.pieces) (row (map piece_laid (map turn block.pieces))) → IsBlockBy (block_items of block) (block_laid kind (record { layout = block.layout; pieces = map turn block.pieces }))
braced_by kind of turn block braced is =
    block_by kind block.layout (map turn block.pieces) (flat_map (piece_items of) block.pieces) (opening_plain block.layout block.pieces braced) (closing_plain block.layout block.pieces braced) is
