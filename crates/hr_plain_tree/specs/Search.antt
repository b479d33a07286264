-- How far a search for the lexeme at a position has come, of which the numbers stay at the greatest
-- one where they do not fit.
use Rattle.std.specs.Prelude.{◌+◌, min, List, fold, None, Some, if◌then◌else◌}
use Rattle.std.specs.Option.{option_or}
use Rattle.hr_base.specs.declared.lexeme.Item.{Item}
use Rattle.hr_rules.specs.Counted.{greatest, counted, pos_of}
use Rattle.hr_rules.specs.Positions.{behind, is_same_pos}
use Rattle.hr_plain_tree.specs.declared.search.Search.{Search}

-- behind one item more
abbrev pub passed_item : Search → Item → Search
passed_item search item =
    let lexeme = counted (behind (pos_of search.reached) item.trivia) in
    record {
      pos = search.pos;
      reached = counted (behind (pos_of lexeme) item.lexeme.text);
      passed = min greatest (search.passed + 1);
      found = option_or search.found (if is_same_pos search.pos (pos_of lexeme) then Some search.passed else None);
    }

-- behind items
abbrev pub passed : Search → List Item → Search
passed = fold passed_item
