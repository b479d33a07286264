use Rattle.hr_grammar_finder_laws.proofs.Short.{short_texts_lem}
use Rattle.hr_grammar_finder_laws.proofs.laws.short_texts_have_one_tree.Goals as goal

pub returns : goal.returns
returns c = short_texts_lem
