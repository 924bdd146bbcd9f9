use Rattle.tdf_tables.proofs.Words.{words_cut, words_short}
use Rattle.tdf_tables.proofs.table.cut_word.Goals as goal

pub returns-in-empty-clause-none : goal.returns-in-empty-clause-none
returns-in-empty-clause-none c = λ _. words_short c.args.text.now c.in-empty.len_below

pub returns-in-len1-up-clause-word : goal.returns-in-len1-up-clause-word
returns-in-len1-up-clause-word c = words_cut c.args.text.now c.cut_space.result.0.now c.cut_space.result.1.now c.in-len1-up.len_at_least
    c.cut_space.ensures.word c.cut_space.ensures.rest
