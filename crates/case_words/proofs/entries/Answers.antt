-- `case_words::entries` meets its contract. Assumes nothing.
use Rattle.case_words.proofs.Laws.{firsts}
use Rattle.case_words.proofs.entries.Goals as goal

pub loop-i-preserved : goal.loop-i-preserved
loop-i-preserved g c = rw c.of_word.ensures (search firsts)
