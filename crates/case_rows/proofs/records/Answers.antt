-- `case_rows::records` meets its contract. Assumes nothing.
use Rattle.case_words.proofs.Laws.{firsts}
use Rattle.case_rows.proofs.records.Goals as goal

pub loop-i-preserved : goal.loop-i-preserved
loop-i-preserved c = search firsts
