-- `tails_write::axpby` meets its contract. Assumes nothing.
use Rattle.tails.proofs.Laws.{part_tail, tail_back}
use Rattle.tails_write.proofs.axpby.Goals as goal

pub returns : goal.returns
returns c = let part = simp part_tail at c.axpby.ensures in search tail_back
