-- `tails_write::waxpby` meets its contract. Assumes nothing.
use Rattle.tails.proofs.Laws.{part_tail, tail_back}
use Rattle.tails_write.proofs.waxpby.Goals as goal

pub returns : goal.returns
returns c = let part = simp part_tail at c.waxpby.ensures in search tail_back
