-- `tails_write::scale` meets its contract. Assumes nothing.
use Rattle.tails.proofs.Laws.{part_tail, tail_back}
use Rattle.tails_write.proofs.scale.Goals as goal

pub returns : goal.returns
returns c = let part = simp part_tail at c.scale.ensures in search tail_back
