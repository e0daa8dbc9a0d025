-- `tails::dot` meets its contract. Assumes nothing.
use Rattle.tails.proofs.Laws.{part_tail}
use Rattle.tails.proofs.dot.Goals as goal

pub returns : goal.returns
returns c = simp part_tail at c.dot.ensures
