-- `tails::norm` meets its contract. Assumes nothing.
use Rattle.tails.proofs.Laws.{part_tail}
use Rattle.tails.proofs.norm.Goals as goal

pub returns : goal.returns
returns c = simp part_tail at c.norm.ensures
