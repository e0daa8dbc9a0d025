-- `tails::norm_axpby` meets its contract. Assumes nothing.
use Rattle.tails.proofs.Laws.{part_tail}
use Rattle.tails.proofs.norm_axpby.Goals as goal

pub returns : goal.returns
returns c = simp part_tail at c.norm_axpby.ensures
