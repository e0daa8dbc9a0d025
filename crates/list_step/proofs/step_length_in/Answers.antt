-- `list_step::step_length_in` meets its contract. Assumes nothing.
use Rattle.conelist.proofs.Placed.{lent}
use Rattle.list_step.proofs.step_length_in.Goals as goal

pub returns : goal.returns
returns c = simp (lent c.dim.ensures) at c.kind_step_length.ensures
