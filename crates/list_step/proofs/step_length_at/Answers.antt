-- `list_step::step_length_at` meets its contract. Assumes nothing.
use Rattle.conelist.proofs.Placed.{open_at}
use Rattle.list_step.proofs.step_length_at.Goals as goal

pub step_length_in-requires : goal.step_length_in-requires
step_length_in-requires c = open_at _ _ c.in_ok-check.ensures
