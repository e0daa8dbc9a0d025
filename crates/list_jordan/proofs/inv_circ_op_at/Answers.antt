-- `list_jordan::inv_circ_op_at` meets its contract. Written by tools/surface. Assumes nothing.
use Rattle.conelist.proofs.Placed.{open_at}
use Rattle.list_jordan.proofs.inv_circ_op_at.Goals as goal

pub inv_circ_op_in-requires : goal.inv_circ_op_in-requires
inv_circ_op_in-requires c = open_at _ _ c.in_ok-check.ensures
