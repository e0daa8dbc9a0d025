-- `list_jordan::lambda_inv_circ_op_at` meets its contract. Written by tools/surface. Assumes nothing.
use lib.ListN.{length}
use Rattle.conecalls.proofs.Marked.{open_tested}
use Rattle.list_jordan.proofs.lambda_inv_circ_op_at.Goals as goal

pub lambda_inv_circ_op_in-requires : goal.lambda_inv_circ_op_in-requires
lambda_inv_circ_op_in-requires c = let a = c.args in open_tested a.p _ (length a.marks.now) a.p.count c.in_ok-check.ensures
