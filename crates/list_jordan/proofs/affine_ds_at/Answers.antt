-- `list_jordan::affine_ds_at` meets its contract. Written by tools/surface. Assumes nothing.
use lib.ListN.{length}
use Rattle.conecalls.proofs.Marked.{open_tested}
use Rattle.list_jordan.proofs.affine_ds_at.Goals as goal

pub affine_ds_in-requires : goal.affine_ds_in-requires
affine_ds_in-requires c = let a = c.args in open_tested a.p _ (length a.marks.now) a.p.count c.in_ok-check.ensures
