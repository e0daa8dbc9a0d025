-- `list_shifts::ds_from_dz_offset_at` meets its contract. Written by tools/surface. Assumes nothing.
use lib.ListN.{length}
use Rattle.conecalls.proofs.Marked.{open_tested}
use Rattle.list_shifts.proofs.ds_from_dz_offset_at.Goals as goal

pub ds_from_dz_offset_in-requires : goal.ds_from_dz_offset_in-requires
ds_from_dz_offset_in-requires c = let a = c.args in open_tested a.p _ (length a.marks.now) a.p.count c.in_ok-check.ensures
