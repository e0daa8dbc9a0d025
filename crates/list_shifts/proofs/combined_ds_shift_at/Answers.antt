-- `list_shifts::combined_ds_shift_at` meets its contract. Written by tools/surface. Assumes nothing.
use lib.ListN.{length}
use Rattle.conecalls.proofs.Marked.{open_tested}
use Rattle.list_shifts.proofs.combined_ds_shift_at.Goals as goal

pub combined_ds_shift_in-requires : goal.combined_ds_shift_in-requires
combined_ds_shift_in-requires c = let a = c.args in open_tested a.p _ (length a.marks.now) a.p.count c.in_ok-check.ensures
