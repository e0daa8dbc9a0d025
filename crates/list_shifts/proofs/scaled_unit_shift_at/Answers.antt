-- `list_shifts::scaled_unit_shift_at` meets its contract. Written by tools/surface. Assumes nothing.
use Rattle.conelist.proofs.Placed.{open_at}
use Rattle.list_shifts.proofs.scaled_unit_shift_at.Goals as goal

pub scaled_unit_shift_in-requires : goal.scaled_unit_shift_in-requires
scaled_unit_shift_in-requires c = open_at _ _ c.in_ok-check.ensures
