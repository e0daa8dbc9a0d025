-- `list_margins::margins_at` meets its contract. Assumes nothing.
use Rattle.conelist.proofs.Placed.{open_at}
use Rattle.list_margins.proofs.margins_at.Goals as goal

pub margins_in-requires : goal.margins_in-requires
margins_in-requires c = open_at _ _ c.in_ok-check.ensures
