-- `list_units::unit_initialization_at` meets its contract. Assumes nothing.
use Rattle.conelist.proofs.Placed.{open_at}
use Rattle.list_units.proofs.unit_initialization_at.Goals as goal

pub unit_initialization_in-requires : goal.unit_initialization_in-requires
unit_initialization_in-requires c = open_at _ _ c.in_ok-check.ensures
