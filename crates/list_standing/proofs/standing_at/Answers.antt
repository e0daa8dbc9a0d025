-- `list_standing::standing_at` meets its contract. Assumes nothing.
use Rattle.conelist.proofs.Placed.{open_at}
use Rattle.list_standing.proofs.standing_at.Goals as goal

pub standing_in-requires : goal.standing_in-requires
standing_in-requires c = open_at _ _ c.in_ok-check.ensures
