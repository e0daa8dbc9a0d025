-- `list_standing::standing_in` meets its contract. Assumes nothing.
use Rattle.conelist.proofs.Placed.{lent}
use Rattle.list_standing.proofs.standing_in.Goals as goal

pub returns : goal.returns
returns c = simp (lent c.dim.ensures) at c.kind_standing.ensures
