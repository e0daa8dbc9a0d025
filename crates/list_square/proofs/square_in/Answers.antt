-- `list_square::square_in` meets its contract. Assumes nothing.
use Rattle.conelist.proofs.Placed.{lent}
use Rattle.list_square.proofs.square_in.Goals as goal

pub returns : goal.returns
returns c = simp (lent c.dim.ensures) at c.square_hs.ensures
