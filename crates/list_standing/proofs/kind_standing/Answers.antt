-- `list_standing::kind_standing` meets its contract. Assumes nothing.
use native.Mathlib.Omega.{arith}
use Rattle.conelist.proofs.Placed.{two_least}
use Rattle.list_standing.specs.Standing.{kind_standing}
use Rattle.list_standing.proofs.kind_standing.Goals as goal

pub second_order-requires : goal.second_order-requires
unfolding kind_standing
second_order-requires c = omega (arith, two_least)

pub returns-in-Nonnegative : goal.returns-in-Nonnegative
unfolding kind_standing
returns-in-Nonnegative c = rw (c.in-Nonnegative.is, c.nonnegative.ensures)

pub returns-in-SecondOrder : goal.returns-in-SecondOrder
unfolding kind_standing
returns-in-SecondOrder c = rw (c.in-SecondOrder.is, c.second_order.ensures)
