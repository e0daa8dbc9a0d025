-- `list_margins::kind_margins` meets its contract. Assumes nothing.
use native.Mathlib.Omega.{arith}
use Rattle.conelist.proofs.Placed.{two_least}
use Rattle.list_margins.specs.Margins.{kind_margins}
use Rattle.list_margins.proofs.kind_margins.Goals as goal

pub margin-alpha-requires : goal.margin-alpha-requires
unfolding kind_margins
margin-alpha-requires c = omega (arith, two_least)

pub returns-in-Nonnegative : goal.returns-in-Nonnegative
unfolding kind_margins
returns-in-Nonnegative c = rw c.in-Nonnegative.is c.margins.ensures

pub returns-in-SecondOrder : goal.returns-in-SecondOrder
unfolding kind_margins
returns-in-SecondOrder c = rw (c.in-SecondOrder.is, c.greatest.ensures, c.margin-alpha.ensures)
