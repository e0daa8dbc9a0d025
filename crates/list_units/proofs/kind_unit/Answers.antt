-- `list_units::kind_unit` meets its contract. Assumes nothing.
use native.Mathlib.Omega.{arith}
use Rattle.conelist.proofs.Placed.{two_least}
use Rattle.list_units.specs.Units.{kind_unit}
use Rattle.list_units.proofs.kind_unit.Goals as goal

pub unit_vector-requires : goal.unit_vector-requires
unfolding kind_unit
unit_vector-requires c = omega (arith, two_least)

pub returns-in-Nonnegative : goal.returns-in-Nonnegative
unfolding kind_unit
returns-in-Nonnegative c = rw (c.in-Nonnegative.is, c.fill.ensures)

pub returns-in-SecondOrder : goal.returns-in-SecondOrder
unfolding kind_unit
returns-in-SecondOrder c = rw (c.in-SecondOrder.is, c.unit_vector.ensures)
