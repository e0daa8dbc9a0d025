-- `list_shifts::kind_scaled_unit_shift` meets its contract. Written by tools/surface. Assumes nothing.
use native.Mathlib.Omega.{arith}
use Rattle.conelist.proofs.Placed.{two_least}
use Rattle.list_shifts.specs.Shift.{kind_scaled_unit_shift}
use Rattle.list_shifts.proofs.kind_scaled_unit_shift.Goals as goal

pub scaled_unit_shift-requires-in-SecondOrder : goal.scaled_unit_shift-requires-in-SecondOrder
unfolding kind_scaled_unit_shift
scaled_unit_shift-requires-in-SecondOrder c = omega (arith, two_least)

pub returns-in-Nonnegative : goal.returns-in-Nonnegative
unfolding kind_scaled_unit_shift
returns-in-Nonnegative c = rw c.in-Nonnegative.is c.scaled_unit_shift.ensures

pub returns-in-SecondOrder : goal.returns-in-SecondOrder
unfolding kind_scaled_unit_shift
returns-in-SecondOrder c = rw c.in-SecondOrder.is c.scaled_unit_shift-in-SecondOrder.ensures
