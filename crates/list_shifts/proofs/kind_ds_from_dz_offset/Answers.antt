-- `list_shifts::kind_ds_from_dz_offset` meets its contract. Written by tools/surface. Assumes nothing.
use native.Mathlib.Omega.{arith}
use Rattle.conelist.proofs.Placed.{two_least}
use Rattle.list_shifts.specs.Shift.{kind_ds_from_dz_offset}
use Rattle.list_shifts.proofs.kind_ds_from_dz_offset.Goals as goal

pub ds_from_dz_offset-requires-in-SecondOrder : goal.ds_from_dz_offset-requires-in-SecondOrder
unfolding kind_ds_from_dz_offset
ds_from_dz_offset-requires-in-SecondOrder c = omega (arith, two_least)

pub returns-in-Nonnegative : goal.returns-in-Nonnegative
unfolding kind_ds_from_dz_offset
returns-in-Nonnegative c = rw c.in-Nonnegative.is c.ds_from_dz_offset.ensures

pub returns-in-SecondOrder : goal.returns-in-SecondOrder
unfolding kind_ds_from_dz_offset
returns-in-SecondOrder c = rw c.in-SecondOrder.is c.ds_from_dz_offset-in-SecondOrder.ensures
