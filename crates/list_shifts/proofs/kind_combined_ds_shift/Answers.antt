-- `list_shifts::kind_combined_ds_shift` meets its contract. Written by tools/surface. Assumes nothing.
use native.Mathlib.Omega.{arith}
use Rattle.conelist.proofs.Placed.{two_least}
use Rattle.list_shifts.specs.Shift.{kind_combined_ds_shift}
use Rattle.list_shifts.proofs.kind_combined_ds_shift.Goals as goal

pub combined_ds_shift-requires-in-SecondOrder : goal.combined_ds_shift-requires-in-SecondOrder
unfolding kind_combined_ds_shift
combined_ds_shift-requires-in-SecondOrder c = omega (arith, two_least)

pub returns-in-Nonnegative : goal.returns-in-Nonnegative
unfolding kind_combined_ds_shift
returns-in-Nonnegative c = rw c.in-Nonnegative.is c.combined_ds_shift.ensures

pub returns-in-SecondOrder : goal.returns-in-SecondOrder
unfolding kind_combined_ds_shift
returns-in-SecondOrder c = rw c.in-SecondOrder.is c.combined_ds_shift-in-SecondOrder.ensures
