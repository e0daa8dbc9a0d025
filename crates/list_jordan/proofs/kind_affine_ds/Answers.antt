-- `list_jordan::kind_affine_ds` meets its contract. Written by tools/surface. Assumes nothing.
use native.Mathlib.Omega.{arith}
use Rattle.conelist.proofs.Placed.{two_least}
use Rattle.list_jordan.specs.Jordan.{kind_affine_ds}
use Rattle.list_jordan.proofs.kind_affine_ds.Goals as goal

pub circ_op-requires : goal.circ_op-requires
unfolding kind_affine_ds
circ_op-requires c = omega (arith, two_least)

pub returns-in-Nonnegative : goal.returns-in-Nonnegative
unfolding kind_affine_ds
returns-in-Nonnegative c = rw c.in-Nonnegative.is c.affine_ds.ensures

pub returns-in-SecondOrder : goal.returns-in-SecondOrder
unfolding kind_affine_ds
returns-in-SecondOrder c = rw c.in-SecondOrder.is c.circ_op.ensures
