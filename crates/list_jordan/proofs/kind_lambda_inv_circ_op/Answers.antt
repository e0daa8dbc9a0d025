-- `list_jordan::kind_lambda_inv_circ_op` meets its contract. Written by tools/surface. Assumes nothing.
use native.Mathlib.Omega.{arith}
use Rattle.conelist.proofs.Placed.{two_least}
use Rattle.list_jordan.specs.Jordan.{kind_lambda_inv_circ_op}
use Rattle.list_jordan.proofs.kind_lambda_inv_circ_op.Goals as goal

pub inv_circ_op-requires-in-SecondOrder : goal.inv_circ_op-requires-in-SecondOrder
unfolding kind_lambda_inv_circ_op
inv_circ_op-requires-in-SecondOrder c = omega (arith, two_least)

pub returns-in-Nonnegative : goal.returns-in-Nonnegative
unfolding kind_lambda_inv_circ_op
returns-in-Nonnegative c = rw c.in-Nonnegative.is c.inv_circ_op.ensures

pub returns-in-SecondOrder : goal.returns-in-SecondOrder
unfolding kind_lambda_inv_circ_op
returns-in-SecondOrder c = rw c.in-SecondOrder.is c.inv_circ_op-in-SecondOrder.ensures
