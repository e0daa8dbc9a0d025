-- `list_step::kind_step_length` meets its contract. Assumes nothing.
use native.Mathlib.Omega.{arith}
use Rattle.conelist.proofs.Placed.{two_least}
use Rattle.list_step.specs.Step.{kind_step_by}
use Rattle.list_step.proofs.kind_step_length.Goals as goal

pub step_length-requires-in-SecondOrder : goal.step_length-requires-in-SecondOrder
unfolding kind_step_by
step_length-requires-in-SecondOrder c = omega (arith, two_least)

pub returns-in-Nonnegative : goal.returns-in-Nonnegative
unfolding kind_step_by
returns-in-Nonnegative c = rw c.in-Nonnegative.is c.step_length.ensures

pub returns-in-SecondOrder : goal.returns-in-SecondOrder
unfolding kind_step_by
returns-in-SecondOrder c = rw (c.in-SecondOrder.is, c.step_length-in-SecondOrder.ensures.z_value, c.step_length-in-SecondOrder.ensures.s_value)
