-- `list_scaling::kind_scaling` meets its contract. Assumes nothing.
use native.Mathlib.Omega.{arith}
use Rattle.conelist.proofs.Placed.{two_least}
use Rattle.list_scaling.specs.Scaling.{kind_scaling}
use Rattle.list_scaling.proofs.kind_scaling.Goals as goal

pub update_scaling-requires-in-SecondOrder : goal.update_scaling-requires-in-SecondOrder
unfolding kind_scaling
update_scaling-requires-in-SecondOrder c = omega (arith, two_least)

pub returns-in-Nonnegative : goal.returns-in-Nonnegative
unfolding kind_scaling
returns-in-Nonnegative c =
    let told = c.update_scaling.ensures in
    rw (c.in-Nonnegative.is, told.value, told.w_after, told.lambda_after)

pub returns-in-SecondOrder : goal.returns-in-SecondOrder
unfolding kind_scaling
returns-in-SecondOrder c = rw c.in-SecondOrder.is c.update_scaling-in-SecondOrder.ensures
