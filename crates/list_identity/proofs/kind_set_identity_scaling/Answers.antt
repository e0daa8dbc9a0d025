-- `list_identity::kind_set_identity_scaling` meets its contract. Written by tools/surface. Assumes nothing.
use native.Mathlib.Omega.{arith}
use Rattle.conelist.proofs.Placed.{two_least}
use Rattle.list_identity.specs.Identity.{kind_set_identity_scaling}
use Rattle.list_identity.proofs.kind_set_identity_scaling.Goals as goal

pub set_identity_scaling-requires-in-SecondOrder : goal.set_identity_scaling-requires-in-SecondOrder
unfolding kind_set_identity_scaling
set_identity_scaling-requires-in-SecondOrder c = omega (arith, two_least)

pub returns-in-Nonnegative : goal.returns-in-Nonnegative
unfolding kind_set_identity_scaling
returns-in-Nonnegative c = rw (c.in-Nonnegative.is, c.set_identity_scaling.ensures)

pub returns-in-SecondOrder : goal.returns-in-SecondOrder
unfolding kind_set_identity_scaling
returns-in-SecondOrder c = rw c.in-SecondOrder.is c.set_identity_scaling-in-SecondOrder.ensures
