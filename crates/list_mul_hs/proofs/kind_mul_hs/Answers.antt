-- `list_mul_hs::kind_mul_hs` meets its contract. Written by tools/surface. Assumes nothing.
use native.Mathlib.Omega.{arith}
use Rattle.conelist.proofs.Placed.{two_least}
use Rattle.list_mul_hs.specs.Block.{kind_mul_hs}
use Rattle.list_mul_hs.proofs.kind_mul_hs.Goals as goal

pub mul_hs-requires-in-SecondOrder : goal.mul_hs-requires-in-SecondOrder
unfolding kind_mul_hs
mul_hs-requires-in-SecondOrder c = omega (arith, two_least)

pub returns-in-Nonnegative : goal.returns-in-Nonnegative
unfolding kind_mul_hs
returns-in-Nonnegative c = rw c.in-Nonnegative.is c.mul_hs.ensures

pub returns-in-SecondOrder : goal.returns-in-SecondOrder
unfolding kind_mul_hs
returns-in-SecondOrder c = rw c.in-SecondOrder.is c.mul_hs-in-SecondOrder.ensures
