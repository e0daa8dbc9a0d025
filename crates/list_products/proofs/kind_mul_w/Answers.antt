-- `list_products::kind_mul_w` meets its contract. Written by tools/surface. Assumes nothing.
use native.Mathlib.Omega.{arith}
use Rattle.conelist.proofs.Placed.{two_least}
use Rattle.list_products.specs.Product.{kind_mul_w}
use Rattle.list_products.proofs.kind_mul_w.Goals as goal

pub mul_w-requires-in-SecondOrder : goal.mul_w-requires-in-SecondOrder
unfolding kind_mul_w
mul_w-requires-in-SecondOrder c = omega (arith, two_least)

pub returns-in-Nonnegative : goal.returns-in-Nonnegative
unfolding kind_mul_w
returns-in-Nonnegative c = rw c.in-Nonnegative.is c.mul_w.ensures

pub returns-in-SecondOrder : goal.returns-in-SecondOrder
unfolding kind_mul_w
returns-in-SecondOrder c = rw c.in-SecondOrder.is c.mul_w-in-SecondOrder.ensures
