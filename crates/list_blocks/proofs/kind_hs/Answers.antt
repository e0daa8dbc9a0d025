-- `list_blocks::kind_hs` meets its contract. Assumes nothing.
use native.Mathlib.Omega.{arith}
use Rattle.list_blocks.specs.Block.{kind_hs}
use Rattle.list_blocks.proofs.Laws.{nonnegative_block}
use Rattle.list_blocks.proofs.kind_hs.Goals as goal

pub get_hs-requires : goal.get_hs-requires
unfolding kind_hs
get_hs-requires c = omega (arith, nonnegative_block)

pub returns-in-Nonnegative : goal.returns-in-Nonnegative
unfolding kind_hs
returns-in-Nonnegative c = rw (c.in-Nonnegative.is, c.get_hs.ensures)

pub returns-in-SecondOrder : goal.returns-in-SecondOrder
unfolding kind_hs
returns-in-SecondOrder c = rw (c.in-SecondOrder.is, c.get_hs-in-SecondOrder.ensures)
