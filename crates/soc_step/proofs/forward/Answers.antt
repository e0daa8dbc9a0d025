-- `soc_step::forward` meets its contract: infinity, which is 1/0. Assumes nothing.
use lib.Ieee.{div, of_bits}
use Rattle.soc_step.specs.Step.{forward}
use Rattle.soc_step.proofs.forward.Goals as goal

pub returns-then-r : goal.returns-then-r
unfolding forward div of_bits
returns-then-r c = rw c.if-r.true
