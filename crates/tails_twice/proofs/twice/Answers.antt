-- `tails_twice::twice` meets its contract. Assumes nothing.
use Rattle.vecmath.proofs.Loops.{loops}
use Rattle.tails_twice.proofs.Laws.{axpby_axpby}
use Rattle.tails_twice.proofs.twice.Goals as goal

pub loop-i-init : goal.loop-i-init
loop-i-init c = search loops

pub loop-i-preserved : goal.loop-i-preserved
loop-i-preserved c = search loops

pub returns : goal.returns
returns c = search (loops, axpby_axpby)
