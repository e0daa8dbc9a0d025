-- `folds::dot` meets its contract. Assumes nothing.
use Rattle.vecmath.specs.Vector.{dot}
use Rattle.vecmath.proofs.Loops.{loops}
use Rattle.folds.proofs.dot.Goals as goal

pub loop-i-init : goal.loop-i-init
loop-i-init c = search loops

pub loop-i-preserved : goal.loop-i-preserved
loop-i-preserved c = search loops

pub returns : goal.returns
unfolding dot
returns c = search loops
