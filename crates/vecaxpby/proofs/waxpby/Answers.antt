-- `vecaxpby::waxpby` meets its contract. Assumes nothing.
use Rattle.vecmath.specs.Vector.{axpby}
use Rattle.vecmath.proofs.Loops.{loops}
use Rattle.vecaxpby.proofs.waxpby.Goals as goal

pub loop-i-init : goal.loop-i-init
loop-i-init c = search loops

pub loop-i-preserved : goal.loop-i-preserved
loop-i-preserved c = search loops

pub returns : goal.returns
unfolding axpby
returns c = search loops
