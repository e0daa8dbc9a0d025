-- `measured::roots` meets its contract. Assumes nothing.
use Rattle.vecmath.proofs.Loops.{loops}
use Rattle.measured.specs.Fitted.{roots}
use Rattle.measured.proofs.roots.Goals as goal

pub loop-i-init : goal.loop-i-init
loop-i-init c = search loops

pub loop-i-preserved : goal.loop-i-preserved
loop-i-preserved c = rw c.sqrt.ensures (search loops)

pub returns : goal.returns
unfolding roots
returns c = search loops
