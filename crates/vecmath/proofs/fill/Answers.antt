-- `vecmath::fill` meets its contract. Assumes nothing.
use Rattle.vecmath.specs.Vector.{constant}
use Rattle.vecmath.proofs.Loops.{loops}
use Rattle.vecmath.proofs.fill.Goals as goal

pub loop-v-init : goal.loop-v-init
loop-v-init c = search loops

pub loop-v-preserved : goal.loop-v-preserved
loop-v-preserved c = search loops

pub returns : goal.returns
unfolding constant
returns c = search loops
