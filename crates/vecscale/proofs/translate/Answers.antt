-- `vecscale::translate` meets its contract. Assumes nothing.
use Rattle.vecmath.specs.Vector.{translate}
use Rattle.vecmath.proofs.Loops.{loops}
use Rattle.vecscale.proofs.translate.Goals as goal

pub loop-v-init : goal.loop-v-init
loop-v-init c = search loops

pub loop-v-preserved : goal.loop-v-preserved
loop-v-preserved c = search loops

pub returns : goal.returns
unfolding translate
returns c = search loops
