-- `vecmath::negate_from` meets its contract. Assumes nothing.
use Rattle.vecmath.specs.Vector.{negated}
use Rattle.vecmath.proofs.Loops.{loops}
use Rattle.vecmath.proofs.negate_from.Goals as goal

pub loop-i-init : goal.loop-i-init
loop-i-init c = search loops

pub loop-i-preserved : goal.loop-i-preserved
loop-i-preserved c = search loops

pub returns : goal.returns
unfolding negated
returns c = search loops
