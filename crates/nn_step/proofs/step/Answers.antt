-- `nn_step::step` meets its contract: its loop. Assumes nothing.
use Rattle.vecmath.proofs.Loops.{loops}
use Rattle.nn_step.proofs.step.Goals as goal

pub loop-i-init : goal.loop-i-init
loop-i-init c = search loops

pub loop-i-preserved : goal.loop-i-preserved
loop-i-preserved c = search loops
