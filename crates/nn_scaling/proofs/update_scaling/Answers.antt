-- `nn_scaling::update_scaling` meets its contract: a turn of its loop. Assumes nothing.
use Rattle.vecmath.proofs.Loops.{loops}
use Rattle.nn_scaling.proofs.update_scaling.Goals as goal

pub loop-i-preserved : goal.loop-i-preserved
loop-i-preserved c = rw (c.sqrt-in-loop-i.ensures, c.sqrt.ensures) (search loops)
