-- `nn_mul_hs::mul_hs` meets its contract: a turn of its loop. Assumes nothing.
use Rattle.vecmath.proofs.Loops.{loops}
use Rattle.nn_mul_hs.proofs.mul_hs.Goals as goal

pub loop-i-preserved : goal.loop-i-preserved
loop-i-preserved c = search loops
