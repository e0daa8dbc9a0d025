-- `nn_products::mul_winv` meets its contract: a turn of its loop. Assumes nothing.
use Rattle.vecmath.proofs.Loops.{loops}
use Rattle.nn_products.proofs.mul_winv.Goals as goal

pub loop-i-preserved : goal.loop-i-preserved
loop-i-preserved c = search loops
