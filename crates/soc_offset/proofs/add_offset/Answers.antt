-- `soc_offset::add_offset` meets its contract: a turn of its loop. Assumes nothing.
use Rattle.vecmath.proofs.Loops.{loops}
use Rattle.soc_offset.proofs.add_offset.Goals as goal

pub loop-i-preserved : goal.loop-i-preserved
loop-i-preserved c = search loops
