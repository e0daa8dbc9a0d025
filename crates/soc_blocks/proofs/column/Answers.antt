-- `soc_blocks::column` meets its contract. Assumes nothing.
use Rattle.vecmath.proofs.Loops.{loops}
use Rattle.soc_blocks.proofs.column.Goals as goal

pub loop-row-preserved : goal.loop-row-preserved
loop-row-preserved c = rw c.dense_entry.ensures (search loops)
