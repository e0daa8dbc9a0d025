-- `standing::present` meets its contract: its loop. Assumes nothing.
use Rattle.extrema.proofs.Laws.{ne_self}
use Rattle.vecmath.proofs.Loops.{loops}
use Rattle.standing.proofs.present.Goals as goal

pub loop-x-init : goal.loop-x-init
loop-x-init c = search loops

pub loop-x-preserved : goal.loop-x-preserved
loop-x-preserved c = rw (ne_self) (search loops)
