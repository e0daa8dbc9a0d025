-- `soc_blocks::dense_hs` meets its contract. Assumes nothing.
use native.Mathlib.Omega.{arith}
use Rattle.soc_blocks.proofs.Columns.{lay_room, laying}
use Rattle.soc_blocks.proofs.dense_hs.Goals as goal

pub loop-col-init : goal.loop-col-init
loop-col-init c = search laying

pub slice_bounds-column-end : goal.slice_bounds-column-end
slice_bounds-column-end c = omega (arith, lay_room _ c.loop-col.invariant c.loop-col-test.true)

pub loop-col-preserved : goal.loop-col-preserved
loop-col-preserved c = search laying
