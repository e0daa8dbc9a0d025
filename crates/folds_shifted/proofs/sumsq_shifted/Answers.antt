-- `folds_shifted::sumsq_shifted` meets its contract. Assumes nothing.
use Rattle.vecmath.specs.Vector.{shifted}
use Rattle.vecmath.proofs.Loops.{loops, fold_end, sumsq_each}
use Rattle.folds_shifted.proofs.sumsq_shifted.Goals as goal

pub loop-i-init : goal.loop-i-init
loop-i-init c = search loops

pub loop-i-preserved : goal.loop-i-preserved
loop-i-preserved c = search loops

pub returns : goal.returns
unfolding shifted
returns c = fold_end c.loop-i.invariant c.loop-i-test.false (sumsq_each _ _)
