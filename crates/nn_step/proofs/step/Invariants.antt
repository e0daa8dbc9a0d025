-- What `nn_step::step` keeps true in its loop. Assumes nothing.
use Rattle.extrema.specs.Extrema.{least_of}
use Rattle.vecmath.proofs.Loops.{Folded, length, ◌!◌}
use Rattle.nn_step.specs.Step.{shorter}
use Rattle.nn_step.proofs.step.Given as goal

abbrev pub invariant-loop-i : goal.invariant-loop-i
invariant-loop-i l = Folded (length l.y) l.limit (λ k α. shorter least_of (l.x ! k) (l.y ! k) α) l.i l.alpha
