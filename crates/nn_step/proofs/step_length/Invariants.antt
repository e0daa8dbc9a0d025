-- What `nn_step::step_length` keeps true in its loop. Assumes nothing.
use Rattle.extrema.specs.Extrema.{least_of}
use Rattle.vecmath.proofs.Loops.{Folded, length, ◌!◌}
use Rattle.nn_step.specs.Step.{shorter}
use Rattle.nn_step.proofs.step_length.Given as goal

abbrev pub invariant-loop-i : goal.invariant-loop-i
invariant-loop-i l = Folded (length l.dz) l.limit (λ k α. shorter least_of (l.z ! k) (l.dz ! k) α) l.i l.alpha_z × Folded (length l.dz) l.limit (λ k α. shorter least_of (l.s ! k) (l.ds ! k) α) l.i l.alpha_s
