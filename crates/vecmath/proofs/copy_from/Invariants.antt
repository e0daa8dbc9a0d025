-- What `vecmath::copy_from` keeps true in its loop. Assumes nothing.
use Rattle.vecmath.proofs.Loops.{Filled, nan, ◌!◌}
use Rattle.vecmath.proofs.copy_from.Given as goal

abbrev pub invariant-loop-i : goal.invariant-loop-i
invariant-loop-i l = Filled nan (λ k v. l.x ! k) l.initial.y l.i l.y
