-- What `vectimes::divide` keeps true in its loop. Assumes nothing.
use Rattle.vecmath.proofs.Loops.{Filled, nan, ◌⊘◌, ◌!◌}
use Rattle.vectimes.proofs.divide.Given as goal

abbrev pub invariant-loop-i : goal.invariant-loop-i
invariant-loop-i l = Filled nan (λ k v. l.z ! k ⊘ l.y ! k) l.initial.x l.i l.x
