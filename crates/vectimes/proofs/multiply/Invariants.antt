-- What `vectimes::multiply` keeps true in its loop. Assumes nothing.
use Rattle.vecmath.proofs.Loops.{Filled, nan, ◌⊗◌, ◌!◌}
use Rattle.vectimes.proofs.multiply.Given as goal

abbrev pub invariant-loop-i : goal.invariant-loop-i
invariant-loop-i l = Filled nan (λ k v. l.y ! k ⊗ l.z ! k) l.initial.x l.i l.x
