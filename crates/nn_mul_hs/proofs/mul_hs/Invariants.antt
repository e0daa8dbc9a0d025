-- What `nn_mul_hs::mul_hs` keeps true in its loop. Assumes nothing.
use Rattle.vecmath.proofs.Loops.{Filled, nan, ◌⊗◌, ◌!◌}
use Rattle.nn_mul_hs.proofs.mul_hs.Given as goal

abbrev pub invariant-loop-i : goal.invariant-loop-i
invariant-loop-i l = Filled nan (λ k v. l.w ! k ⊗ (l.w ! k ⊗ l.x ! k)) l.initial.y l.i l.y
