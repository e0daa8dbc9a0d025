-- What `folds_shifted::sumsq_shifted` keeps true in its loop. Assumes nothing.
use Rattle.vecmath.proofs.Loops.{Folded, length, ◌⊕◌, ◌⊗◌, 𝟎, ◌!◌}
use Rattle.folds_shifted.proofs.sumsq_shifted.Given as goal

abbrev pub invariant-loop-i : goal.invariant-loop-i
invariant-loop-i l = Folded (length l.z) 𝟎 (λ k s. s ⊕ (l.z ! k ⊕ l.alpha ⊗ l.dz ! k) ⊗ (l.z ! k ⊕ l.alpha ⊗ l.dz ! k)) l.i l.s
