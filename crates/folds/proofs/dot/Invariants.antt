-- What `folds::dot` keeps true in its loop. Assumes nothing.
use Rattle.vecmath.proofs.Loops.{Folded, length, ◌⊕◌, ◌⊗◌, 𝟎, ◌!◌}
use Rattle.folds.proofs.dot.Given as goal

abbrev pub invariant-loop-i : goal.invariant-loop-i
invariant-loop-i l = Folded (length l.x) 𝟎 (λ k s. s ⊕ l.x ! k ⊗ l.y ! k) l.i l.s
