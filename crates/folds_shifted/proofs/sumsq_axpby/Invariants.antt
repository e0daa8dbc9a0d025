-- What `folds_shifted::sumsq_axpby` keeps true in its loop. Assumes nothing.
use Rattle.vecmath.proofs.Loops.{Folded, length, ◌⊕◌, ◌⊗◌, 𝟎, 𝟏, ◌!◌}
use Rattle.folds_shifted.proofs.sumsq_axpby.Given as goal

abbrev pub invariant-loop-i : goal.invariant-loop-i
invariant-loop-i l = Folded (length l.x) 𝟎 (λ k s. s ⊕ (l.a ⊗ l.x ! k ⊕ 𝟏 ⊗ (l.b ⊗ l.y ! k)) ⊗ (l.a ⊗ l.x ! k ⊕ 𝟏 ⊗ (l.b ⊗ l.y ! k))) l.i l.s
