-- What `tails_twice::twice` keeps true in its loop. Assumes nothing.
use Rattle.vecmath.proofs.Loops.{Filled, nan, ◌⊕◌, ◌⊗◌, 𝟏, ◌!◌}
use Rattle.tails_twice.proofs.twice.Given as goal

abbrev pub invariant-loop-i : goal.invariant-loop-i
invariant-loop-i l = Filled nan (λ k v. l.c ⊗ l.z ! k ⊕ 𝟏 ⊗ (l.a ⊗ l.x ! k ⊕ l.b ⊗ v)) l.initial.y l.i l.y
