-- What `vecaxpby::axpby` keeps true in its loop. Assumes nothing.
use Rattle.vecmath.proofs.Loops.{Filled, nan, ◌⊕◌, ◌⊗◌, ◌!◌}
use Rattle.vecaxpby.proofs.axpby.Given as goal

abbrev pub invariant-loop-i : goal.invariant-loop-i
invariant-loop-i l = Filled nan (λ k v. l.a ⊗ l.x ! k ⊕ l.b ⊗ v) l.initial.y l.i l.y
