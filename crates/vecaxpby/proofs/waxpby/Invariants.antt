-- What `vecaxpby::waxpby` keeps true in its loop. Assumes nothing.
use Rattle.vecmath.proofs.Loops.{Filled, nan, ◌⊕◌, ◌⊗◌, ◌!◌}
use Rattle.vecaxpby.proofs.waxpby.Given as goal

abbrev pub invariant-loop-i : goal.invariant-loop-i
invariant-loop-i l = Filled nan (λ k v. l.a ⊗ l.x ! k ⊕ l.b ⊗ l.y ! k) l.initial.w l.i l.w
