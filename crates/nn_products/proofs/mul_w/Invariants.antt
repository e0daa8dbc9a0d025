-- What `nn_products::mul_w` keeps true in its loop. Assumes nothing.
use Rattle.vecmath.proofs.Loops.{Filled, nan, ◌⊕◌, ◌⊗◌, ◌!◌}
use Rattle.nn_products.proofs.mul_w.Given as goal

abbrev pub invariant-loop-i : goal.invariant-loop-i
invariant-loop-i l = Filled nan (λ k v. l.alpha ⊗ (l.x ! k ⊗ l.w ! k) ⊕ l.beta ⊗ v) l.initial.y l.i l.y
