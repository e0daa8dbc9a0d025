-- What `nn_scaling::update_scaling` keeps true in its loop. Assumes nothing.
use Rattle.root.specs.Root.{root}
use Rattle.vecmath.proofs.Loops.{Filled, nan, ◌⊗◌, ◌⊘◌, ◌!◌}
use Rattle.nn_scaling.proofs.update_scaling.Given as goal

abbrev pub invariant-loop-i : goal.invariant-loop-i
invariant-loop-i l = Filled nan (λ k v. root (l.s ! k ⊘ l.z ! k)) l.initial.w l.i l.w × Filled nan (λ k v. root (l.s ! k ⊗ l.z ! k)) l.initial.lambda l.i l.lambda
