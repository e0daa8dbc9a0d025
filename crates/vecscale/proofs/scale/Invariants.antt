-- What `vecscale::scale` keeps true in its loop. Assumes nothing.
use Rattle.vecmath.proofs.Loops.{Filled, nan, ◌⊗◌}
use Rattle.vecscale.proofs.scale.Given as goal

abbrev pub invariant-loop-v : goal.invariant-loop-v
invariant-loop-v l = Filled nan (λ k v. l.a ⊗ v) l.initial.y l.v-index l.y
