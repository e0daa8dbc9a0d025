-- What `vecscale::translate` keeps true in its loop. Assumes nothing.
use Rattle.vecmath.proofs.Loops.{Filled, nan, ◌⊕◌}
use Rattle.vecscale.proofs.translate.Given as goal

abbrev pub invariant-loop-v : goal.invariant-loop-v
invariant-loop-v l = Filled nan (λ k v. v ⊕ l.a) l.initial.y l.v-index l.y
