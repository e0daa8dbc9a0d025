-- What `vecmath::fill` keeps true in its loop. Assumes nothing.
use Rattle.vecmath.proofs.Loops.{Filled, nan}
use Rattle.vecmath.proofs.fill.Given as goal

abbrev pub invariant-loop-v : goal.invariant-loop-v
invariant-loop-v l = Filled nan (λ k v. l.a) l.initial.y l.v-index l.y
