-- What `measured::roots` keeps true in its loop. Assumes nothing.
use Rattle.root.specs.Root.{root}
use Rattle.vecmath.proofs.Loops.{Filled, nan, ◌!◌}
use Rattle.measured.proofs.roots.Given as goal

abbrev pub invariant-loop-i : goal.invariant-loop-i
invariant-loop-i l = Filled nan (λ k v. root (l.x ! k)) l.initial.y l.i l.y
