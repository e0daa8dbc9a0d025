-- What `vecmath::negate_from` keeps true in its loop. Assumes nothing.
use lib.Ieee.{neg}
use Rattle.vecmath.proofs.Loops.{Filled, nan, ◌!◌}
use Rattle.vecmath.proofs.negate_from.Given as goal

abbrev pub invariant-loop-i : goal.invariant-loop-i
invariant-loop-i l = Filled nan (λ k v. neg (l.x ! k)) l.initial.y l.i l.y
