-- What these calls write has its slice's length, for every n. Assumes nothing.
use mathlib.Core.Path.{◌≡◌}
use mathlib.Core.List.{List}
use lib.ListN.{length}
use lib.Ieee.{Float}
use Rattle.vecmath.specs.Vector.{quotients}
use Rattle.vecmath.proofs.Loops.{length_each}
use Rattle.nn_inverse.specs.Inverse.{nonneg_inv_circ}

pub length_inv_circ : (y z : List Float) → length (nonneg_inv_circ y z) ≡ length z
unfolding quotients
length_inv_circ y z = length_each _ _
