-- What these calls write has its slice's length, for every n. Assumes nothing.
use mathlib.Core.Path.{◌≡◌}
use mathlib.Core.List.{List}
use lib.ListN.{length}
use lib.Ieee.{Float}
use Rattle.vecmath.specs.Vector.{products}
use Rattle.vecmath.proofs.Loops.{length_each}
use Rattle.nn_jordan.specs.Jordan.{nonneg_affine_ds, nonneg_circ}

pub length_affine_ds : (lambda : List Float) → length (nonneg_affine_ds lambda) ≡ length lambda
unfolding products
length_affine_ds lambda = length_each _ _

pub length_circ : (y z : List Float) → length (nonneg_circ y z) ≡ length y
unfolding products
length_circ y z = length_each _ _
