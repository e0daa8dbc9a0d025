-- What these calls write has its slice's length, for every n. Assumes nothing.
use mathlib.Core.Path.{◌≡◌}
use mathlib.Core.List.{List}
use lib.ListN.{length}
use lib.Ieee.{Float}
use Rattle.vecmath.proofs.Loops.{length_each}
use Rattle.nn_mul_hs.specs.Block.{nonneg_mul_hs}

pub length_mul_hs : (x w : List Float) → length (nonneg_mul_hs x w) ≡ length x
unfolding nonneg_mul_hs
length_mul_hs x w = length_each _ _
