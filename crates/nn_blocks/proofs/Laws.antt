-- What these calls write has its slice's length, for every n. Assumes nothing.
use mathlib.Core.Path.{◌≡◌}
use mathlib.Core.List.{List}
use lib.ListN.{length}
use lib.Ieee.{Float}
use Rattle.vecmath.specs.Vector.{products}
use Rattle.vecmath.proofs.Loops.{length_each}
use Rattle.nn_blocks.specs.Block.{nonneg_hs}

pub length_hs : (w : List Float) → length (nonneg_hs w) ≡ length w
unfolding products
length_hs w = length_each _ _
