-- What these calls write has its slice's length, for every n. Assumes nothing.
use mathlib.Core.Path.{◌≡◌}
use mathlib.Core.List.{List}
use lib.ListN.{length}
use lib.Ieee.{Float}
use Rattle.vecmath.specs.Vector.{quotients}
use Rattle.vecmath.proofs.Loops.{length_each}
use Rattle.nn_offset.specs.Offset.{nonneg_offset}

pub length_offset : (ds z : List Float) → length (nonneg_offset ds z) ≡ length ds
unfolding quotients
length_offset ds z = length_each _ _
