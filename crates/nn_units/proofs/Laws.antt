-- What these calls write has its slice's length, for every n. Assumes nothing.
use Prim.Native.Nat.{ℕ}
use mathlib.Core.Path.{◌≡◌}
use mathlib.Core.List.{List}
use lib.ListN.{length}
use lib.Ieee.{Float}
use Rattle.vecmath.specs.Vector.{constant, translate}
use Rattle.vecmath.proofs.Loops.{length_each}
use Rattle.nn_units.specs.Units.{nonneg_shift, nonneg_unit}

pub length_shift : (α : Float) (z : List Float) → length (nonneg_shift α z) ≡ length z
unfolding translate
length_shift α z = length_each _ _

pub length_unit : (n : ℕ) → length (nonneg_unit n) ≡ n
unfolding constant
length_unit n = length_each _ _
