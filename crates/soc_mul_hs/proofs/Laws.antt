-- What these calls write has n entries, where what they are given has. Assumes nothing.
use Prim.Native.Nat.{ℕ}
use mathlib.Core.Path.{◌≡◌}
use mathlib.Core.List.{List}
use lib.ListN.{length}
use lib.Ieee.{Float}
use Rattle.vecmath.specs.Vector.{scale_of, axpby}
use Rattle.vecmath.proofs.Loops.{length_each}
use Rattle.soc_mul_hs.specs.Block.{mul_hs}

pub length_mul_hs : {n : ℕ} (x w : List Float) (η : Float) → length w ≡ n → length (mul_hs x w η) ≡ n
unfolding mul_hs scale_of axpby
length_mul_hs x w η e = simp (length_each) e
