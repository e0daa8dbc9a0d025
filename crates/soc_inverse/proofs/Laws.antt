-- What these calls write has n entries, where what they are given has. Assumes nothing.
use Prim.Native.Nat.{ℕ, ◌≤◌}
use native.Mathlib.Omega.{arith}
use mathlib.Core.Path.{◌≡◌}
use mathlib.Core.List.{List}
use lib.ListN.{length, length-drop}
use lib.Ieee.{Float}
use Rattle.vecmath.specs.Vector.{axpby}
use Rattle.vecmath.proofs.Loops.{length_each}
use Rattle.soc_inverse.specs.Inverse.{inv_circ}

pub length_inv_circ : {n : ℕ} (y z : List Float) → 1 ≤ n → length y ≡ n → length (inv_circ y z) ≡ n
unfolding inv_circ axpby
length_inv_circ y z h e = simp (length_each, length-drop) (omega arith)
