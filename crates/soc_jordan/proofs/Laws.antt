-- What these calls write has n entries, where what they are given has. Assumes nothing.
use Prim.Native.Nat.{ℕ, ◌≤◌}
use native.Mathlib.Omega.{arith}
use mathlib.Core.Path.{◌≡◌}
use mathlib.Core.List.{List}
use lib.ListN.{length, length-drop}
use lib.Ieee.{Float}
use Rattle.vecmath.specs.Vector.{axpby}
use Rattle.vecmath.proofs.Loops.{length_each}
use Rattle.soc_jordan.specs.Jordan.{circ}

pub length_circ : {n : ℕ} (y z : List Float) → 1 ≤ n → length z ≡ n → length (circ y z) ≡ n
unfolding circ axpby
length_circ y z h e = simp (length_each, length-drop) (omega arith)
