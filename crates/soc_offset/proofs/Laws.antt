-- What the call writes has n entries, where what it is given has. Assumes nothing.
use Prim.Native.Nat.{ℕ, ◌≤◌}
use native.Mathlib.Omega.{arith}
use mathlib.Core.Path.{◌≡◌}
use mathlib.Core.List.{List}
use lib.ListN.{length, length-drop}
use lib.Ieee.{Float}
use Rattle.vecmath.specs.Vector.{negated, scale_of}
use Rattle.vecmath.proofs.Loops.{length_each}
use Rattle.soc_offset.specs.Offset.{add_offset, offset_of}

pub length_offset : {n : ℕ} (ds z w lambda : List Float) (η : Float) → 1 ≤ n → length z ≡ n → length (offset_of ds z w lambda η) ≡ n
unfolding offset_of add_offset scale_of negated
length_offset ds z w lambda η h e = simp (length_each, length-drop) (omega arith)
