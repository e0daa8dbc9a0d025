-- What these calls write has n entries, where what they are given has. Assumes nothing.
use Prim.Native.Nat.{ℕ, ◌≤◌}
use native.Mathlib.Omega.{arith}
use mathlib.Core.Path.{◌≡◌}
use mathlib.Core.List.{List}
use lib.ListN.{length, length-drop}
use lib.Ieee.{Float}
use Rattle.vecmath.specs.Vector.{axpby}
use Rattle.vecmath.proofs.Loops.{length_each}
use Rattle.soc_products.specs.Product.{mul_w, mul_winv}

pub length_mul_w : {n : ℕ} (y x : List Float) (α β : Float) (w : List Float) (η : Float) → 1 ≤ n → length x ≡ n → length (mul_w y x α β w η) ≡ n
unfolding mul_w axpby
length_mul_w y x α β w η h e = simp (length_each, length-drop) (omega arith)

pub length_mul_winv : {n : ℕ} (y x : List Float) (α β : Float) (w : List Float) (η : Float) → 1 ≤ n → length x ≡ n → length (mul_winv y x α β w η) ≡ n
unfolding mul_winv axpby
length_mul_winv y x α β w η h e = simp (length_each, length-drop) (omega arith)
