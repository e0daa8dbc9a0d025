-- Unit shift and unit initialisation keep the length; what unit initialisation comes to. Assumes nothing.
use Prim.Native.Nat.{ℕ, ◌≤◌}
use mathlib.Core.Path.{◌≡◌, refl}
use mathlib.Core.List.{List}
use native.Mathlib.Omega.{arith}
use lib.ListN.{length, length-drop}
use lib.Ieee.{Float, nan, add, of_bits}
use Rattle.vecmath.specs.Double.{𝟎, 𝟏}
use Rattle.vecmath.specs.Vector.{constant}
use Rattle.vecmath.proofs.Loops.{length_each, each_at}
use Rattle.tails.specs.Tail.{leading}
use Rattle.soc_units.specs.Units.{unit_shift, unit_vector}

pub length_unit_shift : {n : ℕ} (z : List Float) (α : Float) → 1 ≤ n → length z ≡ n → length (unit_shift z α) ≡ n
unfolding unit_shift
length_unit_shift z α h e = simp (length-drop) (omega arith)

pub length_unit_vector : (n : ℕ) → 2 ≤ n → length (unit_vector n) ≡ n
unfolding leading constant
length_unit_vector n h = simp (length-drop, length_each) (omega arith)

-- +0 everywhere, then shifted by 1
pub unit_leads : (n : ℕ) → 1 ≤ n → unit_shift (constant n 𝟎) 𝟏 ≡ unit_vector n
unfolding unit_shift leading constant
unit_leads n h = rw (each_at nan n (λ k. 𝟎) 0 (omega arith)) (unfold add of_bits in refl)
