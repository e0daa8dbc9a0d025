-- What these calls write has its slice's length, for every n. Assumes nothing.
use mathlib.Core.Path.{◌≡◌}
use mathlib.Core.List.{List}
use lib.ListN.{length}
use lib.Ieee.{Float}
use Rattle.vecmath.proofs.Loops.{length_each}
use Rattle.nn_products.specs.Products.{nonneg_mul_w, nonneg_mul_winv}

pub length_mul_w : (y x : List Float) (α β : Float) (w : List Float) → length (nonneg_mul_w y x α β w) ≡ length y
unfolding nonneg_mul_w
length_mul_w y x α β w = length_each _ _

pub length_mul_winv : (y x : List Float) (α β : Float) (w : List Float) → length (nonneg_mul_winv y x α β w) ≡ length y
unfolding nonneg_mul_winv
length_mul_winv y x α β w = length_each _ _
