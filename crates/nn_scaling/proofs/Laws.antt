-- What these calls write has its slice's length, for every n. Assumes nothing.
use mathlib.Core.Path.{◌≡◌}
use mathlib.Core.List.{List}
use lib.ListN.{length}
use lib.Ieee.{Float}
use Rattle.vecmath.proofs.Loops.{length_each}
use Rattle.nn_scaling.specs.Scaling.{nonneg_lambda, nonneg_w}

pub length_lambda : (s z : List Float) → length (nonneg_lambda s z) ≡ length s
unfolding nonneg_lambda
length_lambda s z = length_each _ _

pub length_w : (s z : List Float) → length (nonneg_w s z) ≡ length s
unfolding nonneg_w
length_w s z = length_each _ _
