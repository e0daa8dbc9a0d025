-- Worked examples of the definition, computed: one statement over one list. Assumes nothing.
use mathlib.Core.Path.{refl}
use mathlib.Core.List.{List, [], ◌∷◌}
use lib.Ieee.{Float, nan, round, of_bits, add, sub, mul, neg}
use Rattle.vecmath.specs.Double.{𝟐}
use Rattle.vecmath.specs.Vector.{each, fold_of, dot, scale_of, axpby}
use Rattle.vecmath.proofs.Examples.{near, Line, ◌⇒◌, Right}
use Rattle.soc_mul_hs.specs.Block.{mul_hs}

abbrev w : List Float
w = near 5 4 ∷ near 3 4 ∷ []

lines : List (Line (List Float))
lines =
    (mul_hs (near 5 1 ∷ near 3 1 ∷ []) w 𝟐 ⇒ near 65 1 ∷ near 63 1 ∷ [])
    ∷ (mul_hs (near 5 1 ∷ nan ∷ []) w 𝟐 ⇒ nan ∷ nan ∷ [])
    ∷ []

worked : Right lines
unfolding lines mul_hs scale_of axpby dot each fold_of round of_bits add sub mul neg
worked = refl
