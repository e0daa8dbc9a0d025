-- Worked examples of the helpers, computed: one statement over one list. Assumes nothing.
use mathlib.Core.Path.{refl}
use mathlib.Core.List.{List, [], ◌∷◌}
use lib.Ieee.{Float, nan, round, of_bits, add, sub, mul, div, neg}
use Rattle.vecmath.specs.Double.{𝟎, 𝟏, 𝟐}
use Rattle.vecmath.specs.Vector.{each, fold_of, dot, negated, scale_of, translate, axpby, products, quotients}
use Rattle.vecmath.proofs.Examples.{near, minus, Line, ◌⇒◌, Right}

-- 3 and NaN, 4 and 8
abbrev x : List Float
x = near 3 1 ∷ nan ∷ []

abbrev y : List Float
y = near 4 1 ∷ near 8 1 ∷ []

-- a NaN comes through, also a zero factor; a sum is of all entries
lines : List (Line (List Float))
lines =
    (negated x ⇒ minus 3 1 ∷ nan ∷ [])
    ∷ (scale_of 𝟐 x ⇒ near 6 1 ∷ nan ∷ [])
    ∷ (translate 𝟐 y ⇒ near 6 1 ∷ near 10 1 ∷ [])
    ∷ (axpby 𝟐 y 𝟏 x ⇒ near 11 1 ∷ nan ∷ [])
    ∷ (axpby 𝟐 y 𝟎 x ⇒ near 8 1 ∷ nan ∷ [])
    ∷ (products x y ⇒ near 12 1 ∷ nan ∷ [])
    ∷ (quotients y y ⇒ 𝟏 ∷ 𝟏 ∷ [])
    ∷ (dot y y ∷ dot x y ∷ [] ⇒ near 80 1 ∷ nan ∷ [])
    ∷ []

worked : Right lines
unfolding lines negated scale_of translate axpby products quotients dot each fold_of round of_bits add sub mul div neg
worked = refl
