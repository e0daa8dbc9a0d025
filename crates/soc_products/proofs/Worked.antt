-- Worked examples of the definitions, computed: one statement over one list. Assumes nothing.
use mathlib.Core.Path.{refl}
use mathlib.Core.List.{List, [], ◌∷◌}
use lib.Ieee.{Float, nan, round, of_bits, add, sub, mul, div, neg}
use Rattle.vecmath.specs.Double.{𝟎, 𝟏}
use Rattle.vecmath.specs.Vector.{each, fold_of, dot, axpby}
use Rattle.vecmath.proofs.Examples.{near, Line, ◌⇒◌, Right}
use Rattle.soc_products.specs.Product.{mul_w, mul_winv}

abbrev w : List Float
w = near 5 4 ∷ near 3 4 ∷ []

-- W·x and W⁻¹·x, into y with β = 0
abbrev times : (y x : List Float) → List Float
times y x = mul_w y x 𝟏 𝟎 w 𝟏

abbrev over : (y x : List Float) → List Float
over y x = mul_winv y x 𝟏 𝟎 w 𝟏

-- an old y, and one with a NaN, which comes through
abbrev y : List Float
y = near 7 1 ∷ near 9 1 ∷ []

abbrev y∙nan : List Float
y∙nan = near 7 1 ∷ nan ∷ []

lines : List (Line (List Float))
lines =
    (times y (near 5 1 ∷ near 3 1 ∷ []) ⇒ near 17 2 ∷ near 15 2 ∷ [])
    ∷ (over y (times y (near 5 1 ∷ near 3 1 ∷ [])) ⇒ near 5 1 ∷ near 3 1 ∷ [])
    ∷ (times y∙nan (near 5 1 ∷ near 3 1 ∷ []) ⇒ near 17 2 ∷ nan ∷ [])
    ∷ (over y∙nan (near 17 2 ∷ near 15 2 ∷ []) ⇒ near 5 1 ∷ nan ∷ [])
    ∷ []

worked : Right lines
unfolding lines mul_w mul_winv axpby dot each fold_of round of_bits add sub mul div neg
worked = refl
