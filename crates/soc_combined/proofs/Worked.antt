-- A worked example of the definition, computed. Assumes nothing.
use mathlib.Core.Path.{refl}
use mathlib.Core.List.{List, [], ◌∷◌}
use lib.Ieee.{round, of_bits, add, sub, mul, div, neg}
use Rattle.vecmath.specs.Double.{𝟏}
use Rattle.vecmath.specs.Vector.{each, fold_of, dot, axpby}
use Rattle.vecmath.proofs.Examples.{near, Line, ◌⇒◌, Right}
use Rattle.answers.specs.Outcome.{Contents, ◌⨾◌}
use Rattle.soc_units.specs.Units.{unit_shift}
use Rattle.soc_products.specs.Product.{mul_w, mul_winv}
use Rattle.soc_jordan.specs.Jordan.{circ}
use Rattle.soc_combined.specs.Combined.{combined_shift}

-- with w = (5/4, 3/4) and η = 1
lines : List (Line (Contents 3 0))
lines =
    (combined_shift (near 5 1 ∷ near 3 1 ∷ []) (near 17 2 ∷ near 15 2 ∷ []) 𝟏 (near 5 4 ∷ near 3 4 ∷ []) 𝟏
    ⇒ (near 64 1 ∷ near 63 1 ∷ []) ⨾ (near 17 2 ∷ near 15 2 ∷ []) ⨾ (near 5 1 ∷ near 3 1 ∷ []) ⨾ tt)
    ∷ []

worked : Right lines
unfolding lines combined_shift unit_shift mul_w mul_winv circ axpby dot each fold_of round of_bits add sub mul div neg
worked = refl
