-- Worked examples of the definition, computed: one statement over one list. Assumes nothing.
use mathlib.Core.Path.{refl}
use mathlib.Core.List.{List, [], ◌∷◌}
use lib.Ieee.{nan, round, of_bits, add, mul, div, neg}
use Rattle.vecmath.specs.Double.{𝟏}
use Rattle.vecmath.specs.Vector.{each, translate, products}
use Rattle.vecmath.proofs.Examples.{near, Line, ◌⇒◌, Right}
use Rattle.answers.specs.Outcome.{Contents, ◌⨾◌}
use Rattle.nn_products.specs.Products.{nonneg_mul_w, nonneg_mul_winv}
use Rattle.nn_combined.specs.Combined.{nonneg_combined_shift}

-- with w = (2), where a NaN of Δz stays out of Δs
lines : List (Line (Contents 3 0))
lines =
    (nonneg_combined_shift (near 3 1 ∷ []) (near 8 1 ∷ []) 𝟏 (near 2 1 ∷ []) ⇒ (near 23 1 ∷ []) ⨾ (near 6 1 ∷ []) ⨾ (near 4 1 ∷ []) ⨾ tt)
    ∷ (nonneg_combined_shift (nan ∷ []) (near 8 1 ∷ []) 𝟏 (near 2 1 ∷ []) ⇒ (nan ∷ []) ⨾ (nan ∷ []) ⨾ (near 4 1 ∷ []) ⨾ tt)
    ∷ []

worked : Right lines
unfolding lines nonneg_combined_shift nonneg_mul_w nonneg_mul_winv translate products each round of_bits add mul div neg
worked = refl
