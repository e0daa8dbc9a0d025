-- A worked example of the definition, computed: w = (5/4, 3/4) and η = 1 are the scaling of s = (5, 3) and z = (5, −3), whose lambda is
-- (4, 0). So W·(lambda \ ds) is (7/2, 9/2) for ds = (4, 12). Assumes nothing.
use mathlib.Core.Path.{refl}
use mathlib.Core.List.{List, [], ◌∷◌}
use lib.Ieee.{Float, nan, round, of_bits, add, sub, mul, div, neg}
use Rattle.root.specs.Root.{root}
use Rattle.vecmath.specs.Double.{𝟏}
use Rattle.vecmath.specs.Vector.{each, fold_of, dot, scale_of, negated}
use Rattle.vecmath.proofs.Examples.{near, minus, Line, ◌⇒◌, Right}
use Rattle.soc_residual.specs.Residual.{residual}
use Rattle.soc_offset.specs.Offset.{add_offset, offset_of}

abbrev offset : List Float → List Float
offset ds = offset_of ds (near 5 1 ∷ minus 3 1 ∷ []) (near 5 4 ∷ near 3 4 ∷ []) (near 4 1 ∷ near 0 1 ∷ []) 𝟏

lines : List (Line (List Float))
lines =
    (offset (near 4 1 ∷ near 12 1 ∷ []) ⇒ near 7 2 ∷ near 9 2 ∷ [])
    ∷ (offset (nan ∷ near 12 1 ∷ []) ⇒ nan ∷ nan ∷ [])
    ∷ []

worked : Right lines
unfolding lines offset_of add_offset residual scale_of negated dot each fold_of root round of_bits add sub mul div neg
worked = refl
