-- Worked examples of the definition, computed: one statement over one list. Assumes nothing.
use mathlib.Core.Path.{refl}
use mathlib.Core.List.{List, [], ◌∷◌}
use lib.Ieee.{Float, nan, round, of_bits, add, sub, mul, div}
use Rattle.root.specs.Root.{root}
use Rattle.vecmath.specs.Vector.{each, fold_of, dot, axpby}
use Rattle.vecmath.proofs.Examples.{near, minus, Line, ◌⇒◌, Right}
use Rattle.soc_residual.specs.Residual.{residual}
use Rattle.soc_jordan.specs.Jordan.{circ}
use Rattle.soc_inverse.specs.Inverse.{inv_circ}

-- 5 and 3 have the residual 16
abbrev y : List Float
y = near 5 1 ∷ near 3 1 ∷ []

lines : List (Line (List Float))
lines =
    (inv_circ y (circ y (near 5 1 ∷ minus 2 1 ∷ [])) ⇒ near 5 1 ∷ minus 2 1 ∷ [])
    ∷ (inv_circ y (nan ∷ near 3 1 ∷ []) ⇒ nan ∷ nan ∷ [])
    ∷ []

worked : Right lines
unfolding lines circ inv_circ residual axpby dot each fold_of root round of_bits add sub mul div
worked = refl
