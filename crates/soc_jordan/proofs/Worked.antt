-- Worked examples of the definitions, computed: one statement over one list. Assumes nothing.
use mathlib.Core.Path.{refl}
use mathlib.Core.List.{List, [], ◌∷◌}
use lib.Ieee.{Float, nan, round, of_bits, add, sub, mul}
use Rattle.vecmath.specs.Vector.{each, fold_of, dot, axpby}
use Rattle.vecmath.proofs.Examples.{near, minus, Line, ◌⇒◌, Right}
use Rattle.soc_jordan.specs.Jordan.{circ}

abbrev y : List Float
y = near 5 1 ∷ near 3 1 ∷ []

lines : List (Line (List Float))
lines =
    (circ y (near 5 4 ∷ minus 3 4 ∷ []) ⇒ near 4 1 ∷ near 0 1 ∷ [])
    ∷ (circ y (near 2 1 ∷ near 4 1 ∷ []) ⇒ near 22 1 ∷ near 26 1 ∷ [])
    ∷ (circ (nan ∷ near 3 1 ∷ []) (near 5 4 ∷ minus 3 4 ∷ []) ⇒ nan ∷ nan ∷ [])
    ∷ []

worked : Right lines
unfolding lines circ axpby dot each fold_of round of_bits add sub mul
worked = refl
