-- Document 01's lines of the second-order step, as document 02, item 3, changes them, computed: one statement over one list. Assumes nothing.
use Prim.Native.Nat.{◌^◌}
use mathlib.Core.Path.{refl}
use mathlib.Core.List.{List, [], ◌∷◌}
use mathlib.Core.Bool.{false}
use lib.Ieee.{Float, nan, inf, neg, round, of_bits, lt, le, eq, is_nan, add, sub, mul, div}
use Rattle.extrema.specs.Extrema.{picked, least_of, greatest_of}
use Rattle.root.specs.Root.{root}
use Rattle.vecmath.specs.Vector.{fold_of, dot}
use Rattle.vecmath.proofs.Examples.{near, minus, Line, ◌⇒◌, Right}
use Rattle.answers.specs.Refusal.{◌⊳◌, bad_dimension, unlike, bad_limit}
use Rattle.answers.specs.Outcome.{Reply, number, Ruling, gives, refuses, call_of}
use Rattle.soc_residual.specs.Residual.{residual}
use Rattle.soc_step.specs.Step.{forward, turn, lowered, zero_curvature, roots, branches, soc_step_by, soc_step}

-- x along y, with a limit
abbrev step : List Float → List Float → Float → Ruling Reply
step x y αmax = (soc_step x y αmax).ruling

abbrev 0·0 : Float
0·0 = near 0 1

abbrev 1·0 : Float
1·0 = near 1 1

lines : List (Line (Ruling Reply))
lines =
    (step (near 5 1 ∷ 0·0 ∷ []) (0·0 ∷ 1·0 ∷ []) (near 10 1) ⇒ gives (number (near 5 1)))
    -- a direction of residual 0 and b below 0: −c/b, where the first entries lower the limit to 1 and −c/b is a half; a limit below that;
    -- a lowered limit below −c/b, which is infinity since c is; and −c/b a NaN, of two infinities
    ∷ (step (1·0 ∷ 0·0 ∷ []) (minus 1 1 ∷ 1·0 ∷ []) 1·0 ⇒ gives (number (near 1 2)))
    ∷ (step (1·0 ∷ 0·0 ∷ []) (minus 1 1 ∷ 1·0 ∷ []) (near 10 1) ⇒ gives (number (near 1 2)))
    ∷ (step (1·0 ∷ 0·0 ∷ []) (minus 1 1 ∷ 1·0 ∷ []) (near 1 4) ⇒ gives (number (near 1 4)))
    ∷ (step (near (2 ^ 600) 1 ∷ 0·0 ∷ []) (minus 1 1 ∷ 1·0 ∷ []) (inf false) ⇒ gives (number (near (2 ^ 600) 1)))
    ∷ (step (near (2 ^ 600) 1 ∷ 0·0 ∷ []) (minus (2 ^ 500) 1 ∷ near (2 ^ 500) 1 ∷ []) (inf false) ⇒ gives (number (near (2 ^ 100) 1)))
    -- and b 0, of no direction
    ∷ (step (1·0 ∷ 0·0 ∷ []) (0·0 ∷ 0·0 ∷ []) (near 7 1) ⇒ gives (number (near 7 1)))
    ∷ (step (1·0 ∷ 1·0 ∷ []) (0·0 ∷ minus 1 1 ∷ []) 1·0 ⇒ gives (number 0·0))
    -- the fault that is kept: docs/DIFFERENCES.md
    ∷ (step (1·0 ∷ 1·0 ∷ []) (minus 1 1 ∷ 0·0 ∷ []) 1·0 ⇒ gives (number 1·0))
    ∷ (step (nan ∷ 1·0 ∷ []) (0·0 ∷ 0·0 ∷ []) (near 7 1) ⇒ gives (number (near 7 1)))
    ∷ (step (1·0 ∷ 0·0 ∷ []) (minus 1 1 ∷ 0·0 ∷ []) (inf false) ⇒ gives (number 1·0))
    ∷ (step (1·0 ∷ 0·0 ∷ []) (1·0 ∷ 0·0 ∷ []) (minus 0 1) ⇒ gives (number (minus 0 1)))
    ∷ (step (1·0 ∷ []) (1·0 ∷ []) 1·0 ⇒ refuses 1)
    ∷ (step (1·0 ∷ 0·0 ∷ []) (1·0 ∷ []) nan ⇒ refuses 5)
    ∷ (step (1·0 ∷ 0·0 ∷ []) (1·0 ∷ 0·0 ∷ []) nan ⇒ refuses 6)
    ∷ (step (1·0 ∷ 0·0 ∷ []) (1·0 ∷ 0·0 ∷ []) (minus 1 1) ⇒ refuses 6)
    ∷ []

worked : Right lines
unfolding lines soc_step_by branches roots zero_curvature lowered turn forward residual least_of greatest_of picked root fold_of dot call_of ◌⊳◌ bad_dimension unlike bad_limit round of_bits lt le eq is_nan add sub mul div neg
worked = refl
