-- The condition of demand 3 is needed: a nonnegative entry below zero, a limit below zero, and a boundary cone whose 0 beats it. Computed.
-- Assumes nothing.
use mathlib.Core.Path.{◌≡◌, refl}
use mathlib.Core.Bool.{true, false}
use mathlib.Core.List.{List, [], ◌∷◌, map}
use lib.Ieee.{Float, nan, neg, round, of_bits, lt, le, eq, is_nan, add, sub, mul, div}
use Rattle.extrema.specs.Extrema.{picked, least_of, greatest_of}
use Rattle.root.specs.Root.{root}
use Rattle.vecmath.specs.Double.{𝟎, ∞}
use Rattle.vecmath.specs.Vector.{each, fold_of, dot}
use Rattle.vecmath.proofs.Examples.{near, minus}
use Rattle.answers.specs.Refusal.{bad_limit}
use Rattle.soc_residual.specs.Residual.{residual}
use Rattle.soc_step.specs.Step.{forward, turn, lowered, zero_curvature, roots, branches, soc_step_by}
use Rattle.nn_step.specs.Step.{nonneg_step}
use Rattle.conelist.specs.declared.Kind.TheVariants.{Nonnegative, SecondOrder}
use Rattle.conelist.specs.declared.Cone.{Cone}
use Rattle.conelist.specs.Layout.{part_of}
use Rattle.list_step.specs.Step.{kind_step_by}
use Rattle.whole_step.specs.List.{side_step}
use Rattle.orders.specs.Sides.{cone_indices, handed_step, handed_limits, passed_step, passed_limits}

-- a nonnegative cone of one entry, and behind it a second-order cone of two
abbrev pub cones : List Cone
cones = record { start = 0; kind = Nonnegative 1 } ∷ record { start = 1; kind = SecondOrder 2 } ∷ []

-- the point −1 | (1, 1), along −1 | (0, −1): document 01's last worked line is the second cone
abbrev pub point : List Float
point = minus 1 1 ∷ near 1 1 ∷ near 1 1 ∷ []

abbrev pub along : List Float
along = minus 1 1 ∷ near 0 1 ∷ minus 1 1 ∷ []

abbrev pub limit : Float
limit = near 1 1

-- the list's step is −1. With each answer handed on, the second cone gets the limit −1, which the call refuses (6), and its rule answers 0; −1
-- again where the least of limit and answer is taken, but the limit is refused there too
pub needed : (side_step least_of cones point along limit ≡ minus 1 1)
    × (passed_step cones point along (cone_indices cones) limit ≡ near 0 1)
    × (handed_step cones point along (cone_indices cones) limit ≡ minus 1 1)
    × (eq (passed_step cones point along (cone_indices cones) limit) (side_step least_of cones point along limit) ≡ false)
    × (map bad_limit (passed_limits cones point along (cone_indices cones) limit) ≡ 0 ∷ 6 ∷ [])
    × (map bad_limit (handed_limits cones point along (cone_indices cones) limit) ≡ 0 ∷ 6 ∷ [])
unfolding each part_of kind_step_by nonneg_step soc_step_by branches roots zero_curvature lowered turn forward residual least_of greatest_of picked root fold_of dot bad_limit round of_bits lt le eq is_nan add sub mul div neg
needed = (refl, refl, refl, refl, refl, refl)

-- limits that are zero or more, and one that is not: +0, −0, infinity; NaN
pub edges : map (le 𝟎) (𝟎 ∷ neg 𝟎 ∷ ∞ ∷ nan ∷ []) ≡ true ∷ true ∷ true ∷ false ∷ []
unfolding le lt eq neg of_bits
edges = refl
