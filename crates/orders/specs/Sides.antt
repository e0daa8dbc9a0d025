-- One side's step over a list, for any order in which the cones are visited, and the condition of demand 3. Assumes nothing.
use Rattle.std.specs.Prelude.{ℕ, List, map, length, Float}
use Rattle.extrema.specs.Extrema.{least_of}
use Rattle.vecmath.specs.Vector.{each}
use Rattle.ordering.specs.Upto.{handed_of, least_limits, list_step, passed_of, limits_of}
use Rattle.nn_step.specs.Step.{NoneBelow}
use Rattle.conelist.specs.declared.Kind.{Kind}
use Rattle.conelist.specs.declared.Kind.TheVariants.{Nonnegative, SecondOrder}
use Rattle.conelist.specs.declared.Cone.{Cone}
use Rattle.conelist.specs.Layout.{kind_of_cone, laid_at, range_of}
use Rattle.whole_step.specs.List.{step_of_cone}

-- the cones of a list in its own order: 0, 1, 2, ..
abbrev pub cone_indices : List Cone → List ℕ
cone_indices list = each (length list) (λ k. k)

-- a side is a point z and its direction dz: z along dz, or s along ds
module _ (list : List Cone) (z dz : List Float) where
  -- each cone's own step, by its limit, in the order ks in which the cones are visited
  abbrev pub steps_by : (ks : List ℕ) → List (Float → Float)
  steps_by ks = map (step_of_cone least_of list z dz) ks

  -- "each cone gets the caller's αmax, and each side's least is the answer"
  abbrev pub visited_step : (ks : List ℕ) (αmax : Float) → Float
  visited_step ks αmax = list_step least_of αmax (steps_by ks)

  -- each cone gets the least so far as its limit. The limits that the cones get so
  abbrev pub handed_step : (ks : List ℕ) (αmax : Float) → Float
  handed_step ks αmax = handed_of least_of αmax (steps_by ks)

  abbrev pub handed_limits : (ks : List ℕ) (αmax : Float) → List Float
  handed_limits ks αmax = least_limits least_of αmax (steps_by ks)

  -- each cone gets the answer of the one before, and no least is taken: the last answer counts. The limits that the cones get so
  abbrev pub passed_step : (ks : List ℕ) (αmax : Float) → Float
  passed_step ks αmax = passed_of αmax (steps_by ks)

  abbrev pub passed_limits : (ks : List ℕ) (αmax : Float) → List Float
  passed_limits ks αmax = limits_of αmax (steps_by ks)

-- "no nonnegative-cone entry of the points is below zero"
abbrev pub NonnegAt : Kind → List Float → Type 0
NonnegAt (Nonnegative n) z = NoneBelow z
NonnegAt (SecondOrder n) z = Unit {0}

abbrev pub NonnegEntries : List Cone → List Float → Type 0
NonnegEntries list z = (k : ℕ) → NonnegAt (kind_of_cone list k) (range_of (laid_at list k) z)
