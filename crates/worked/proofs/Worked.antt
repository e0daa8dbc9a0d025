-- Document 01, "Small examples": the lines marked T, as one statement over one list of them; the step along (−1, 1) as document 02, item 3,
-- changes it, and the late false as item 4 does. Assumes nothing.
use Prim.Native.Nat.{ℕ, zero, suc}
use mathlib.Core.Path.{◌≡◌, refl, ap}
use mathlib.Core.Bool.{Bool, true, false}
use mathlib.Core.List.{List, [], ◌∷◌}
use lib.ListN.{get_or, drop}
use lib.IntN.{negsuc}
use lib.Ieee.{Float, nan, fin, neg, binary64, round, of_bits, lt, le, eq, is_nan, add, sub, mul, div}
use Rattle.extrema.specs.Extrema.{picked, least_of, greatest_of}
use Rattle.root.specs.Root.{root}
use Rattle.vecmath.specs.Vector.{each, fold_of, dot, scale_of, axpby}
use Rattle.vecmath.proofs.Examples.{near, minus, Line, ◌⇒◌, Right}
use Rattle.answers.specs.declared.Standing.TheVariants.{Mirrored}
use Rattle.answers.specs.Refusal.{◌⊳◌, bad_dimension, unlike, bad_limit}
use Rattle.answers.specs.Outcome.{Reply, number, truth, stands, gives, Outcome, Contents, Came, call_of}
use Rattle.answers.proofs.Laws.{and_more}
use Rattle.soc_residual.specs.Residual.{residual, root_scale, soc_residual}
use Rattle.soc_terms.specs.Terms.{point_of, normed_of, lambda_of}
use Rattle.soc_scaling.specs.Scaling.{stored, update_scaling, soc_update_scaling}
use Rattle.soc_step.specs.Step.{forward, turn, lowered, zero_curvature, roots, branches, soc_step_by, soc_step}
use Rattle.nn_step.specs.Step.{nonneg_step, nn_step}
use Rattle.standing.specs.Standing.{soc_standing, soc_stands}

-- contents as a list, a single number as a list of one, so that every line is of one type; no two contents have the same
abbrev listed : (n m : ℕ) → Contents n m → List (List Float)
listed (suc n) m t = t.0 ∷ listed n m t.1
listed zero (suc m) t = (t.0 ∷ []) ∷ listed zero m t.1
listed zero zero t = []

one_listed : (n m : ℕ) (s t : Contents n m) → listed n m s ≡ listed n m t → s ≡ t
one_listed (suc n) m s t e = and_more (ap (λ l. get_or l 0 []) e) (one_listed n m s.1 t.1 (ap (drop 1) e))
one_listed zero (suc m) s t e = and_more (ap (λ l. get_or (get_or l 0 []) 0 nan) e) (one_listed zero m s.1 t.1 (ap (drop 1) e))
one_listed zero zero s t e = refl

abbrev Shown : Type 0
Shown = Outcome Reply (List (List Float))

abbrev of : (n m : ℕ) → Came n m → Shown
of n m came = record { ruling = came.ruling; holds = listed n m came.holds }

-- what a call gives, with the contents
abbrev answer : Reply → List (List Float) → Shown
answer reply holds = record { ruling = gives reply; holds = holds }

-- the root
infix 30 √◌
abbrev √◌ : Float → Shown
√ x = answer (number (root x)) []

abbrev is : Float → Shown
is x = answer (number x) []

abbrev bits : ℕ → Float
bits b = of_bits binary64 b

-- vectors of one, two and three whole numbers
abbrev one : Float → List Float
one a = a ∷ []

abbrev two : Float → Float → List Float
two a b = a ∷ b ∷ []

abbrev twice : ℕ → List Float
twice n = two (near n 1) (near n 1)

abbrev three : Float → Float → Float → List Float
three a b c = a ∷ b ∷ c ∷ []

abbrev 0·0 : Float
0·0 = near 0 1

abbrev 1·0 : Float
1·0 = near 1 1

-- scaling a dense cone that stores w = (9, 9), lambda = (7, 7), u = (5, 5), v = (3, 3), η = 0, d = 1
abbrev scale : List Float → List Float → Shown
scale s z = of 4 2 (soc_update_scaling s z (twice 9) (twice 7) (twice 5) (twice 3) 0·0 1·0)

-- true or false; then η, w and lambda, the rest as it was
abbrev scaled : Bool → Float → List Float → List Float → Shown
scaled t η w lambda = answer (truth t) (listed 4 2 (stored w lambda (twice 5) (twice 3) η 1·0))

lines : List (Line Shown)
lines =
    (√ 0·0 ⇒ is 0·0)
    ∷ (√ minus 0 1 ⇒ is (minus 0 1))
    ∷ (√ near 2 1 ⇒ is (bits 0x3FF6_A09E_667F_3BCD))
    ∷ (√ fin false 1 (negsuc 1073) ⇒ is (fin false 1 (negsuc 536)))
    ∷ (√ bits 0x7FEF_FFFF_FFFF_FFFF ⇒ is (bits 0x5FEF_FFFF_FFFF_FFFF))
    ∷ (of 0 0 (soc_residual (two (minus 2 1) 0·0)) ⇒ is (near 4 1))
    ∷ (of 0 0 (soc_stands (two (minus 2 1) 0·0)) ⇒ answer (stands Mirrored) [])
    ∷ (scale (two (near 5 1) (near 3 1)) (two (near 5 1) (minus 3 1)) ⇒ scaled true 1·0 (two (near 5 4) (near 3 4)) (two (near 4 1) 0·0))
    ∷ (scale (two (near 2 1) 0·0) (two (minus 2 1) 0·0) ⇒ scaled false 0·0 (twice 9) (twice 7))
    ∷ (scale (two (minus 2 1) 0·0) (two (minus 2 1) 0·0) ⇒ scaled true 1·0 (two 1·0 0·0) (two (near 2 1) nan))
    ∷ (of 0 0 (nn_step (three (near 4 1) 1·0 (near 9 1)) (three (minus 1 1) (near 2 1) (minus 3 1)) (near 10 1)) ⇒ is (near 3 1))
    ∷ (of 0 0 (nn_step (one nan) (one (minus 1 1)) 1·0) ⇒ is 1·0)
    ∷ (of 0 0 (soc_step (two (near 5 1) 0·0) (two 0·0 1·0) (near 10 1)) ⇒ is (near 5 1))
    ∷ (of 0 0 (soc_step (two 1·0 0·0) (two (minus 1 1) 1·0) 1·0) ⇒ is (near 1 2))
    ∷ (of 0 0 (soc_step (two 1·0 1·0) (two 0·0 (minus 1 1)) 1·0) ⇒ is 0·0)
    ∷ []

worked : Right lines
unfolding lines root soc_standing residual root_scale update_scaling point_of normed_of lambda_of nonneg_step soc_step_by branches roots zero_curvature lowered turn forward least_of greatest_of picked each fold_of dot scale_of axpby call_of ◌⊳◌ bad_dimension unlike bad_limit round of_bits lt le eq is_nan add sub mul div neg
worked = refl
