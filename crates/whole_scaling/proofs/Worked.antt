-- Lines of a whole list's scaling (document 02, item 1), computed: one statement over one list. Assumes nothing.
use Prim.Native.Nat.{ℕ}
use mathlib.Core.Path.{refl}
use mathlib.Core.List.{List, [], ◌∷◌}
use lib.ListN.{replicate}
use lib.Ieee.{Float, round, of_bits, add, sub, mul, div, neg, eq, lt}
use Rattle.root.specs.Root.{root}
use Rattle.vecmath.specs.Vector.{each, fold_of, dot, scale_of, axpby}
use Rattle.vecmath.proofs.Examples.{near, minus, Line, ◌⇒◌, Right}
use Rattle.answers.specs.Refusal.{◌⊳◌, bad_dimension, unlike}
use Rattle.answers.specs.Outcome.{Scaled, all_true, false_at, Ruling, gives, refuses, Outcome, call_of, ◌⨾◌}
use Rattle.soc_residual.specs.Residual.{residual, root_scale}
use Rattle.soc_terms.specs.Terms.{point_of, normed_of, lambda_of}
use Rattle.soc_scaling.specs.Scaling.{update_scaling}
use Rattle.nn_scaling.specs.Scaling.{nonneg_lambda, nonneg_w}
use Rattle.conelist.specs.declared.Kind.{Kind}
use Rattle.conelist.specs.declared.Kind.TheVariants.{Nonnegative, SecondOrder}
use Rattle.conelist.specs.declared.Cone.{Cone}
use Rattle.conelist.specs.Layout.{bad_record, place_of, carried, misplaced, part_of, with_part}
use Rattle.list_scaling.specs.Scaling.{kind_scaling}
use Rattle.whole_scaling.specs.List.{Written, behind_of, unless, list_update_scaling}

abbrev at : ℕ → Kind → Cone
at start kind = record { start = start; kind = kind }

-- a whole number, and its negative
abbrev p : ℕ → Float
p n = near n 1

abbrev m : ℕ → Float
m n = minus n 1

-- three cones of five entries in all
abbrev three : List Cone
three = at 0 (SecondOrder 2) ∷ at 2 (Nonnegative 1) ∷ at 3 (SecondOrder 2) ∷ []

-- what was stored is told from what is written
abbrev scale : List Cone → (s z : List Float) → Outcome Scaled Written
scale cs s z = list_update_scaling cs s z (replicate 5 (p 11)) (replicate 5 (p 13)) (replicate 5 (p 15)) (replicate 5 (p 17)) (replicate 3 (p 19)) (replicate 3 (p 20)) (0 ∷ 1 ∷ 7 ∷ [])

abbrev came : Ruling Scaled → (w lambda η : List Float) (marks : List ℕ) → Outcome Scaled Written
came ruling w lambda η marks = record { ruling = ruling; holds = w ⨾ lambda ⨾ replicate 5 (p 15) ⨾ replicate 5 (p 17) ⨾ η ⨾ replicate 3 (p 20) ⨾ marks ⨾ tt }

-- all as it was
abbrev left : Ruling Scaled → Outcome Scaled Written
left ruling = came ruling (replicate 5 (p 11)) (replicate 5 (p 13)) (replicate 3 (p 19)) (0 ∷ 1 ∷ 7 ∷ [])

-- of no cones, s being as long as that
abbrev none : List Float → Outcome Scaled Written
none s = list_update_scaling [] s [] [] [] [] [] [] [] []

lines : List (Line (Outcome Scaled Written))
lines =
    -- every cone answers true; a nonnegative one has no η
    (scale three (p 5 ∷ p 3 ∷ p 4 ∷ p 5 ∷ p 3 ∷ []) (p 5 ∷ m 3 ∷ p 1 ∷ p 5 ∷ m 3 ∷ [])
    ⇒ came (gives all_true) (near 5 4 ∷ near 3 4 ∷ p 2 ∷ near 5 4 ∷ near 3 4 ∷ []) (p 4 ∷ p 0 ∷ p 2 ∷ p 4 ∷ p 0 ∷ []) (p 1 ∷ p 19 ∷ p 1 ∷ []) (2 ∷ 2 ∷ 2 ∷ []))
    -- an early false of the last cone: those before it are written and marked, it is not
    ∷ (scale three (p 5 ∷ p 3 ∷ p 4 ∷ p 1 ∷ p 1 ∷ []) (p 5 ∷ m 3 ∷ p 1 ∷ p 5 ∷ m 3 ∷ [])
    ⇒ came (gives (false_at 2)) (near 5 4 ∷ near 3 4 ∷ p 2 ∷ p 11 ∷ p 11 ∷ []) (p 4 ∷ p 0 ∷ p 2 ∷ p 13 ∷ p 13 ∷ []) (p 1 ∷ p 19 ∷ p 19 ∷ []) (2 ∷ 2 ∷ 7 ∷ []))
    -- a late false of the first: nothing is written (document 02, item 4)
    ∷ (scale three (p 2 ∷ p 0 ∷ p 4 ∷ p 5 ∷ p 3 ∷ []) (m 2 ∷ p 0 ∷ p 1 ∷ p 5 ∷ m 3 ∷ []) ⇒ left (gives (false_at 0)))
    -- an empty list answers true
    ∷ (none [] ⇒ record { ruling = gives all_true; holds = [] ⨾ [] ⨾ [] ⨾ [] ⨾ [] ⨾ [] ⨾ [] ⨾ tt })
    -- the refusals: of the last record, 1 and 3; then 5, which no cone must meet
    ∷ (scale (at 0 (SecondOrder 2) ∷ at 2 (Nonnegative 2) ∷ at 4 (SecondOrder 1) ∷ []) (replicate 5 (p 1)) (replicate 5 (p 1)) ⇒ left (refuses 1))
    ∷ (scale (at 0 (SecondOrder 2) ∷ at 2 (Nonnegative 1) ∷ at 4 (SecondOrder 2) ∷ []) (replicate 5 (p 1)) (replicate 5 (p 1)) ⇒ left (refuses 3))
    ∷ (scale three (replicate 5 (p 1)) (replicate 4 (p 1)) ⇒ left (refuses 5))
    ∷ (none (p 1 ∷ []) ⇒ record { ruling = refuses 5; holds = [] ⨾ [] ⨾ [] ⨾ [] ⨾ [] ⨾ [] ⨾ [] ⨾ tt })
    ∷ []

worked : Right lines
unfolding lines behind_of unless call_of place_of carried misplaced part_of with_part bad_record ◌⊳◌ bad_dimension unlike kind_scaling nonneg_lambda nonneg_w update_scaling point_of normed_of lambda_of root_scale residual root scale_of axpby dot each fold_of round of_bits add sub mul div neg eq lt
worked = refl
