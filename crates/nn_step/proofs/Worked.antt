-- Document 01's worked lines of the nonnegative step, and lines at its edges, computed: one statement over one list. Assumes nothing.
use Prim.Native.Nat.{ℕ}
use mathlib.Core.Path.{refl}
use mathlib.Core.List.{List, [], ◌∷◌}
use lib.Ieee.{Float, nan, neg, round, of_bits, lt, is_nan, div}
use Rattle.extrema.specs.Extrema.{picked, least_of}
use Rattle.vecmath.specs.Double.{𝟎, ∞}
use Rattle.vecmath.specs.Vector.{fold_of}
use Rattle.vecmath.proofs.Examples.{near, minus, Line, ◌⇒◌, Right}
use Rattle.answers.specs.Refusal.{◌⊳◌, bad_dimension, unlike, bad_limit}
use Rattle.answers.specs.Outcome.{Reply, number, lengths, Ruling, gives, refuses, call_of}
use Rattle.nn_step.specs.Step.{nonneg_step, nn_step, nn_step_length}

-- a point along a direction, with a limit
abbrev step : List Float → List Float → Float → Ruling Reply
step x y αmax = (nn_step x y αmax).ruling

-- a whole number, and its negative
abbrev p : ℕ → Float
p n = near n 1

abbrev m : ℕ → Float
m n = minus n 1

lines : List (Line (Ruling Reply))
lines =
    (step (p 4 ∷ p 1 ∷ p 9 ∷ []) (m 1 ∷ p 2 ∷ m 3 ∷ []) (p 10) ⇒ gives (number (p 3)))
    ∷ (step (nan ∷ []) (m 1 ∷ []) (p 1) ⇒ gives (number (p 1)))
    ∷ (step (nan ∷ []) [] (p 1) ⇒ refuses 5)
    ∷ (step [] (p 1 ∷ []) nan ⇒ refuses 5)
    ∷ (step [] [] nan ⇒ refuses 6)
    ∷ (step (p 4 ∷ []) (m 1 ∷ []) (m 1) ⇒ refuses 6)
    ∷ (step (p 4 ∷ []) (m 1 ∷ []) (neg 𝟎) ⇒ gives (number (neg 𝟎)))
    ∷ (step (p 4 ∷ []) (m 1 ∷ []) ∞ ⇒ gives (number (p 4)))
    ∷ (step (p 4 ∷ []) (p 1 ∷ []) ∞ ⇒ gives (number ∞))
    ∷ (step (m 4 ∷ []) (m 1 ∷ []) (p 1) ⇒ gives (number (m 4)))
    ∷ (step [] [] (p 1) ⇒ gives (number (p 1)))
    ∷ ((nn_step_length (m 1 ∷ []) (m 2 ∷ []) (p 4 ∷ []) (p 4 ∷ []) (p 3)).ruling ⇒ gives (lengths (p 3) (p 2)))
    ∷ []

worked : Right lines
unfolding lines nonneg_step least_of picked fold_of call_of ◌⊳◌ bad_dimension unlike bad_limit round of_bits lt is_nan div neg
worked = refl
