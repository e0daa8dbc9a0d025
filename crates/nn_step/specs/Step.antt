-- The nonnegative cone's step (document 01, "Nonnegative rules"; source document 001, step_length). Assumes nothing.
use Rattle.std.specs.Prelude.{ℕ, ◌≡◌, false, cond, List, [], ◌∷◌, length, Float}
use Rattle.std.specs.Float.Ieee.{lt, neg}
use Rattle.extrema.specs.Extrema.{least_of}
use Rattle.answers.specs.Refusal.{◌⊳◌, refusal, bad_limit}
use Rattle.answers.specs.Outcome.{Reply, number, lengths, Came, call_of}
use Rattle.vecmath.specs.Double.{◌⊘◌, 𝟎, ◌!◌}
use Rattle.vecmath.specs.Vector.{fold_of}

-- ---- the values, over the operation called least

module _ (◌⊓◌ : Float → Float → Float) where
  infixl 70 ◌⊓◌
  -- by one entry: the least of α and −z/dz with dz < 0
  abbrev pub shorter : Float → Float → Float → Float
  shorter z dz α = cond (lt dz 𝟎) (α ⊓ (neg z ⊘ dz)) α

  -- the step of the point z along the direction dz: the least of αmax and each −zᵢ/dzᵢ with dzᵢ < 0
  unfoldable pub nonneg_step : List Float → List Float → Float → Float
  nonneg_step z dz αmax = fold_of (length dz) αmax (λ k α. shorter (z ! k) (dz ! k) α)

  -- the two step lengths, z side and s side
  abbrev pub nonneg_steps : List Float → List Float → List Float → List Float → Float → Reply
  nonneg_steps dz ds z s αmax = lengths (nonneg_step z dz αmax) (nonneg_step s ds αmax)

-- no entry of the point is below zero (document 00, demand 3). Past the end an entry counts as NaN, which is not.
abbrev pub NoneBelow : List Float → Type 0
NoneBelow z = (k : ℕ) → lt (z ! k) 𝟎 ≡ false

-- ---- the bare calls, with document 01's least, which ignores a NaN ratio

-- the step of the point x along the direction y
abbrev pub nn_step : List Float → List Float → Float → Came 0 0
nn_step x y αmax = call_of (refusal 0 (length x) (length y ∷ []) ⊳ bad_limit αmax) (number (nonneg_step least_of x y αmax)) tt tt

abbrev pub nn_step_length : List Float → List Float → List Float → List Float → Float → Came 0 0
nn_step_length dz ds z s αmax =
    call_of (refusal 0 (length dz) (length ds ∷ length z ∷ length s ∷ []) ⊳ bad_limit αmax) (nonneg_steps least_of dz ds z s αmax) tt tt
