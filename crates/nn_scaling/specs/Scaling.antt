-- Document 01, "Nonnegative rules": the update of the scaling; source document 001, lines 77 to 90. Assumes nothing.
use Rattle.std.specs.Prelude.{true, List, [], ◌∷◌, length, Float}
use Rattle.root.specs.Root.{root}
use Rattle.answers.specs.Refusal.{refusal}
use Rattle.answers.specs.Outcome.{truth, Came, call_of, ◌⨾◌}
use Rattle.vecmath.specs.Double.{◌⊗◌, ◌⊘◌, ◌!◌}
use Rattle.vecmath.specs.Vector.{each}

-- ---- the values

-- lambda = √(s·z) (update_scaling)
unfoldable pub nonneg_lambda : List Float → List Float → List Float
nonneg_lambda s z = each (length s) (λ k. root (s ! k ⊗ z ! k))

-- w = √(s/z) (update_scaling)
unfoldable pub nonneg_w : List Float → List Float → List Float
nonneg_w s z = each (length s) (λ k. root (s ! k ⊘ z ! k))

-- ---- the bare calls

-- always true
abbrev pub nn_update_scaling : List Float → List Float → List Float → List Float → Came 2 0
nn_update_scaling s z w lambda =
    call_of (refusal 0 (length s) (length z ∷ length w ∷ length lambda ∷ [])) (truth true) (w ⨾ lambda ⨾ tt)
    (nonneg_w s z ⨾ nonneg_lambda s z ⨾ tt)
