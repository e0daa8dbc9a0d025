-- Document 01, "Nonnegative rules": the product with Hs; source document 001, lines 103 to 108. Assumes nothing.
use Rattle.std.specs.Prelude.{List, [], ◌∷◌, length, Float}
use Rattle.answers.specs.Refusal.{refusal}
use Rattle.answers.specs.Outcome.{done, Came, call_of, ◌⨾◌}
use Rattle.vecmath.specs.Double.{◌⊗◌, ◌!◌}
use Rattle.vecmath.specs.Vector.{each}

-- ---- the values

-- w·(w·x) (mul_Hs)
unfoldable pub nonneg_mul_hs : List Float → List Float → List Float
nonneg_mul_hs x w = each (length x) (λ k. w ! k ⊗ (w ! k ⊗ x ! k))

-- ---- the bare calls

abbrev pub nn_mul_hs : List Float → List Float → List Float → Came 1 0
nn_mul_hs y x w = call_of (refusal 0 (length y) (length x ∷ length w ∷ [])) done (y ⨾ tt) (nonneg_mul_hs x w ⨾ tt)
