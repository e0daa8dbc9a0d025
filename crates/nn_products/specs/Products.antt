-- Document 01, "Nonnegative rules": products with W and its inverse, entrywise; source document 001, lines 181 to 195. Assumes nothing.
use Rattle.std.specs.Prelude.{List, [], ◌∷◌, length, Float}
use Rattle.answers.specs.Refusal.{refusal}
use Rattle.answers.specs.Outcome.{done, Came, call_of, ◌⨾◌}
use Rattle.vecmath.specs.Double.{◌⊕◌, ◌⊗◌, ◌⊘◌, ◌!◌}
use Rattle.vecmath.specs.Vector.{each}

-- ---- the values

-- α·(x·w) + β·y, where β·y is computed even for β = 0 (mul_W)
unfoldable pub nonneg_mul_w : List Float → List Float → Float → Float → List Float → List Float
nonneg_mul_w y x α β w = each (length y) (λ k. α ⊗ (x ! k ⊗ w ! k) ⊕ β ⊗ y ! k)

-- α·(x/w) + β·y, likewise (mul_Winv)
unfoldable pub nonneg_mul_winv : List Float → List Float → Float → Float → List Float → List Float
nonneg_mul_winv y x α β w = each (length y) (λ k. α ⊗ (x ! k ⊘ w ! k) ⊕ β ⊗ y ! k)

-- ---- the bare calls

abbrev pub nn_mul_w : List Float → List Float → Float → Float → List Float → Came 1 0
nn_mul_w y x α β w = call_of (refusal 0 (length y) (length x ∷ length w ∷ [])) done (y ⨾ tt) (nonneg_mul_w y x α β w ⨾ tt)

abbrev pub nn_mul_winv : List Float → List Float → Float → Float → List Float → Came 1 0
nn_mul_winv y x α β w = call_of (refusal 0 (length y) (length x ∷ length w ∷ [])) done (y ⨾ tt) (nonneg_mul_winv y x α β w ⨾ tt)
