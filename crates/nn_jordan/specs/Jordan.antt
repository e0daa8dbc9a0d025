-- Document 01, "Nonnegative rules": the Jordan product and affine_ds, entrywise; source document 001, lines 110 to 115, 206 to 208 and 218
-- to 225. Assumes nothing.
use Rattle.std.specs.Prelude.{List, [], ◌∷◌, length, Float}
use Rattle.answers.specs.Refusal.{refusal}
use Rattle.answers.specs.Outcome.{done, Came, call_of, ◌⨾◌}
use Rattle.vecmath.specs.Vector.{products}

-- ---- the values

-- λ·λ (affine_ds)
abbrev pub nonneg_affine_ds : List Float → List Float
nonneg_affine_ds lambda = products lambda lambda

-- the Jordan product, y·z (_circ_op)
abbrev pub nonneg_circ : List Float → List Float → List Float
nonneg_circ y z = products y z

-- ---- the bare calls

abbrev pub nn_affine_ds : List Float → List Float → Came 1 0
nn_affine_ds ds lambda = call_of (refusal 0 (length ds) (length lambda ∷ [])) done (ds ⨾ tt) (nonneg_affine_ds lambda ⨾ tt)

abbrev pub nn_circ_op : List Float → List Float → List Float → Came 1 0
nn_circ_op x y z = call_of (refusal 0 (length x) (length y ∷ length z ∷ [])) done (x ⨾ tt) (nonneg_circ y z ⨾ tt)
