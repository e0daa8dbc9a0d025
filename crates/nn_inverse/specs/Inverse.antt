-- Document 01, "Nonnegative rules": the inverse of the Jordan product, also by lambda; source document 001, lines 177 to 179, 210 to 212 and
-- 227 to 234. Assumes nothing.
use Rattle.std.specs.Prelude.{List, [], ◌∷◌, length, Float}
use Rattle.answers.specs.Refusal.{refusal}
use Rattle.answers.specs.Outcome.{done, Came, call_of, ◌⨾◌}
use Rattle.vecmath.specs.Vector.{quotients}

-- ---- the values

-- the Jordan product's inverse, z/y (_inv_circ_op); by lambda it is z/λ (λ_inv_circ_op)
abbrev pub nonneg_inv_circ : List Float → List Float → List Float
nonneg_inv_circ y z = quotients z y

-- ---- the bare calls

abbrev pub nn_inv_circ_op : List Float → List Float → List Float → Came 1 0
nn_inv_circ_op x y z = call_of (refusal 0 (length x) (length y ∷ length z ∷ [])) done (x ⨾ tt) (nonneg_inv_circ y z ⨾ tt)

abbrev pub nn_lambda_inv_circ_op : List Float → List Float → List Float → Came 1 0
nn_lambda_inv_circ_op x z lambda = call_of (refusal 0 (length x) (length z ∷ length lambda ∷ [])) done (x ⨾ tt) (nonneg_inv_circ lambda z ⨾ tt)
