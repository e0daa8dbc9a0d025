-- Document 01, "Second-order rules": products; source document 000, lines 258 to 260, 347 to 349 and 360 to 367, in order. z₁ is tail z.
-- Assumes nothing.
use Rattle.std.specs.Prelude.{List, [], ◌∷◌, length, Float}
use Rattle.vecmath.specs.Double.{◌!◌}
use Rattle.vecmath.specs.Vector.{dot, axpby}
use Rattle.tails.specs.Tail.{tail}
use Rattle.answers.specs.Refusal.{refusal}
use Rattle.answers.specs.Outcome.{done, Came, call_of, ◌⨾◌}

-- ---- the values

-- the Jordan product of y and z (_circ_op)
unfoldable pub circ : (y z : List Float) → List Float
circ y z = dot y z ∷ axpby (y ! 0) (tail z) (z ! 0) (tail y)

-- ---- the bare calls

abbrev pub soc_circ_op : (x y z : List Float) → Came 1 0
soc_circ_op x y z = call_of (refusal 2 (length x) (length y ∷ length z ∷ [])) done (x ⨾ tt) (circ y z ⨾ tt)

-- lambda's product with itself
abbrev pub soc_affine_ds : (ds lambda : List Float) → Came 1 0
soc_affine_ds ds lambda = call_of (refusal 2 (length ds) (length lambda ∷ [])) done (ds ⨾ tt) (circ lambda lambda ⨾ tt)
