-- Document 01, "Nonnegative rules": the block; source document 001, lines 96 to 101. Assumes nothing.
use Rattle.std.specs.Prelude.{List, [], ◌∷◌, length, Float}
use Rattle.answers.specs.Refusal.{refusal}
use Rattle.answers.specs.Outcome.{done, Came, call_of, ◌⨾◌}
use Rattle.vecmath.specs.Vector.{products}

-- ---- the values

-- Hs is w² (get_Hs)
abbrev pub nonneg_hs : List Float → List Float
nonneg_hs w = products w w

-- ---- the bare calls

abbrev pub nn_get_hs : List Float → List Float → Came 1 0
nn_get_hs hs w = call_of (refusal 0 (length w) (length hs ∷ [])) done (hs ⨾ tt) (nonneg_hs w ⨾ tt)
