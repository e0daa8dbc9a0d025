-- Document 01, "Nonnegative rules": the offset of ds; source document 001, lines 122 to 126. Assumes nothing.
use Rattle.std.specs.Prelude.{List, [], ◌∷◌, length, Float}
use Rattle.answers.specs.Refusal.{refusal}
use Rattle.answers.specs.Outcome.{done, Came, call_of, ◌⨾◌}
use Rattle.vecmath.specs.Vector.{quotients}

-- ---- the values

-- ds/z (Δs_from_Δz_offset)
abbrev pub nonneg_offset : List Float → List Float → List Float
nonneg_offset ds z = quotients ds z

-- ---- the bare calls

abbrev pub nn_ds_from_dz_offset : List Float → List Float → List Float → Came 1 0
nn_ds_from_dz_offset out ds z = call_of (refusal 0 (length out) (length ds ∷ length z ∷ [])) done (out ⨾ tt) (nonneg_offset ds z ⨾ tt)
