-- Document 01, "Nonnegative rules": margins, unit shift, unit initialisation; source document 001, lines 58 to 71. Assumes nothing.
use Rattle.std.specs.Prelude.{ℕ, List, [], ◌∷◌, length, Float}
use Rattle.answers.specs.Refusal.{refusal}
use Rattle.answers.specs.Outcome.{Reply, done, margins, Came, call_of, ◌⨾◌}
use Rattle.vecmath.specs.Double.{𝟏}
use Rattle.vecmath.specs.Vector.{minimum, positives, constant, translate}

-- ---- the values

-- unit shift adds α everywhere (scaled_unit_shift)
abbrev pub nonneg_shift : Float → List Float → List Float
nonneg_shift α z = translate α z

-- unit initialisation and identity give ones (unit_initialization, set_identity_scaling)
abbrev pub nonneg_unit : ℕ → List Float
nonneg_unit n = constant n 𝟏

-- α, the least of all entries from infinity, and β, the sum of positives (margins)
abbrev pub nonneg_margins : List Float → Reply
nonneg_margins z = margins (minimum z) (positives z)

-- ---- the bare calls

abbrev pub nn_scaled_unit_shift : List Float → Float → Came 1 0
nn_scaled_unit_shift z α = call_of (refusal 0 (length z) []) done (z ⨾ tt) (nonneg_shift α z ⨾ tt)

abbrev pub nn_unit_initialization : List Float → List Float → Came 2 0
nn_unit_initialization z s =
    call_of (refusal 0 (length z) (length s ∷ [])) done (z ⨾ s ⨾ tt) (nonneg_unit (length z) ⨾ nonneg_unit (length s) ⨾ tt)

abbrev pub nn_margins : List Float → Came 0 0
nn_margins z = call_of (refusal 0 (length z) []) (nonneg_margins z) tt tt
