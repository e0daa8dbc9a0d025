-- Document 01, "Second-order rules": margins, unit shift, unit initialisation; source document 000, lines 104 to 119. z₁ is tail z. Assumes
-- nothing.
use Rattle.std.specs.Prelude.{ℕ, List, [], ◌∷◌, length, Float}
use Rattle.extrema.specs.Extrema.{greatest_of}
use Rattle.vecmath.specs.Double.{◌⊕◌, ◌⊖◌, 𝟎, 𝟏, ◌!◌}
use Rattle.vecmath.specs.Vector.{norm}
use Rattle.tails.specs.Tail.{tail, leading}
use Rattle.answers.specs.Refusal.{refusal}
use Rattle.answers.specs.Outcome.{done, margins, Came, call_of, ◌⨾◌}

-- ---- the values

-- margins: α = z₀ − norm z₁, β = greatest of 0 and α
unfoldable pub margin : List Float → Float
margin z = z ! 0 ⊖ norm (tail z)

-- unit shift adds α to the first entry
unfoldable pub unit_shift : List Float → Float → List Float
unit_shift z α = z ! 0 ⊕ α ∷ tail z

-- unit initialisation gives (1, 0, ..): "sets both vectors to +0, then shifts them by 1" comes to that, `unit_leads`, proofs/Laws
abbrev pub unit_vector : ℕ → List Float
unit_vector n = leading n 𝟏

-- ---- the bare calls

abbrev pub soc_margins : List Float → Came 0 0
soc_margins z = call_of (refusal 2 (length z) []) (margins (margin z) (greatest_of 𝟎 (margin z))) tt tt

abbrev pub soc_scaled_unit_shift : List Float → Float → Came 1 0
soc_scaled_unit_shift z α = call_of (refusal 2 (length z) []) done (z ⨾ tt) (unit_shift z α ⨾ tt)

abbrev pub soc_unit_initialization : List Float → List Float → Came 2 0
soc_unit_initialization z s = call_of (refusal 2 (length z) (length s ∷ [])) done (z ⨾ s ⨾ tt) (unit_vector (length z) ⨾ unit_vector (length s) ⨾ tt)
