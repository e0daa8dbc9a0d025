-- Document 01, "Second-order rules": `mul_Hs`; source document 000, lines 248 to 256. Assumes nothing.
use Rattle.std.specs.Prelude.{List, [], ◌∷◌, length, Float}
use Rattle.std.specs.Float.Ieee.{neg}
use Rattle.vecmath.specs.Double.{◌⊗◌, 𝟏, 𝟐, ◌!◌}
use Rattle.vecmath.specs.Vector.{dot, scale_of, axpby}
use Rattle.tails.specs.Tail.{tail}
use Rattle.answers.specs.Refusal.{refusal}
use Rattle.answers.specs.Outcome.{done, Came, call_of, ◌⨾◌}

-- ---- the values

-- y = Hs·x: c = 2·(w·x), then η²·(c·w + (−x₀, x₁)) (mul_Hs)
unfoldable pub mul_hs : (x w : List Float) (η : Float) → List Float
mul_hs x w η =
    let c = dot w x ⊗ 𝟐 in
    scale_of (η ⊗ η) (axpby c w 𝟏 (neg (x ! 0) ∷ tail x))

-- ---- the bare calls

abbrev pub soc_mul_hs : (y x w : List Float) (η : Float) → Came 1 0
soc_mul_hs y x w η = call_of (refusal 2 (length y) (length x ∷ length w ∷ [])) done (y ⨾ tt) (mul_hs x w η ⨾ tt)
