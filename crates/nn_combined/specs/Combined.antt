-- The shift in the combined step of the nonnegative cone (source document 002, lines 53 to 84): W⁻¹Δs ∘ WΔz − σμ·e. Δz and Δs are overwritten by WΔz
-- and W⁻¹Δs, and the shift is workspace until then (document 01, "Port order and what must change shape"). The contents are listed in the
-- order shift, Δz, Δs. Assumes nothing.
use Rattle.std.specs.Prelude.{List, [], ◌∷◌, length, Float}
use Rattle.std.specs.Float.Ieee.{neg}
use Rattle.vecmath.specs.Double.{𝟎, 𝟏}
use Rattle.answers.specs.Refusal.{refusal}
use Rattle.answers.specs.Outcome.{Contents, done, Came, call_of, ◌⨾◌}
use Rattle.nn_units.specs.Units.{nonneg_shift}
use Rattle.nn_products.specs.Products.{nonneg_mul_w, nonneg_mul_winv}
use Rattle.nn_jordan.specs.Jordan.{nonneg_circ}

-- the values
unfoldable pub nonneg_combined_shift : (step_z step_s : List Float) (σμ : Float) (w : List Float) → Contents 3 0
nonneg_combined_shift step_z step_s σμ w =
    let Δz = nonneg_mul_w step_z step_z 𝟏 𝟎 w in
    let Δs = nonneg_mul_winv step_s step_s 𝟏 𝟎 w in
    nonneg_shift (neg σμ) (nonneg_circ Δs Δz) ⨾ Δz ⨾ Δs ⨾ tt

-- the bare call
abbrev pub nn_combined_ds_shift : (shift step_z step_s : List Float) (σμ : Float) (w : List Float) → Came 3 0
nn_combined_ds_shift shift step_z step_s σμ w =
    call_of (refusal 0 (length shift) (length step_z ∷ length step_s ∷ length w ∷ [])) done (shift ⨾ step_z ⨾ step_s ⨾ tt) (nonneg_combined_shift step_z step_s σμ w)
