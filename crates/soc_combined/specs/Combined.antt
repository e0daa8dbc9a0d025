-- The shift in the combined step of the second-order cone (source document 002, lines 53 to 84): W⁻¹Δs ∘ WΔz − σμ·e. Δz and Δs are overwritten by WΔz
-- and W⁻¹Δs, and the shift is workspace until then (document 01, "Port order and what must change shape"). The contents are listed in the
-- order shift, Δz, Δs. Assumes nothing.
use Rattle.std.specs.Prelude.{List, [], ◌∷◌, length, Float}
use Rattle.std.specs.Float.Ieee.{neg}
use Rattle.vecmath.specs.Double.{𝟎, 𝟏}
use Rattle.answers.specs.Refusal.{refusal}
use Rattle.answers.specs.Outcome.{Contents, done, Came, call_of, ◌⨾◌}
use Rattle.soc_units.specs.Units.{unit_shift}
use Rattle.soc_products.specs.Product.{mul_w, mul_winv}
use Rattle.soc_jordan.specs.Jordan.{circ}

-- the values
unfoldable pub combined_shift : (step_z step_s : List Float) (σμ : Float) (w : List Float) (η : Float) → Contents 3 0
combined_shift step_z step_s σμ w η =
    let Δz = mul_w step_z step_z 𝟏 𝟎 w η in
    let Δs = mul_winv step_s step_s 𝟏 𝟎 w η in
    unit_shift (circ Δs Δz) (neg σμ) ⨾ Δz ⨾ Δs ⨾ tt

-- the bare call
abbrev pub soc_combined_ds_shift : (shift step_z step_s : List Float) (σμ : Float) (w : List Float) (η : Float) → Came 3 0
soc_combined_ds_shift shift step_z step_s σμ w η =
    call_of (refusal 2 (length shift) (length step_z ∷ length step_s ∷ length w ∷ [])) done (shift ⨾ step_z ⨾ step_s ⨾ tt) (combined_shift step_z step_s σμ w η)
