-- Document 01, "Second-order rules": the offset; source document 000, lines 266 to 287, in order. z₁ is tail z. Assumes nothing.
use Rattle.std.specs.Prelude.{List, [], ◌∷◌, length, Float}
use Rattle.vecmath.specs.Double.{◌⊕◌, ◌⊖◌, ◌⊗◌, ◌⊘◌, 𝟏, ◌!◌}
use Rattle.vecmath.specs.Vector.{each, dot, scale_of, negated}
use Rattle.tails.specs.Tail.{tail}
use Rattle.answers.specs.Refusal.{refusal}
use Rattle.answers.specs.Outcome.{done, Came, call_of, ◌⨾◌}
use Rattle.soc_residual.specs.Residual.{residual}

-- ---- the values

-- out + η·(ds + κ·w), entry by entry, for the offset's entries from 1 on
unfoldable pub add_offset : (out : List Float) (η : Float) (ds : List Float) (κ : Float) (w : List Float) → List Float
add_offset out η ds κ w = each (length out) (λ k. out ! k ⊕ η ⊗ (ds ! k ⊕ κ ⊗ w ! k))

-- the offset of Δs from Δz (Δs_from_Δz_offset)
unfoldable pub offset_of : (ds z w lambda : List Float) (η : Float) → List Float
offset_of ds z w lambda η =
    let λ₁·ds₁ = dot (tail lambda) (tail ds) in
    let w₁·ds₁ = dot (tail w) (tail ds) in
    let c = lambda ! 0 ⊗ ds ! 0 ⊖ λ₁·ds₁ in
    let out = scale_of (c ⊘ residual z) (z ! 0 ∷ tail (negated z)) in
    let κ = w₁·ds₁ ⊘ (𝟏 ⊕ w ! 0) in
    let out₀ = out ! 0 ⊕ η ⊗ w₁·ds₁ in
    scale_of (𝟏 ⊘ lambda ! 0) (out₀ ∷ add_offset (tail out) η (tail ds) κ (tail w))

-- ---- the bare call

abbrev pub soc_ds_from_dz_offset : (out ds z w lambda : List Float) (η : Float) → Came 1 0
soc_ds_from_dz_offset out ds z w lambda η =
    call_of (refusal 2 (length out) (length ds ∷ length z ∷ length w ∷ length lambda ∷ [])) done (out ⨾ tt) (offset_of ds z w lambda η ⨾ tt)
