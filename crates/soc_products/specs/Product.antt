-- Document 01, "Second-order rules": `mul_W` and `mul_Winv`; source document 000, lines 504 to 530, in order. z₁ is tail z. β·y is computed
-- even for β = 0. Assumes nothing.
use Rattle.std.specs.Prelude.{List, [], ◌∷◌, length, Float}
use Rattle.std.specs.Float.Ieee.{neg}
use Rattle.vecmath.specs.Double.{◌⊕◌, ◌⊖◌, ◌⊗◌, ◌⊘◌, 𝟏, ◌!◌}
use Rattle.vecmath.specs.Vector.{dot, axpby}
use Rattle.tails.specs.Tail.{tail}
use Rattle.answers.specs.Refusal.{refusal}
use Rattle.answers.specs.Outcome.{done, Came, call_of, ◌⨾◌}

-- ---- the values

-- y = α·W·x + β·y (_soc_mul_W_inner)
unfoldable pub mul_w : (y x : List Float) (α β : Float) (w : List Float) (η : Float) → List Float
mul_w y x α β w η =
    let ζ = dot (tail w) (tail x) in
    let c = x ! 0 ⊕ ζ ⊘ (𝟏 ⊕ w ! 0) in
    let y₀ = α ⊗ η ⊗ (w ! 0 ⊗ x ! 0 ⊕ ζ) ⊕ β ⊗ y ! 0 in
    let y₁ = axpby (α ⊗ η ⊗ c) (tail w) β (tail y) in
    y₀ ∷ axpby (α ⊗ η) (tail x) 𝟏 y₁

-- y = α·W⁻¹·x + β·y (_soc_mul_Winv_inner)
unfoldable pub mul_winv : (y x : List Float) (α β : Float) (w : List Float) (η : Float) → List Float
mul_winv y x α β w η =
    let ζ = dot (tail w) (tail x) in
    let c = neg (x ! 0) ⊕ ζ ⊘ (𝟏 ⊕ w ! 0) in
    let y₀ = α ⊘ η ⊗ (w ! 0 ⊗ x ! 0 ⊖ ζ) ⊕ β ⊗ y ! 0 in
    let y₁ = axpby (α ⊘ η ⊗ c) (tail w) β (tail y) in
    y₀ ∷ axpby (α ⊘ η) (tail x) 𝟏 y₁

-- ---- the bare calls

abbrev pub soc_mul_w : (y x : List Float) (α β : Float) (w : List Float) (η : Float) → Came 1 0
soc_mul_w y x α β w η = call_of (refusal 2 (length y) (length x ∷ length w ∷ [])) done (y ⨾ tt) (mul_w y x α β w η ⨾ tt)

abbrev pub soc_mul_winv : (y x : List Float) (α β : Float) (w : List Float) (η : Float) → Came 1 0
soc_mul_winv y x α β w η = call_of (refusal 2 (length y) (length x ∷ length w ∷ [])) done (y ⨾ tt) (mul_winv y x α β w η ⨾ tt)
