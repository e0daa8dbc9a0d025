-- What a scaling computes (document 01, "Second-order rules"; source document 000, lines 158 to 184, in order), with σ, ζ and ω the root
-- scales of s, z and w. z₁ is tail z. Assumes nothing.
use Rattle.std.specs.Prelude.{List, ◌∷◌, Float}
use Rattle.std.specs.Float.Ieee.{neg}
use Rattle.root.specs.Root.{root}
use Rattle.vecmath.specs.Double.{◌⊕◌, ◌⊗◌, ◌⊘◌, 𝟏, 𝟐, ½, ◌!◌}
use Rattle.vecmath.specs.Vector.{sumsq, scale_of, axpby}
use Rattle.tails.specs.Tail.{tail}

-- w before it is normed: (1/σ)·s, with z₀/ζ added to the first entry and −(1/ζ)·z₁ to the rest
unfoldable pub point_of : (s z : List Float) (σ ζ : Float) → List Float
point_of s z σ ζ =
    let w = scale_of (𝟏 ⊘ σ) s in
    w ! 0 ⊕ z ! 0 ⊘ ζ ∷ axpby (neg (𝟏 ⊘ ζ)) (tail z) 𝟏 (tail w)

-- w normed by its root scale ω: (1/ω)·w, and the first entry then √(1 + w₁·w₁)
unfoldable pub normed_of : (w : List Float) (ω : Float) → List Float
normed_of w ω =
    let w₁ = tail (scale_of (𝟏 ⊘ ω) w) in
    root (𝟏 ⊕ sumsq w₁) ∷ w₁

-- the scaled vector λ, of γ = ½·ω
unfoldable pub lambda_of : (s z : List Float) (σ ζ ω : Float) → List Float
lambda_of s z σ ζ ω =
    let γ = ½ ⊗ ω in
    let λ₁ = axpby ((γ ⊕ z ! 0 ⊘ ζ) ⊘ σ) (tail s) ((γ ⊕ s ! 0 ⊘ σ) ⊘ ζ) (tail z) in
    scale_of (root (σ ⊗ ζ)) (γ ∷ scale_of (𝟏 ⊘ (s ! 0 ⊘ σ ⊕ z ! 0 ⊘ ζ ⊕ 𝟐 ⊗ γ)) λ₁)
