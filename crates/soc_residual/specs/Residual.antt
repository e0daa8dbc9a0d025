-- Document 01, "Second-order rules": the residual, the shifted residual, the root scale; source document 000, lines 388 to 417. z₁ is tail z.
-- Assumes nothing.
use Rattle.std.specs.Prelude.{cond, List, [], ◌∷◌, length, Float}
use Rattle.std.specs.Float.Ieee.{lt}
use Rattle.root.specs.Root.{root}
use Rattle.vecmath.specs.Double.{◌⊕◌, ◌⊖◌, ◌⊗◌, 𝟎, ◌!◌}
use Rattle.vecmath.specs.Vector.{norm, norm_shifted}
use Rattle.tails.specs.Tail.{tail}
use Rattle.answers.specs.Refusal.{refusal}
use Rattle.answers.specs.Outcome.{number, Came, call_of}

-- ---- the values

-- (x₀ − ν)·(x₀ + ν), of a first entry and the norm of the rest
abbrev pub residual_of : (x₀ ν : Float) → Float
residual_of x₀ ν = (x₀ ⊖ ν) ⊗ (x₀ ⊕ ν)

unfoldable pub residual : List Float → Float
residual z = residual_of (z ! 0) (norm (tail z))

-- the same at z + α·dz
unfoldable pub residual_shifted : List Float → List Float → Float → Float
residual_shifted z dz α = residual_of (z ! 0 ⊕ α ⊗ dz ! 0) (norm_shifted (tail z) (tail dz) α)

-- a residual's root scale: root if the residual is above 0, else +0 (NaN too)
abbrev pub root_scale_of : Float → Float
root_scale_of ρ = cond (lt 𝟎 ρ) (root ρ) 𝟎

unfoldable pub root_scale : List Float → Float
root_scale z = root_scale_of (residual z)

-- ---- the bare calls

abbrev pub soc_residual : List Float → Came 0 0
soc_residual z = call_of (refusal 2 (length z) []) (number (residual z)) tt tt

abbrev pub soc_residual_shifted : List Float → List Float → Float → Came 0 0
soc_residual_shifted z dz α = call_of (refusal 2 (length z) (length dz ∷ [])) (number (residual_shifted z dz α)) tt tt

abbrev pub sqrt_soc_residual : List Float → Came 0 0
sqrt_soc_residual z = call_of (refusal 2 (length z) []) (number (root_scale z)) tt tt
