-- The terms d, u and v of the sparse expansion (document 01, "Second-order rules"; source document 000, lines 187 to 207, in order). w₁ is
-- Tail w. Assumes nothing.
use Rattle.std.specs.Prelude.{List, ◌∷◌, Float}
use Rattle.root.specs.Root.{root}
use Rattle.vecmath.specs.Double.{◌⊕◌, ◌⊖◌, ◌⊗◌, ◌⊘◌, 𝟎, 𝟏, 𝟐, ½, ◌!◌}
use Rattle.vecmath.specs.Vector.{sumsq, axpby}
use Rattle.tails.specs.Tail.{tail}

-- the sparse terms, of the normed w: |w|² and its reciprocal, d, u and v. The old u and v come in times 0
unfoldable pub square_of : List Float → Float
square_of w = w ! 0 ⊗ w ! 0 ⊕ sumsq (tail w)

unfoldable pub sparse_d : List Float → Float
sparse_d w = ½ ⊗ (𝟏 ⊘ square_of w)

unfoldable pub sparse_u : (w u : List Float) → List Float
sparse_u w u =
    let u₀ = root (square_of w ⊖ sparse_d w) in
    u₀ ∷ axpby (𝟐 ⊗ w ! 0 ⊘ u₀) (tail w) 𝟎 (tail u)

unfoldable pub sparse_v : (w v : List Float) → List Float
sparse_v w v =
    let ι = 𝟏 ⊘ square_of w in
    𝟎 ∷ axpby (root (𝟐 ⊗ (𝟐 ⊕ ι) ⊘ (𝟐 ⊗ square_of w ⊖ ι))) (tail w) 𝟎 (tail v)
