-- Document 01, "Second-order rules": Hs as a square matrix; source document 000, lines 217 to 246. Assumes nothing.
use Rattle.std.specs.Prelude.{ℕ, cond, ◌&&◌, List, ltb, length, Float}
use Rattle.vecmath.specs.Double.{◌⊗◌, 𝟎}
use Rattle.vecmath.specs.Vector.{each}
use Rattle.answers.specs.Refusal.{◌⊳◌, bad_dimension, not_dense}
use Rattle.answers.specs.Outcome.{Outcome, call_of}
use Rattle.soc_blocks.specs.Block.{dense_entry}

-- ---- the dense block as a square matrix: both triangles filled, +0 beyond the dimension

unfoldable pub square_entry : (w : List Float) (η : Float) (row col : ℕ) → Float
square_entry w η row col =
    cond (ltb row (length w) && ltb col (length w))
    (η ⊗ η ⊗ cond (ltb row col) (dense_entry w row col) (dense_entry w col row))
    𝟎

unfoldable pub square_hs : (w : List Float) (η : Float) → List (List Float)
square_hs w η = each 4 (λ row. each 4 (λ col. square_entry w η row col))

-- ---- the bare calls; the dimension is w's length

abbrev pub soc_square_hs : (w : List Float) (η : Float) → Outcome (List (List Float)) (Unit {0})
soc_square_hs w η = call_of (bad_dimension 2 (length w) ⊳ not_dense (length w)) (square_hs w η) tt tt
