-- Document 01, "Second-order rules": Hs, packed; source document 000, lines 217 to 246. Assumes nothing.
use Rattle.std.specs.Prelude.{ℕ, zero, suc, cond, List, [], ◌∷◌, ◌++◌, eqb, length, Float}
use Rattle.std.specs.Float.{binary64}
use Rattle.std.specs.Float.Ieee.{of_bits}
use Rattle.vecmath.specs.Double.{◌⊕◌, ◌⊖◌, ◌⊗◌, 𝟏, 𝟐, ◌!◌}
use Rattle.vecmath.specs.Vector.{each, constant}
use Rattle.tails.specs.Tail.{tail}
use Rattle.answers.specs.Refusal.{is_sparse, block_length, ◌⊳◌, bad_dimension, unlike, is_alike}
use Rattle.answers.specs.Outcome.{done, Came, call_of, ◌⨾◌}

-- ---- the packed block

-- sparse: η² everywhere, the first times d
unfoldable pub sparse_hs : (n : ℕ) (η d : Float) → List Float
sparse_hs n η d = let η² = η ⊗ η in η² ⊗ d ∷ tail (constant n η²)

-- the upper triangle of a matrix of n columns, by columns: (0,0), (0,1), (1,1), (0,2), ..
unfoldable pub columns : ℕ → (ℕ → ℕ → Float) → List Float
columns zero f = []
columns (suc c) f = columns c f ++ each (suc c) (λ r. f r c)

-- √2
abbrev pub √2 : Float
√2 = of_bits binary64 0x3FF6_A09E_667F_3BCD

-- dense, before η²: the first is (√2·w₀ − 1)(√2·w₀ + 1), others 2·w_row·w_col, diagonals after the first plus 1
unfoldable pub dense_entry : (w : List Float) (row col : ℕ) → Float
dense_entry w row col =
    let product = 𝟐 ⊗ w ! row ⊗ w ! col in
    cond (eqb col 0) ((√2 ⊗ w ! 0 ⊖ 𝟏) ⊗ (√2 ⊗ w ! 0 ⊕ 𝟏)) (cond (eqb row col) (product ⊕ 𝟏) product)

-- all then times η²
unfoldable pub dense_hs : (w : List Float) (η : Float) → List Float
dense_hs w η = columns (length w) (λ row col. η ⊗ η ⊗ dense_entry w row col)

unfoldable pub hs_of : (w : List Float) (η d : Float) → List Float
hs_of w η d = cond (is_sparse (length w)) (sparse_hs (length w) η d) (dense_hs w η)

-- ---- the bare calls; the dimension is w's length

abbrev pub soc_get_hs : (hs w : List Float) (η d : Float) → Came 1 0
soc_get_hs hs w η d =
    call_of (bad_dimension 2 (length w) ⊳ unlike (is_alike (block_length (length w)) (length hs ∷ []))) done (hs ⨾ tt) (hs_of w η d ⨾ tt)
