-- Laws of the block: its length, and a number of it. Assumes nothing.
use Prim.Native.Nat.{ℕ, ◌+◌, ◌*◌, ◌/◌, ◌≤◌, ◌<◌}
use native.Mathlib.Omega.{arith}
use mathlib.Core.Path.{◌≡◌, refl}
use mathlib.Core.Bool.{Bool, true, false}
use mathlib.Core.List.{List}
use borrow.Author.Tests.{ltb-true, le-ltb}
use lib.Dec.{ltb}
use lib.ListN.{length, length-drop}
use lib.Ieee.{Float}
use Rattle.vecmath.specs.Double.{◌⊗◌, ◌!◌}
use Rattle.vecmath.specs.Vector.{constant}
use Rattle.vecmath.proofs.Loops.{length_each}
use Rattle.answers.specs.Refusal.{block_length}
use Rattle.soc_blocks.specs.Block.{sparse_hs, dense_entry, dense_hs, hs_of}
use Rattle.soc_blocks.proofs.Columns.{columns_length, columns_at}

-- ---- the block's length

pub hs_long : (w : List Float) (η d : Float) → length (hs_of w η d) ≡ block_length (length w)
unfolding hs_of sparse_hs dense_hs constant
hs_long w η d = go (ltb 4 (length w)) refl
  where
    go : (t : Bool) → ltb 4 (length w) ≡ t → length (hs_of w η d) ≡ block_length (length w)
    go true e = rw e (simp (length-drop, length_each) (omega (arith, ltb-true 4 (length w) e)))
    go false e = rw e (columns_length _ (length w))

-- ---- the square matrix equals the packed block

module _ (w : List Float) (η : Float) where
  -- the packed number of a row and a column
  pub packed_at : (d : Float) (row col : ℕ) → length w ≤ 4 → row ≤ col → col < length w → hs_of w η d ! (col * (col + 1) / 2 + row) ≡ η ⊗ η ⊗ dense_entry w row col
  unfolding hs_of dense_hs
  packed_at d row col dense h l = rw (le-ltb 4 (length w) dense) (columns_at _ (length w) row col h l)
