-- What is computed has its slice's length, for every n. Assumes nothing.
use Prim.Native.Nat.{ℕ, ◌≤◌}
use native.Mathlib.Omega.{arith}
use mathlib.Core.Path.{◌≡◌}
use mathlib.Core.List.{List}
use lib.ListN.{length, length-drop}
use lib.Ieee.{Float}
use Rattle.vecmath.specs.Vector.{axpby}
use Rattle.vecmath.proofs.Loops.{length_each}
use Rattle.soc_sparse.specs.Sparse.{sparse_u, sparse_v}

module _ (n : ℕ) (some : 1 ≤ n) where
  pub length_sparse_u : (w u : List Float) → length w ≡ n → length (sparse_u w u) ≡ n
  unfolding sparse_u axpby
  length_sparse_u w u e = simp (length_each, length-drop) (omega arith)

  pub length_sparse_v : (w v : List Float) → length w ≡ n → length (sparse_v w v) ≡ n
  unfolding sparse_v axpby
  length_sparse_v w v e = simp (length_each, length-drop) (omega arith)
