-- Laws of the square block: against the packed numbers. Assumes nothing.
use Prim.Native.Nat.{ℕ, ◌+◌, ◌*◌, ◌/◌, ◌≤◌, ◌<◌}
use native.Mathlib.Omega.{arith}
use native.Mathlib.Nat.{eq-or-lt_of_le}
use mathlib.Core.Logic.{◌⊎◌, ⊎_elim}
use mathlib.Core.Path.{◌≡◌, sym, ◌∙◌}
use mathlib.Core.Bool.{cond, and-false}
use mathlib.Core.List.{List, []}
use borrow.Author.Tests.{lt-ltb, le-ltb}
use lib.Dec.{ltb}
use lib.ListN.{length, get_or}
use lib.Ieee.{Float, nan}
use Rattle.vecmath.specs.Double.{𝟎, ◌!◌}
use Rattle.vecmath.specs.Vector.{each}
use Rattle.vecmath.proofs.Loops.{each_at}
use Rattle.soc_blocks.specs.Block.{dense_entry, hs_of}
use Rattle.soc_square.specs.Square.{square_entry, square_hs}
use Rattle.soc_blocks.proofs.Laws.{packed_at}

-- ---- the square matrix equals the packed block

module _ (w : List Float) (η : Float) where
  -- row and column of the square matrix
  abbrev pub square_at : ℕ → ℕ → Float
  square_at row col = get_or (square_hs w η) row [] ! col

  square_at_lem : (row col : ℕ) → row < 4 → col < 4 → square_at row col ≡ square_entry w η row col
  unfolding square_hs
  square_at_lem row col h l = rw (each_at [] 4 (λ row. each 4 (λ col. square_entry w η row col)) row h) (each_at nan 4 (λ col. square_entry w η row col) col l)

  -- it is the matrix's at (row, col), and at (col, row)
  pub square_is_packed : (d : Float) (row col : ℕ) → length w ≤ 4 → row ≤ col → col < length w → (square_at row col ≡ hs_of w η d ! (col * (col + 1) / 2 + row)) × (square_at col row ≡ hs_of w η d ! (col * (col + 1) / 2 + row))
  unfolding square_entry
  square_is_packed d row col dense h l =
      let inside : row < length w = omega arith in
      let picked : cond (ltb row col) (dense_entry w row col) (dense_entry w col row) ≡ dense_entry w row col =
      ⊎_elim (λ (e : row ≡ col). rw (e, le-ltb col col (omega arith))) (λ (l : row < col). rw (lt-ltb row col l)) (eq-or-lt_of_le h) in
      let packed = sym (packed_at w η d row col dense h l) in (
        square_at_lem row col (omega arith) (omega arith) ∙ rw (lt-ltb row (length w) inside, lt-ltb col (length w) l, picked) packed,
        square_at_lem col row (omega arith) (omega arith) ∙ rw (lt-ltb col (length w) l, lt-ltb row (length w) inside, le-ltb col row h) packed,
      )

  -- beyond the dimension it is +0
  pub beyond_is_zero : (row col : ℕ) → row < 4 → col < 4 → (length w ≤ row) ⊎ (length w ≤ col) → square_at row col ≡ 𝟎
  unfolding square_entry
  beyond_is_zero row col h l out =
      square_at_lem row col h l ∙ ⊎_elim
      (λ (o : length w ≤ row). rw (le-ltb row (length w) o))
      (λ (o : length w ≤ col). rw (le-ltb col (length w) o, and-false (ltb row (length w))))
      out
