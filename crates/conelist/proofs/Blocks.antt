-- How long a block is at most. Assumes nothing.
use Prim.Native.Nat.{ℕ, zero, suc, ◌+◌, ◌*◌, ◌/◌, ◌≤◌}
use native.Mathlib.Omega.{arith}
use mathlib.Core.Path.{◌≡◌, refl}
use mathlib.Core.Bool.{Bool, true, false, cond}
use borrow.Author.Tests.{ltb-false}
use lib.Dec.{ltb}
use Rattle.conelist.specs.declared.Kind.{Kind}
use Rattle.conelist.specs.declared.Kind.TheVariants.{Nonnegative, SecondOrder}
use Rattle.conelist.specs.Layout.{dim, block_dim}

pub triangle : (n : ℕ) → n ≤ 4 → n * (n + 1) ≤ 5 * n
triangle zero h = omega arith
triangle (suc zero) h = omega arith
triangle (suc (suc zero)) h = omega arith
triangle (suc (suc (suc zero))) h = omega arith
triangle (suc (suc (suc (suc zero)))) h = omega arith
triangle (suc (suc (suc (suc (suc n))))) h = absurd (omega arith)

pub block_most : (kind : Kind) → block_dim kind ≤ 3 * dim kind
block_most (Nonnegative n) = omega arith
block_most (SecondOrder n) = go (ltb 4 n) refl
  where
    go : (t : Bool) → ltb 4 n ≡ t → cond t n (n * (n + 1) / 2) ≤ 3 * n
    go true h = omega arith
    go false h = omega (arith, triangle n (ltb-false 4 n h))
