-- How long a kind's block is. Assumes nothing.
use Prim.Native.Nat.{ℕ}
use mathlib.Core.Path.{◌≡◌}
use Rattle.answers.specs.Refusal.{block_length}
use Rattle.conelist.specs.declared.Kind.{Kind}
use Rattle.conelist.specs.declared.Kind.TheVariants.{Nonnegative, SecondOrder}
use Rattle.conelist.specs.Layout.{dim, block_dim}

pub nonnegative_block : (kind : Kind) (n : ℕ) → kind ≡ Nonnegative n → block_dim kind ≡ dim kind
nonnegative_block kind n e = rw e

pub second_order_block : (kind : Kind) (n : ℕ) → kind ≡ SecondOrder n → block_dim kind ≡ block_length (dim kind)
second_order_block kind n e = rw e
