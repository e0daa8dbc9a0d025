-- Two axpby one after the other, entry by entry. Assumes nothing.
use Prim.Native.Nat.{ℕ, zero, suc, ◌<◌}
use native.Mathlib.Omega.{arith}
use mathlib.Core.Path.{◌≡◌, refl, ap}
use mathlib.Core.List.{List}
use lib.ListN.{length}
use lib.Ieee.{Float, nan}
use Rattle.vecmath.specs.Double.{◌⊕◌, ◌⊗◌, 𝟏, ◌!◌}
use Rattle.vecmath.specs.Vector.{each, axpby}
use Rattle.vecmath.proofs.Loops.{each_at}

each_same : (n : ℕ) (f g : ℕ → Float) → ((k : ℕ) → k < n → f k ≡ g k) → each n f ≡ each n g
unfolding each
each_same zero f g h = refl
each_same (suc n) f g h = rw (each_same n f g (λ k l. h k (omega arith)), h n (omega arith))

pub axpby_axpby : (n : ℕ) (a b c : Float) (x y z : List Float) → length x ≡ n → length z ≡ n → axpby c z 𝟏 (axpby a x b y) ≡ each n (λ k. c ⊗ z ! k ⊕ 𝟏 ⊗ (a ⊗ x ! k ⊕ b ⊗ y ! k))
unfolding axpby
axpby_axpby n a b c x y z e f = rw (e, f) (each_same n _ _ (λ k l. ap (λ (v : Float). c ⊗ z ! k ⊕ 𝟏 ⊗ v) (each_at nan n _ k l)))
