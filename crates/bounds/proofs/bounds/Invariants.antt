-- What `bounds::bounds` keeps true in its loop. Assumes nothing.
use mathlib.Core.Path.{◌≡◌}
use mathlib.Core.Bool.{false}
use lib.Ieee.{is_nan}
use Prim.Native.Nat.{◌*◌}
use Rattle.extrema.specs.Extrema.{least_of, greatest_of}
use Rattle.vecmath.proofs.Loops.{Folded, length, ∞, 𝟎, ◌⊕◌, ◌!◌}
use Rattle.bounds.proofs.bounds.Given as goal

abbrev pub invariant-loop-a : goal.invariant-loop-a
invariant-loop-a l = Folded (length l.x) ∞ (λ k m. least_of m (l.x ! k)) (2 * l.a-index) l.least × Folded (length l.x) 𝟎 (λ k s. s ⊕ greatest_of (l.x ! k) 𝟎) (2 * l.a-index) l.sum × (is_nan l.least ≡ false)
