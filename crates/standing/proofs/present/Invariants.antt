-- What `standing::present` keeps true in its loop. Assumes nothing.
use mathlib.Core.Bool.{false, ◌||◌}
use lib.Ieee.{is_nan, lt, eq}
use Rattle.vecmath.proofs.Loops.{Folded, length, 𝟎, ◌!◌}
use Rattle.standing.proofs.present.Given as goal

abbrev pub invariant-loop-x : goal.invariant-loop-x
invariant-loop-x l = Folded (length l.z) false (λ k t. t || is_nan (l.z ! k)) l.x-index l.nan × Folded (length l.z) false (λ k t. t || lt (l.z ! k) 𝟎) l.x-index l.below × Folded (length l.z) false (λ k t. t || eq (l.z ! k) 𝟎) l.x-index l.zero
