-- What the measured calls give. Assumes nothing.
use Rattle.std.specs.Prelude.{cond, List, eqb, length, Float}
use Rattle.root.specs.Root.{root}
use Rattle.vecmath.specs.Double.{◌!◌}
use Rattle.vecmath.specs.Vector.{each}

-- the one where x and y are of one length, the other where not
unfoldable pub fitted_of : {A : Type 0} → List Float → List Float → A → A → A
fitted_of x y one other = cond (eqb (length x) (length y)) one other

-- √x, entry by entry
unfoldable pub roots : List Float → List Float
roots x = each (length x) (λ k. root (x ! k))
