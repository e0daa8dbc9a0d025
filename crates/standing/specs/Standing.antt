-- Document 01, "Standing". Assumes nothing.
use Rattle.std.specs.Prelude.{Bool, false, cond, ◌||◌, List, [], length, Float}
use Rattle.std.specs.Float.Ieee.{is_nan, lt, eq}
use Rattle.vecmath.specs.Double.{𝟎, ◌!◌}
use Rattle.vecmath.specs.Vector.{fold_of}
use Rattle.answers.specs.declared.Standing.{Standing}
use Rattle.answers.specs.declared.Standing.TheVariants.{Inside, Edge, Outside, Mirrored, NotNumber}
use Rattle.answers.specs.Refusal.{refusal}
use Rattle.answers.specs.Outcome.{stands, Came, call_of}
use Rattle.soc_residual.specs.Residual.{residual}

-- ---- the values

-- Second-order, with r the residual: r NaN, NotNumber; r = 0, Edge; r < 0, Outside; r > 0, Inside if z₀ > 0, else Mirrored
unfoldable pub soc_standing : List Float → Standing
soc_standing z =
    let r = residual z in
    cond (is_nan r) NotNumber (cond (eq r 𝟎) Edge (cond (lt r 𝟎) Outside (cond (lt 𝟎 (z ! 0)) Inside Mirrored)))

-- a test holds of some entry
unfoldable pub some : (Float → Bool) → List Float → Bool
some test z = fold_of (length z) false (λ k t. t || test (z ! k))

-- Nonnegative: any NaN, NotNumber; else any entry below 0, Outside; else any zero, Edge; else Inside (dimension 0 too)
unfoldable pub nonneg_standing : List Float → Standing
nonneg_standing z =
    cond (some is_nan z) NotNumber (cond (some (λ x. lt x 𝟎) z) Outside (cond (some (λ x. eq x 𝟎) z) Edge Inside))

-- ---- the bare calls

abbrev pub soc_stands : List Float → Came 0 0
soc_stands z = call_of (refusal 2 (length z) []) (stands (soc_standing z)) tt tt

abbrev pub nn_stands : List Float → Came 0 0
nn_stands z = call_of (refusal 0 (length z) []) (stands (nonneg_standing z)) tt tt
