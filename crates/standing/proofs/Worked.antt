-- Standings, computed: one statement over one list. Assumes nothing.
use mathlib.Core.Path.{refl}
use mathlib.Core.Bool.{false}
use mathlib.Core.List.{List, [], ◌∷◌}
use lib.Ieee.{Float, nan, inf, round, of_bits, lt, eq, is_nan, add, sub, mul}
use Rattle.root.specs.Root.{root}
use Rattle.vecmath.specs.Vector.{fold_of, dot}
use Rattle.vecmath.proofs.Examples.{near, minus, Line, ◌⇒◌, Right}
use Rattle.answers.specs.declared.Standing.TheVariants.{Inside, Edge, Outside, Mirrored, NotNumber}
use Rattle.answers.specs.Refusal.{◌⊳◌, bad_dimension, unlike}
use Rattle.answers.specs.Outcome.{Reply, stands, Ruling, gives, refuses, call_of}
use Rattle.soc_residual.specs.Residual.{residual}
use Rattle.standing.specs.Standing.{some, soc_standing, nonneg_standing, soc_stands, nn_stands}

abbrev soc : List Float → Ruling Reply
soc z = (soc_stands z).ruling

abbrev nn : List Float → Ruling Reply
nn z = (nn_stands z).ruling

lines : List (Line (Ruling Reply))
lines =
    (soc (minus 2 1 ∷ near 0 1 ∷ []) ⇒ gives (stands Mirrored))
    ∷ (soc (near 5 1 ∷ near 3 1 ∷ []) ⇒ gives (stands Inside))
    ∷ (soc (near 3 1 ∷ minus 3 1 ∷ []) ⇒ gives (stands Edge))
    ∷ (soc (near 1 1 ∷ near 3 1 ∷ []) ⇒ gives (stands Outside))
    ∷ (soc (near 1 1 ∷ nan ∷ []) ⇒ gives (stands NotNumber))
    ∷ (soc (near 1 1 ∷ []) ⇒ refuses 1)
    ∷ (nn [] ⇒ gives (stands Inside))
    ∷ (nn (near 1 1 ∷ minus 0 1 ∷ []) ⇒ gives (stands Edge))
    ∷ (nn (near 0 1 ∷ minus 1 1 ∷ []) ⇒ gives (stands Outside))
    ∷ (nn (minus 1 1 ∷ nan ∷ []) ⇒ gives (stands NotNumber))
    ∷ (nn (inf false ∷ near 1 1 ∷ []) ⇒ gives (stands Inside))
    ∷ []

worked : Right lines
unfolding lines soc_standing nonneg_standing some residual root fold_of dot call_of ◌⊳◌ bad_dimension unlike round of_bits lt eq is_nan add sub mul
worked = refl
