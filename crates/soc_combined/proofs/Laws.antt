-- What the call writes has n entries each, where what it is given has. Assumes nothing.
use Prim.Native.Nat.{ℕ, ◌≤◌}
use mathlib.Core.Path.{◌≡◌}
use mathlib.Core.List.{List}
use lib.ListN.{length}
use lib.Ieee.{Float, neg}
use Rattle.vecmath.specs.Double.{𝟎, 𝟏}
use Rattle.answers.proofs.Laws.{Long}
use Rattle.soc_units.proofs.Laws.{length_unit_shift}
use Rattle.soc_products.proofs.Laws.{length_mul_w, length_mul_winv}
use Rattle.soc_jordan.proofs.Laws.{length_circ}
use Rattle.soc_combined.specs.Combined.{combined_shift}

pub lengths_combined : {n : ℕ} (Δz Δs : List Float) (σμ : Float) (w : List Float) (η : Float) → 1 ≤ n → length Δz ≡ n → length Δs ≡ n → Long n 3 0 (combined_shift Δz Δs σμ w η)
unfolding combined_shift
lengths_combined Δz Δs σμ w η h e f =
    let z = length_mul_w Δz Δz 𝟏 𝟎 w η h e in
    (length_unit_shift _ (neg σμ) h (length_circ _ _ h z), (z, (length_mul_winv Δs Δs 𝟏 𝟎 w η h f, tt)))
