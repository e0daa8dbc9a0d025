-- What the call writes has n entries each, where what it is given has. Assumes nothing.
use Prim.Native.Nat.{ℕ}
use mathlib.Core.Path.{◌≡◌, ◌∙◌}
use mathlib.Core.List.{List}
use lib.ListN.{length}
use lib.Ieee.{Float, neg}
use Rattle.vecmath.specs.Double.{𝟎, 𝟏}
use Rattle.answers.proofs.Laws.{Long}
use Rattle.nn_units.proofs.Laws.{length_shift}
use Rattle.nn_products.proofs.Laws.{length_mul_w, length_mul_winv}
use Rattle.nn_jordan.proofs.Laws.{length_circ}
use Rattle.nn_combined.specs.Combined.{nonneg_combined_shift}

pub lengths_combined : {n : ℕ} (Δz Δs : List Float) (σμ : Float) (w : List Float) → length Δz ≡ n → length Δs ≡ n → Long n 3 0 (nonneg_combined_shift Δz Δs σμ w)
unfolding nonneg_combined_shift
lengths_combined Δz Δs σμ w e f =
    let s = length_mul_winv Δs Δs 𝟏 𝟎 w ∙ f in
    (length_shift (neg σμ) _ ∙ length_circ _ _ ∙ s, (length_mul_w Δz Δz 𝟏 𝟎 w ∙ e, (s, tt)))
