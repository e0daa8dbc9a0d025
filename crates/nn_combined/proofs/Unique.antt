-- The public call's contract leaves one answer and one final contents of what it was lent. Assumes nothing.
use mathlib.Core.Path.{◌≡◌}
use mathlib.Core.List.{List}
use lib.Ieee.{Float}
use Rattle.std.specs.Prelude.{Result}
use Rattle.answers.specs.declared.Refusal.{Refusal}
use Rattle.answers.specs.Outcome.{tells, of_answer, Contents}
use Rattle.answers.proofs.Unique.{one_answer}
use Rattle.nn_combined.specs.Combined.{nn_combined_ds_shift}

module _ {r r' : Result (Unit {0}) Refusal} {e e' : Contents 3 0} where
  nn_combined_ds_shift_lem : (shift Δz Δs : List Float) (σμ : Float) (w : List Float) → tells (of_answer r) e ≡ nn_combined_ds_shift shift Δz Δs σμ w → tells (of_answer r') e' ≡ nn_combined_ds_shift shift Δz Δs σμ w → (r ≡ r') × (e ≡ e')
  nn_combined_ds_shift_lem shift Δz Δs σμ w = one_answer
