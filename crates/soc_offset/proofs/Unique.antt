-- The public call's contract leaves one answer and one final contents of what it was lent. Assumes nothing.
use mathlib.Core.Path.{◌≡◌}
use mathlib.Core.List.{List}
use lib.Ieee.{Float}
use Rattle.std.specs.Prelude.{Result}
use Rattle.answers.specs.declared.Refusal.{Refusal}
use Rattle.answers.specs.Outcome.{tells, of_answer, Contents}
use Rattle.answers.proofs.Unique.{one_answer}
use Rattle.soc_offset.specs.Offset.{soc_ds_from_dz_offset}

module _ {r r' : Result (Unit {0}) Refusal} {e e' : Contents 1 0} where
  soc_ds_from_dz_offset_lem : (out ds z w lambda : List Float) (η : Float) → tells (of_answer r) e ≡ soc_ds_from_dz_offset out ds z w lambda η → tells (of_answer r') e' ≡ soc_ds_from_dz_offset out ds z w lambda η → (r ≡ r') × (e ≡ e')
  soc_ds_from_dz_offset_lem out ds z w lambda η = one_answer
