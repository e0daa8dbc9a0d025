-- Each public call's contract leaves one answer and one final contents of what it was lent. Assumes nothing.
use mathlib.Core.Path.{◌≡◌}
use mathlib.Core.List.{List}
use lib.Ieee.{Float}
use Rattle.std.specs.Prelude.{Result}
use Rattle.answers.specs.declared.Refusal.{Refusal}
use Rattle.answers.specs.declared.Margins.{Margins}
use Rattle.answers.specs.Outcome.{tells, of_answer, of_margins, Contents}
use Rattle.answers.proofs.Unique.{one_answer, one_margins}
use Rattle.soc_units.specs.Units.{soc_margins, soc_scaled_unit_shift, soc_unit_initialization}

soc_margins_lem : {r r' : Result Margins Refusal} (z : List Float) → tells (of_margins r) tt ≡ soc_margins z → tells (of_margins r') tt ≡ soc_margins z → r ≡ r'
soc_margins_lem z = one_margins

module _ {r r' : Result (Unit {0}) Refusal} where
  soc_scaled_unit_shift_lem : {e e' : Contents 1 0} (z : List Float) (α : Float) → tells (of_answer r) e ≡ soc_scaled_unit_shift z α → tells (of_answer r') e' ≡ soc_scaled_unit_shift z α → (r ≡ r') × (e ≡ e')
  soc_scaled_unit_shift_lem z α = one_answer

  soc_unit_initialization_lem : {e e' : Contents 2 0} (z s : List Float) → tells (of_answer r) e ≡ soc_unit_initialization z s → tells (of_answer r') e' ≡ soc_unit_initialization z s → (r ≡ r') × (e ≡ e')
  soc_unit_initialization_lem z s = one_answer
