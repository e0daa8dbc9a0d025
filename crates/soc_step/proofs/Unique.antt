-- Each public call's contract leaves one answer. Assumes nothing.
use mathlib.Core.Path.{◌≡◌}
use mathlib.Core.List.{List}
use lib.Ieee.{Float}
use Rattle.std.specs.Prelude.{Result}
use Rattle.answers.specs.declared.Refusal.{Refusal}
use Rattle.answers.specs.declared.StepPair.{StepPair}
use Rattle.answers.specs.Outcome.{tells, of_number, of_steps}
use Rattle.answers.proofs.Unique.{one_number, one_pair}
use Rattle.soc_step.specs.Step.{soc_step, soc_step_length}

soc_step_lem : {r r' : Result Float Refusal} (x y : List Float) (αmax : Float) → tells (of_number r) tt ≡ soc_step x y αmax → tells (of_number r') tt ≡ soc_step x y αmax → r ≡ r'
soc_step_lem x y αmax = one_number

soc_step_length_lem : {r r' : Result StepPair Refusal} (dz ds z s : List Float) (αmax : Float) → tells (of_steps r) tt ≡ soc_step_length dz ds z s αmax → tells (of_steps r') tt ≡ soc_step_length dz ds z s αmax → r ≡ r'
soc_step_length_lem dz ds z s αmax = one_pair
