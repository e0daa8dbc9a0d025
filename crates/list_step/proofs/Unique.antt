-- Each public call's contract leaves one answer. Assumes nothing.
use mathlib.Core.Path.{◌≡◌}
use mathlib.Core.List.{List}
use lib.Ieee.{Float}
use Rattle.std.specs.Prelude.{Result}
use Rattle.answers.specs.declared.Refusal.{Refusal}
use Rattle.answers.specs.declared.StepPair.{StepPair}
use Rattle.answers.specs.Outcome.{of_steps, tells}
use Rattle.answers.proofs.Unique.{one_pair}
use Rattle.conelist.specs.declared.Place.{Place}
use Rattle.conecalls.specs.Deed.{comes_at}
use Rattle.list_step.specs.Step.{step_length_deed}

module _ (p : Place) where
  pub step_length_at_lem : {r r' : Result StepPair Refusal} (dz ds z s : List Float) (αmax : Float) → tells (of_steps r) tt ≡ comes_at p (step_length_deed αmax) dz ds z s → tells (of_steps r') tt ≡ comes_at p (step_length_deed αmax) dz ds z s → r ≡ r'
  step_length_at_lem dz ds z s αmax = one_pair
