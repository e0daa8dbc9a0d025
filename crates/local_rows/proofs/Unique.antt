-- The public calls' contracts leave one answer each. Assumes nothing.
use Prim.Native.Nat.{ℕ}
use mathlib.Core.Path.{◌≡◌, sym, ◌∙◌}
use mathlib.Core.List.{List}
use lib.Ieee.{Float}
use lib.ListN.{take}
use Rattle.std.specs.Prelude.{Result}
use Rattle.answers.specs.declared.Refusal.{Refusal}
use Rattle.answers.specs.declared.StepPair.{StepPair}
use Rattle.answers.specs.Outcome.{tells, of_steps}
use Rattle.answers.proofs.Unique.{one_pair}
use Rattle.conelist.specs.declared.Cone.{Cone}
use Rattle.conelist.specs.declared.Place.{Place}
use Rattle.conelist.specs.Layout.{place_of}
use Rattle.whole_step.specs.List.{list_step_length}

pub front_lem : {r r' : List Cone} (cs : List Cone) (c : ℕ) → r ≡ take c cs → r' ≡ take c cs → r ≡ r'
front_lem cs c p q = p ∙ sym q

pub place_in_lem : {r r' : Place} (cs : List Cone) (c k : ℕ) → r ≡ place_of (take c cs) k → r' ≡ place_of (take c cs) k → r ≡ r'
place_in_lem cs c k p q = p ∙ sym q

-- the list step over the front
pub list_step_in_lem : {r r' : Result StepPair Refusal} (cs : List Cone) (c : ℕ) (dz ds z s : List Float) (αmax : Float) → tells (of_steps r) tt ≡ list_step_length (take c cs) dz ds z s αmax → tells (of_steps r') tt ≡ list_step_length (take c cs) dz ds z s αmax → r ≡ r'
list_step_in_lem cs c dz ds z s αmax = one_pair
