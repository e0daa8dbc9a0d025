-- Each public call's contract leaves one answer and one final contents of what it was lent. Assumes nothing.
use mathlib.Core.Path.{◌≡◌}
use mathlib.Core.List.{List}
use lib.Ieee.{Float}
use Rattle.std.specs.Prelude.{Result}
use Rattle.answers.specs.declared.Refusal.{Refusal}
use Rattle.answers.specs.Outcome.{tells, of_answer, Contents}
use Rattle.answers.proofs.Unique.{one_answer}
use Rattle.nn_identity.specs.Identity.{nn_set_identity_scaling}

module _ {e e' : Contents 1 0} where
  module _ {r r' : Result (Unit {0}) Refusal} where
    nn_set_identity_scaling_lem : (w : List Float) → tells (of_answer r) e ≡ nn_set_identity_scaling w → tells (of_answer r') e' ≡ nn_set_identity_scaling w → (r ≡ r') × (e ≡ e')
    nn_set_identity_scaling_lem w = one_answer
