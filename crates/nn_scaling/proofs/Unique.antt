-- Each public call's contract leaves one answer and one final contents of what it was lent. Assumes nothing.
use mathlib.Core.Path.{◌≡◌}
use mathlib.Core.List.{List}
use lib.Ieee.{Float}
use Rattle.std.specs.Prelude.{Result, Bool}
use Rattle.answers.specs.declared.Refusal.{Refusal}
use Rattle.answers.specs.Outcome.{tells, of_scaling, Contents}
use Rattle.answers.proofs.Unique.{one_scaling}
use Rattle.nn_scaling.specs.Scaling.{nn_update_scaling}

module _ {e e' : Contents 2 0} where
  nn_update_scaling_lem : {r r' : Result Bool Refusal} (s z w lambda : List Float) → tells (of_scaling r) e ≡ nn_update_scaling s z w lambda → tells (of_scaling r') e' ≡ nn_update_scaling s z w lambda → (r ≡ r') × (e ≡ e')
  nn_update_scaling_lem s z w lambda = one_scaling
