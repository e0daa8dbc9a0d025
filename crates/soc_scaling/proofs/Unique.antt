-- Each public call's contract leaves one answer and one final contents of what it was lent. Assumes nothing.
use mathlib.Core.Path.{◌≡◌}
use mathlib.Core.List.{List}
use lib.Ieee.{Float}
use Rattle.std.specs.Prelude.{Result, Bool}
use Rattle.answers.specs.declared.Refusal.{Refusal}
use Rattle.answers.specs.Outcome.{tells, of_scaling, Contents}
use Rattle.answers.proofs.Unique.{one_scaling}
use Rattle.soc_scaling.specs.Scaling.{soc_update_scaling}

module _ {e e' : Contents 4 2} where
  soc_update_scaling_lem : {r r' : Result Bool Refusal} (s z w lambda u v : List Float) (η d : Float) → tells (of_scaling r) e ≡ soc_update_scaling s z w lambda u v η d → tells (of_scaling r') e' ≡ soc_update_scaling s z w lambda u v η d → (r ≡ r') × (e ≡ e')
  soc_update_scaling_lem s z w lambda u v η d = one_scaling
