-- Each public call's contract leaves one answer and one final contents of what it was lent. Assumes nothing.
use mathlib.Core.Path.{◌≡◌}
use mathlib.Core.List.{List}
use lib.Ieee.{Float}
use Rattle.std.specs.Prelude.{Result}
use Rattle.answers.specs.declared.Refusal.{Refusal}
use Rattle.answers.specs.Outcome.{tells, of_answer, Contents}
use Rattle.answers.proofs.Unique.{one_answer}
use Rattle.soc_identity.specs.Identity.{soc_set_identity_scaling}

module _ {e e' : Contents 3 2} where
  soc_set_identity_scaling_lem : {r r' : Result (Unit {0}) Refusal} (w u v : List Float) (η d : Float) → tells (of_answer r) e ≡ soc_set_identity_scaling w u v η d → tells (of_answer r') e' ≡ soc_set_identity_scaling w u v η d → (r ≡ r') × (e ≡ e')
  soc_set_identity_scaling_lem w u v η d = one_answer
