-- Each public call's contract leaves one answer and one final contents of what it was lent. Assumes nothing.
use mathlib.Core.Path.{◌≡◌}
use mathlib.Core.List.{List}
use lib.Ieee.{Float}
use Rattle.std.specs.Prelude.{Result}
use Rattle.answers.specs.declared.Refusal.{Refusal}
use Rattle.answers.specs.Outcome.{tells, of_answer, Contents}
use Rattle.answers.proofs.Unique.{one_answer}
use Rattle.soc_mul_hs.specs.Block.{soc_mul_hs}

module _ {r r' : Result (Unit {0}) Refusal} {e e' : Contents 1 0} where
  soc_mul_hs_lem : (y x w : List Float) (η : Float) → tells (of_answer r) e ≡ soc_mul_hs y x w η → tells (of_answer r') e' ≡ soc_mul_hs y x w η → (r ≡ r') × (e ≡ e')
  soc_mul_hs_lem y x w η = one_answer
