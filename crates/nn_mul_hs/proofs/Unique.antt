-- Each public call's contract leaves one answer and one final contents of what it was lent. Assumes nothing.
use mathlib.Core.Path.{◌≡◌}
use mathlib.Core.List.{List}
use lib.Ieee.{Float}
use Rattle.std.specs.Prelude.{Result}
use Rattle.answers.specs.declared.Refusal.{Refusal}
use Rattle.answers.specs.Outcome.{tells, of_answer, Contents}
use Rattle.answers.proofs.Unique.{one_answer}
use Rattle.nn_mul_hs.specs.Block.{nn_mul_hs}

module _ {r r' : Result (Unit {0}) Refusal} {e e' : Contents 1 0} where
  nn_mul_hs_lem : (y x w : List Float) → tells (of_answer r) e ≡ nn_mul_hs y x w → tells (of_answer r') e' ≡ nn_mul_hs y x w → (r ≡ r') × (e ≡ e')
  nn_mul_hs_lem y x w = one_answer
