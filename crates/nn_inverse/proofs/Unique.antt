-- Each public call's contract leaves one answer and one final contents of what it was lent. Assumes nothing.
use mathlib.Core.Path.{◌≡◌}
use mathlib.Core.List.{List}
use lib.Ieee.{Float}
use Rattle.std.specs.Prelude.{Result}
use Rattle.answers.specs.declared.Refusal.{Refusal}
use Rattle.answers.specs.Outcome.{tells, of_answer, Contents}
use Rattle.answers.proofs.Unique.{one_answer}
use Rattle.nn_inverse.specs.Inverse.{nn_inv_circ_op, nn_lambda_inv_circ_op}

module _ {r r' : Result (Unit {0}) Refusal} {e e' : Contents 1 0} where
  nn_inv_circ_op_lem : (x y z : List Float) → tells (of_answer r) e ≡ nn_inv_circ_op x y z → tells (of_answer r') e' ≡ nn_inv_circ_op x y z → (r ≡ r') × (e ≡ e')
  nn_inv_circ_op_lem x y z = one_answer

  nn_lambda_inv_circ_op_lem : (x z lambda : List Float) → tells (of_answer r) e ≡ nn_lambda_inv_circ_op x z lambda → tells (of_answer r') e' ≡ nn_lambda_inv_circ_op x z lambda → (r ≡ r') × (e ≡ e')
  nn_lambda_inv_circ_op_lem x z lambda = one_answer
