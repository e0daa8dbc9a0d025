-- Each public call's contract leaves one answer and one final contents of what it was lent. Assumes nothing.
use mathlib.Core.Path.{◌≡◌}
use mathlib.Core.List.{List}
use lib.Ieee.{Float}
use Rattle.std.specs.Prelude.{Result}
use Rattle.answers.specs.declared.Refusal.{Refusal}
use Rattle.answers.specs.Outcome.{tells, of_answer, Contents}
use Rattle.answers.proofs.Unique.{one_answer}
use Rattle.soc_jordan.specs.Jordan.{soc_circ_op, soc_affine_ds}

module _ {r r' : Result (Unit {0}) Refusal} {e e' : Contents 1 0} where
  soc_circ_op_lem : (x y z : List Float) → tells (of_answer r) e ≡ soc_circ_op x y z → tells (of_answer r') e' ≡ soc_circ_op x y z → (r ≡ r') × (e ≡ e')
  soc_circ_op_lem x y z = one_answer

  soc_affine_ds_lem : (ds lambda : List Float) → tells (of_answer r) e ≡ soc_affine_ds ds lambda → tells (of_answer r') e' ≡ soc_affine_ds ds lambda → (r ≡ r') × (e ≡ e')
  soc_affine_ds_lem ds lambda = one_answer
