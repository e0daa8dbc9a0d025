-- Each public call's contract leaves one answer and one final contents of what it was lent. Assumes nothing.
use mathlib.Core.Path.{◌≡◌}
use mathlib.Core.List.{List}
use lib.Ieee.{Float}
use Rattle.std.specs.Prelude.{Result}
use Rattle.answers.specs.declared.Refusal.{Refusal}
use Rattle.answers.specs.Outcome.{tells, of_answer, Contents}
use Rattle.answers.proofs.Unique.{one_answer}
use Rattle.nn_products.specs.Products.{nn_mul_w, nn_mul_winv}

module _ {r r' : Result (Unit {0}) Refusal} {e e' : Contents 1 0} where
  nn_mul_w_lem : (y x : List Float) (α β : Float) (w : List Float) → tells (of_answer r) e ≡ nn_mul_w y x α β w → tells (of_answer r') e' ≡ nn_mul_w y x α β w → (r ≡ r') × (e ≡ e')
  nn_mul_w_lem y x α β w = one_answer

  nn_mul_winv_lem : (y x : List Float) (α β : Float) (w : List Float) → tells (of_answer r) e ≡ nn_mul_winv y x α β w → tells (of_answer r') e' ≡ nn_mul_winv y x α β w → (r ≡ r') × (e ≡ e')
  nn_mul_winv_lem y x α β w = one_answer
