-- Each public call's contract leaves one answer and one final contents of what it was lent. Assumes nothing.
use mathlib.Core.Path.{◌≡◌}
use mathlib.Core.List.{List}
use lib.Ieee.{Float}
use Rattle.std.specs.Prelude.{Result}
use Rattle.answers.specs.declared.Refusal.{Refusal}
use Rattle.answers.specs.Outcome.{tells, of_answer, Contents}
use Rattle.answers.proofs.Unique.{one_answer}
use Rattle.soc_products.specs.Product.{soc_mul_w, soc_mul_winv}

module _ {r r' : Result (Unit {0}) Refusal} {e e' : Contents 1 0} where
  soc_mul_w_lem : (y x : List Float) (α β : Float) (w : List Float) (η : Float) → tells (of_answer r) e ≡ soc_mul_w y x α β w η → tells (of_answer r') e' ≡ soc_mul_w y x α β w η → (r ≡ r') × (e ≡ e')
  soc_mul_w_lem y x α β w η = one_answer

  soc_mul_winv_lem : (y x : List Float) (α β : Float) (w : List Float) (η : Float) → tells (of_answer r) e ≡ soc_mul_winv y x α β w η → tells (of_answer r') e' ≡ soc_mul_winv y x α β w η → (r ≡ r') × (e ≡ e')
  soc_mul_winv_lem y x α β w η = one_answer
