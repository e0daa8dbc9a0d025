-- Each public call's contract leaves one answer and one final contents of what it was lent. Assumes nothing.
use mathlib.Core.Path.{◌≡◌}
use mathlib.Core.List.{List}
use lib.Ieee.{Float}
use Rattle.std.specs.Prelude.{Result}
use Rattle.answers.specs.declared.Refusal.{Refusal}
use Rattle.answers.specs.Outcome.{tells, of_number}
use Rattle.answers.proofs.Unique.{one_number}
use Rattle.soc_residual.specs.Residual.{soc_residual, soc_residual_shifted, sqrt_soc_residual}

module _ {r r' : Result Float Refusal} where
  soc_residual_lem : (z : List Float) → tells (of_number r) tt ≡ soc_residual z → tells (of_number r') tt ≡ soc_residual z → r ≡ r'
  soc_residual_lem z = one_number

  soc_residual_shifted_lem : (z dz : List Float) (α : Float) → tells (of_number r) tt ≡ soc_residual_shifted z dz α → tells (of_number r') tt ≡ soc_residual_shifted z dz α → r ≡ r'
  soc_residual_shifted_lem z dz α = one_number

  sqrt_soc_residual_lem : (z : List Float) → tells (of_number r) tt ≡ sqrt_soc_residual z → tells (of_number r') tt ≡ sqrt_soc_residual z → r ≡ r'
  sqrt_soc_residual_lem z = one_number
