-- Each public call's contract leaves one answer. Assumes nothing.
use mathlib.Core.Path.{◌≡◌}
use mathlib.Core.List.{List}
use lib.Ieee.{Float}
use Rattle.std.specs.Prelude.{Result}
use Rattle.answers.specs.declared.Refusal.{Refusal}
use Rattle.answers.specs.declared.Standing.{Standing}
use Rattle.answers.specs.Outcome.{tells, of_stands}
use Rattle.answers.proofs.Unique.{one_standing}
use Rattle.standing.specs.Standing.{soc_stands, nn_stands}

soc_standing_lem : {r r' : Result Standing Refusal} (z : List Float) → tells (of_stands r) tt ≡ soc_stands z → tells (of_stands r') tt ≡ soc_stands z → r ≡ r'
soc_standing_lem z = one_standing

nn_standing_lem : {r r' : Result Standing Refusal} (z : List Float) → tells (of_stands r) tt ≡ nn_stands z → tells (of_stands r') tt ≡ nn_stands z → r ≡ r'
nn_standing_lem z = one_standing
