-- Each public call's contract leaves one answer. Assumes nothing.
use mathlib.Core.Path.{◌≡◌}
use mathlib.Core.List.{List}
use lib.Ieee.{Float}
use Rattle.std.specs.Prelude.{Result}
use Rattle.answers.specs.declared.Refusal.{Refusal}
use Rattle.answers.specs.declared.Standing.{Standing}
use Rattle.answers.specs.Outcome.{of_stands, tells}
use Rattle.answers.proofs.Unique.{one_standing}
use Rattle.conelist.specs.declared.Place.{Place}
use Rattle.conecalls.specs.Deed.{comes_at}
use Rattle.list_standing.specs.Standing.{standing_deed}

module _ (p : Place) where
  pub standing_at_lem : {r r' : Result Standing Refusal} (z : List Float) → tells (of_stands r) tt ≡ comes_at p standing_deed z → tells (of_stands r') tt ≡ comes_at p standing_deed z → r ≡ r'
  standing_at_lem z = one_standing
