-- Each public call's contract leaves one answer and one final contents of what it was lent. Assumes nothing.
use mathlib.Core.Path.{◌≡◌}
use mathlib.Core.List.{List}
use lib.Ieee.{Float}
use Rattle.std.specs.Prelude.{Result}
use Rattle.answers.specs.declared.Refusal.{Refusal}
use Rattle.answers.specs.declared.Margins.{Margins}
use Rattle.answers.specs.Outcome.{of_margins, tells}
use Rattle.answers.proofs.Unique.{one_margins}
use Rattle.conelist.specs.declared.Place.{Place}
use Rattle.conecalls.specs.Deed.{comes_at}
use Rattle.list_margins.specs.Margins.{margins_deed}

module _ (p : Place) where
  pub margins_at_lem : {r r' : Result Margins Refusal} (z : List Float) → tells (of_margins r) tt ≡ comes_at p margins_deed z → tells (of_margins r') tt ≡ comes_at p margins_deed z → r ≡ r'
  margins_at_lem z = one_margins
