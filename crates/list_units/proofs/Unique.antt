-- The public call's contract leaves one answer and one final contents of what it was lent. Assumes nothing.
use mathlib.Core.Path.{◌≡◌}
use mathlib.Core.List.{List}
use lib.Ieee.{Float}
use Rattle.std.specs.Prelude.{Result}
use Rattle.answers.specs.declared.Refusal.{Refusal}
use Rattle.answers.specs.Outcome.{tells, of_answer}
use Rattle.answers.proofs.Unique.{one_answer}
use Rattle.conelist.specs.declared.Place.{Place}
use Rattle.conecalls.specs.Deed.{Whole, Tuple, comes_at}
use Rattle.list_units.specs.Units.{unit_initialization_deed}

module _ (p : Place) {r r' : Result (Unit {0}) Refusal} where
  pub unit_initialization_at_lem : (z s : List Float) {e e' : Tuple Whole unit_initialization_deed.writes} → tells (of_answer r) e ≡ comes_at p unit_initialization_deed z s → tells (of_answer r') e' ≡ comes_at p unit_initialization_deed z s → (r ≡ r') × (e ≡ e')
  unit_initialization_at_lem z s = one_answer
