-- Each public call's contract leaves one answer and one final contents of what it was lent. Written by tools/surface. Assumes nothing.
use Prim.Native.Nat.{ℕ}
use mathlib.Core.Path.{◌≡◌}
use mathlib.Core.List.{List}
use lib.Ieee.{Float}
use Rattle.std.specs.Prelude.{Result}
use Rattle.answers.specs.declared.Refusal.{Refusal}
use Rattle.answers.specs.Outcome.{tells, of_answer}
use Rattle.answers.proofs.Unique.{one_answer}
use Rattle.conelist.specs.declared.Place.{Place}
use Rattle.conecalls.specs.Deed.{Whole, Tuple, comes_at}
use Rattle.list_identity.specs.Identity.{set_identity_scaling_deed}

pub set_identity_scaling_at_lem : (p : Place) {r r' : Result (Unit {0}) Refusal} (w u v η d : List Float) (marks : List ℕ) {e e' : Tuple Whole set_identity_scaling_deed.writes} → tells (of_answer r) e ≡ comes_at p set_identity_scaling_deed w u v η d marks → tells (of_answer r') e' ≡ comes_at p set_identity_scaling_deed w u v η d marks → (r ≡ r') × (e ≡ e')
set_identity_scaling_at_lem p w u v η d marks = one_answer
