-- The public call's contract leaves one answer and one final contents of what it was lent. Assumes nothing.
use Prim.Native.Nat.{ℕ}
use mathlib.Core.Path.{◌≡◌}
use mathlib.Core.List.{List}
use lib.Ieee.{Float}
use Rattle.std.specs.Prelude.{Result, Bool}
use Rattle.answers.specs.declared.Refusal.{Refusal}
use Rattle.answers.specs.Outcome.{tells, of_scaling}
use Rattle.answers.proofs.Unique.{one_scaling}
use Rattle.conelist.specs.declared.Place.{Place}
use Rattle.conecalls.specs.Deed.{Whole, Tuple, comes_at}
use Rattle.list_scaling.specs.Scaling.{update_scaling_deed}

update_scaling_at_lem : (p : Place) {r r' : Result Bool Refusal} (w lambda u v η d : List Float) (marks : List ℕ) (s z : List Float) {e e' : Tuple Whole update_scaling_deed.writes} → tells (of_scaling r) e ≡ comes_at p update_scaling_deed w lambda u v η d marks s z → tells (of_scaling r') e' ≡ comes_at p update_scaling_deed w lambda u v η d marks s z → (r ≡ r') × (e ≡ e')
update_scaling_at_lem p w lambda u v η d marks s z = one_scaling
