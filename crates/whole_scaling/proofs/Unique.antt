-- The public call's contract leaves one answer and one final contents of what it was lent. Assumes nothing.
use Prim.Native.Nat.{ℕ}
use mathlib.Core.Path.{◌≡◌}
use mathlib.Core.List.{List}
use lib.Ieee.{Float}
use Rattle.std.specs.Prelude.{Result, Option}
use Rattle.answers.specs.declared.Refusal.{Refusal}
use Rattle.answers.specs.Outcome.{tells, of_scalings}
use Rattle.answers.proofs.Unique.{one_scalings}
use Rattle.conelist.specs.declared.Cone.{Cone}
use Rattle.whole_scaling.specs.List.{Written, list_update_scaling}

pub list_update_scaling_lem : {r r' : Result (Option ℕ) Refusal} (cs : List Cone) (s z w lambda u v η d : List Float) (marks : List ℕ) {e e' : Written} → tells (of_scalings r) e ≡ list_update_scaling cs s z w lambda u v η d marks → tells (of_scalings r') e' ≡ list_update_scaling cs s z w lambda u v η d marks → (r ≡ r') × (e ≡ e')
list_update_scaling_lem cs s z w lambda u v η d marks = one_scalings
