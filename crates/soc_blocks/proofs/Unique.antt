-- Each public call's contract leaves one answer and one final contents of what it was lent. Assumes nothing.
use mathlib.Core.Path.{◌≡◌}
use mathlib.Core.List.{List}
use lib.Ieee.{Float}
use Rattle.std.specs.Prelude.{Result}
use Rattle.answers.specs.declared.Refusal.{Refusal}
use Rattle.answers.specs.Outcome.{tells, of_answer, Contents}
use Rattle.answers.proofs.Unique.{one_answer}
use Rattle.soc_blocks.specs.Block.{soc_get_hs}

soc_get_hs_lem : {r r' : Result (Unit {0}) Refusal} {e e' : Contents 1 0} (hs w : List Float) (η d : Float) → tells (of_answer r) e ≡ soc_get_hs hs w η d → tells (of_answer r') e' ≡ soc_get_hs hs w η d → (r ≡ r') × (e ≡ e')
soc_get_hs_lem hs w η d = one_answer
