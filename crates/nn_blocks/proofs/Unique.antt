-- Each public call's contract leaves one answer and one final contents of what it was lent. Assumes nothing.
use mathlib.Core.Path.{◌≡◌}
use mathlib.Core.List.{List}
use lib.Ieee.{Float}
use Rattle.std.specs.Prelude.{Result}
use Rattle.answers.specs.declared.Refusal.{Refusal}
use Rattle.answers.specs.Outcome.{tells, of_answer, Contents}
use Rattle.answers.proofs.Unique.{one_answer}
use Rattle.nn_blocks.specs.Block.{nn_get_hs}

module _ {e e' : Contents 1 0} where
  module _ {r r' : Result (Unit {0}) Refusal} where
    nn_get_hs_lem : (hs w : List Float) → tells (of_answer r) e ≡ nn_get_hs hs w → tells (of_answer r') e' ≡ nn_get_hs hs w → (r ≡ r') × (e ≡ e')
    nn_get_hs_lem hs w = one_answer
