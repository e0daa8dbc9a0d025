-- The contract leaves one final contents of the six buffers; there is no answer beside it. Assumes nothing.
use mathlib.Core.Path.{◌≡◌, sym, ◌∙◌}
use mathlib.Core.List.{List}
use lib.Ieee.{Float}
use Rattle.answers.specs.Outcome.{Contents}
use Rattle.fresh.specs.State.{fresh_state}

pub fresh_state_lem : {e e' : Contents 6 0} (w lambda u v η d : List Float) → e ≡ fresh_state w lambda u v η d → e' ≡ fresh_state w lambda u v η d → e ≡ e'
fresh_state_lem w lambda u v η d p q = p ∙ sym q
