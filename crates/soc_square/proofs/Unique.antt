-- Each public call's contract leaves one answer and one final contents of what it was lent. Assumes nothing.
use mathlib.Core.Path.{◌≡◌}
use mathlib.Core.List.{List}
use lib.Ieee.{Float}
use Rattle.answers.specs.declared.Square.{Square}
use Rattle.answers.specs.Outcome.{as_squared, of_square}
use Rattle.answers.proofs.Unique.{one_square}
use Rattle.soc_square.specs.Square.{soc_square_hs}

soc_square_hs_lem : {r r' : Square} (w : List Float) (η : Float) → of_square r ≡ as_squared (soc_square_hs w η).ruling → of_square r' ≡ as_squared (soc_square_hs w η).ruling → r ≡ r'
soc_square_hs_lem w η = one_square
