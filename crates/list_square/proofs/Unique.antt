-- Each public call's contract leaves one answer and one final contents of what it was lent. Assumes nothing.
use Prim.Native.Nat.{ℕ}
use mathlib.Core.Path.{◌≡◌}
use mathlib.Core.List.{List}
use lib.Ieee.{Float}
use Rattle.answers.specs.declared.Square.{Square}
use Rattle.answers.specs.Outcome.{of_square, as_squared}
use Rattle.answers.proofs.Unique.{one_square}
use Rattle.conelist.specs.declared.Place.{Place}
use Rattle.conecalls.specs.Deed.{comes_at}
use Rattle.list_square.specs.Square.{square_hs_deed}

module _ (p : Place) where
  square_hs_at_lem : {r r' : Square} (w η : List Float) (marks : List ℕ) → of_square r ≡ as_squared (comes_at p square_hs_deed w η marks).ruling → of_square r' ≡ as_squared (comes_at p square_hs_deed w η marks).ruling → r ≡ r'
  square_hs_at_lem w η marks = one_square
