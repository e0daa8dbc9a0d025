-- Each public call's contract leaves one result. Assumes nothing.
use mathlib.Core.Path.{◌≡◌, sym, ◌∙◌}
use lib.Ieee.{Float}
use Rattle.extrema.specs.Extrema.{least_of, greatest_of}

least_lem : {r r' : Float} (a b : Float) → r ≡ least_of a b → r' ≡ least_of a b → r ≡ r'
least_lem a b p q = p ∙ sym q

greatest_lem : {r r' : Float} (a b : Float) → r ≡ greatest_of a b → r' ≡ greatest_of a b → r ≡ r'
greatest_lem a b p q = p ∙ sym q
