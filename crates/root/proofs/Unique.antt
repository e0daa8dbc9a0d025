-- The public call's contract leaves one result. Assumes nothing.
use Rattle.std.proofs.Common.{◌≡◌, sym, ◌∙◌}
use lib.Ieee.{Float}
use Rattle.root.specs.Root.{root}

sqrt_lem : {r r' : Float} (x : Float) → r ≡ root x → r' ≡ root x → r ≡ r'
sqrt_lem x p q = p ∙ sym q
