-- Document 01's lines of identity scaling, computed: one statement over one list. Assumes nothing.
use Prim.Native.Nat.{ℕ}
use mathlib.Core.Path.{refl}
use mathlib.Core.List.{List, [], ◌∷◌}
use lib.ListN.{replicate}
use lib.Ieee.{Float, round, of_bits}
use Rattle.vecmath.specs.Vector.{each, constant}
use Rattle.vecmath.proofs.Examples.{near, Line, ◌⇒◌, Right}
use Rattle.tails.specs.Tail.{leading}
use Rattle.answers.specs.Refusal.{◌⊳◌, bad_dimension, unlike}
use Rattle.answers.specs.Outcome.{done, gives, refuses, call_of, Came, ◌⨾◌}
use Rattle.soc_identity.specs.Identity.{1/√2, identity_scaling, soc_set_identity_scaling}

-- a, b, b, ..: n + 1 entries
abbrev led : ℕ → Float → Float → List Float
led n a b = a ∷ replicate n b

-- identity scaling of n + 1 entries
abbrev identity : ℕ → Came 3 2
identity n = soc_set_identity_scaling (led n (near 1 1) (near 2 1)) (led n (near 3 1) (near 4 1)) (led n (near 5 1) (near 6 1)) (near 7 1) (near 8 1)

abbrev is : ℕ → List Float → List Float → Float → Came 3 2
is n u v d = record { ruling = gives done; holds = led n (near 1 1) (near 0 1) ⨾ u ⨾ v ⨾ near 1 1 ⨾ d ⨾ tt }

-- four entries are dense, five sparse; one is refused
lines : List (Line (Came 3 2))
lines =
    (identity 3 ⇒ is 3 (led 3 (near 3 1) (near 4 1)) (led 3 (near 5 1) (near 6 1)) (near 8 1))
    ∷ (identity 4 ⇒ is 4 (led 4 1/√2 (near 0 1)) (led 4 (near 0 1) (near 0 1)) (near 1 2))
    ∷ (identity 0 ⇒ record { ruling = refuses 1; holds = (near 1 1 ∷ []) ⨾ (near 3 1 ∷ []) ⨾ (near 5 1 ∷ []) ⨾ near 7 1 ⨾ near 8 1 ⨾ tt })
    ∷ []

worked : Right lines
unfolding lines call_of ◌⊳◌ bad_dimension unlike identity_scaling leading constant each round of_bits
worked = refl
