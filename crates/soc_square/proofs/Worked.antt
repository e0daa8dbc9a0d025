-- Worked examples of the bare call, computed: one statement over one list. Assumes nothing.
use mathlib.Core.Path.{refl}
use mathlib.Core.List.{List, [], ◌∷◌}
use lib.ListN.{replicate}
use lib.Ieee.{Float, binary64, round, of_bits, add, sub, mul}
use Rattle.vecmath.specs.Double.{𝟎, 𝟏, 𝟐}
use Rattle.vecmath.specs.Vector.{each}
use Rattle.vecmath.proofs.Examples.{near, Line, ◌⇒◌, Right}
use Rattle.answers.specs.Refusal.{◌⊳◌, bad_dimension, not_dense}
use Rattle.answers.specs.Outcome.{Ruling, gives, refuses, call_of}
use Rattle.soc_blocks.specs.Block.{dense_entry}
use Rattle.soc_square.specs.Square.{square_entry, square_hs, soc_square_hs}

-- dimension 2 of 4; 5 is not dense; dimension 1
lines : List (Line (Ruling (List (List Float))))
lines =
    ((soc_square_hs (near 5 4 ∷ near 3 4 ∷ []) 𝟐).ruling ⇒ gives (
    (of_bits binary64 0x4021_0000_0000_0001 ∷ near 15 2 ∷ 𝟎 ∷ 𝟎 ∷ [])
    ∷ (near 15 2 ∷ near 17 2 ∷ 𝟎 ∷ 𝟎 ∷ [])
    ∷ replicate 4 𝟎 ∷ replicate 4 𝟎 ∷ []))
    ∷ ((soc_square_hs (replicate 5 𝟏) 𝟐).ruling ⇒ refuses 7)
    ∷ ((soc_square_hs (𝟏 ∷ []) 𝟐).ruling ⇒ refuses 1)
    ∷ []

worked : Right lines
unfolding lines square_hs square_entry dense_entry each call_of ◌⊳◌ bad_dimension not_dense round of_bits add sub mul
worked = refl
