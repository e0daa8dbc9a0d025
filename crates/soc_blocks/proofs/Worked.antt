-- Worked examples of the bare call, computed: one statement over one list. Assumes nothing.
use Prim.Native.Nat.{ℕ}
use mathlib.Core.Path.{refl}
use mathlib.Core.List.{List, [], ◌∷◌}
use lib.ListN.{replicate}
use lib.Ieee.{Float, binary64, nan, round, of_bits, add, sub, mul}
use Rattle.vecmath.specs.Double.{𝟎, 𝟏, 𝟐, ½}
use Rattle.vecmath.specs.Vector.{each, constant}
use Rattle.vecmath.proofs.Examples.{near, minus, Line, ◌⇒◌, Right}
use Rattle.answers.specs.Refusal.{◌⊳◌, bad_dimension, unlike}
use Rattle.answers.specs.Outcome.{done, gives, refuses, Came, call_of, ◌⨾◌}
use Rattle.soc_blocks.specs.Block.{sparse_hs, columns, dense_entry, dense_hs, hs_of, soc_get_hs}

-- into a block of NaN
abbrev block : (long : ℕ) (w : List Float) (η d : Float) → Came 1 0
block long w η d = soc_get_hs (replicate long nan) w η d

abbrev written : List Float → Came 1 0
written hs = record { ruling = gives done; holds = hs ⨾ tt }

abbrev refused : (k long : ℕ) → Came 1 0
refused k long = record { ruling = refuses k; holds = replicate long nan ⨾ tt }

-- dense at 2, 3 and 4; sparse at 5; dimension 1, and a block of another length
lines : List (Line (Came 1 0))
lines =
    (block 3 (near 5 4 ∷ near 3 4 ∷ []) 𝟐 nan ⇒ written (of_bits binary64 0x4021_0000_0000_0001 ∷ near 15 2 ∷ near 17 2 ∷ []))
    ∷ (block 6 (near 3 2 ∷ minus 1 1 ∷ ½ ∷ []) 𝟐 nan ⇒ written (of_bits binary64 0x402C_0000_0000_0002 ∷ minus 12 1 ∷ near 12 1 ∷ near 6 1 ∷ minus 4 1 ∷ near 6 1 ∷ []))
    ∷ (block 10 (𝟐 ∷ 𝟏 ∷ minus 1 1 ∷ ½ ∷ []) ½ nan ⇒ written (of_bits binary64 0x3FFC_0000_0000_0001 ∷ 𝟏 ∷ near 3 4 ∷ minus 1 1 ∷ minus 1 2 ∷ near 3 4 ∷ ½ ∷ near 1 4 ∷ minus 1 4 ∷ near 3 8 ∷ []))
    ∷ (block 5 (replicate 5 nan) (near 3 1) ½ ⇒ written (near 9 2 ∷ replicate 4 (near 9 1)))
    ∷ (block 1 (𝟏 ∷ []) 𝟏 𝟏 ⇒ refused 1 1)
    ∷ (block 4 (𝟏 ∷ 𝟎 ∷ []) 𝟏 𝟏 ⇒ refused 5 4)
    ∷ []

worked : Right lines
unfolding lines hs_of sparse_hs dense_hs dense_entry columns constant each call_of ◌⊳◌ bad_dimension unlike round of_bits add sub mul
worked = refl
