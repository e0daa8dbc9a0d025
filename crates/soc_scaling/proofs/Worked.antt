-- Document 01's lines of the scaling, and further ones, computed: one statement over one list. Assumes nothing.
use Prim.Native.Nat.{ℕ}
use mathlib.Core.Path.{refl}
use mathlib.Core.Bool.{Bool, true, false}
use mathlib.Core.List.{List, [], ◌∷◌}
use lib.ListN.{replicate}
use lib.Ieee.{Float, nan, binary64, round, of_bits, add, sub, mul, div, neg, eq, lt}
use Rattle.root.specs.Root.{root}
use Rattle.vecmath.specs.Vector.{each, fold_of, dot, scale_of, axpby}
use Rattle.vecmath.proofs.Examples.{near, minus, Line, ◌⇒◌, Right}
use Rattle.answers.specs.Refusal.{◌⊳◌, bad_dimension, unlike}
use Rattle.answers.specs.Outcome.{truth, gives, call_of, Came}
use Rattle.soc_residual.specs.Residual.{residual, root_scale}
use Rattle.soc_terms.specs.Terms.{point_of, normed_of, lambda_of}
use Rattle.soc_sparse.specs.Sparse.{square_of, sparse_d, sparse_u, sparse_v}
use Rattle.soc_scaling.specs.Scaling.{stored, update_scaling, soc_update_scaling}
use Rattle.soc_identity.specs.Identity.{1/√2}

-- a, b, b, ..: n + 1 entries
abbrev led : ℕ → Float → Float → List Float
led n a b = a ∷ replicate n b

abbrev bits : ℕ → Float
bits b = of_bits binary64 b

-- a scaling of two entries, where what was stored is told from what is written
abbrev scale : List Float → List Float → Came 4 2
scale s z = soc_update_scaling s z (led 1 (near 11 1) (near 12 1)) (led 1 (near 13 1) (near 14 1)) (led 1 (near 15 1) (near 16 1)) (led 1 (near 17 1) (near 18 1)) (near 19 1) (near 20 1)

abbrev gave : Bool → Float → List Float → List Float → Came 4 2
gave t η w lambda = record { ruling = gives (truth t); holds = stored w lambda (led 1 (near 15 1) (near 16 1)) (led 1 (near 17 1) (near 18 1)) η (near 20 1) }

lines : List (Line (Came 4 2))
lines =
    (scale (led 1 (near 5 1) (near 3 1)) (led 1 (near 5 1) (minus 3 1)) ⇒ gave true (near 1 1) (led 1 (near 5 4) (near 3 4)) (led 1 (near 4 1) (near 0 1)))
    -- a late false, as document 02, item 4, changes it
    ∷ (scale (led 1 (near 2 1) (near 0 1)) (led 1 (minus 2 1) (near 0 1)) ⇒ gave false (near 19 1) (led 1 (near 11 1) (near 12 1)) (led 1 (near 13 1) (near 14 1)))
    ∷ (scale (led 1 (minus 2 1) (near 0 1)) (led 1 (minus 2 1) (near 0 1)) ⇒ gave true (near 1 1) (led 1 (near 1 1) (near 0 1)) (led 1 (near 2 1) nan))
    -- an early false, by z and by s
    ∷ (scale (led 1 (near 5 1) (near 3 1)) (led 1 (near 1 1) (near 1 1)) ⇒ gave false (near 19 1) (led 1 (near 11 1) (near 12 1)) (led 1 (near 13 1) (near 14 1)))
    ∷ (scale (led 1 (near 1 1) (near 1 1)) (led 1 (near 5 1) (near 3 1)) ⇒ gave false (near 19 1) (led 1 (near 11 1) (near 12 1)) (led 1 (near 13 1) (near 14 1)))
    -- a sparse cone, whose old u has a NaN
    ∷ (soc_update_scaling (led 4 (near 1 1) (near 0 1)) (led 4 (near 1 1) (near 0 1)) (led 4 nan nan) (led 4 nan nan) (near 15 1 ∷ nan ∷ led 2 (near 16 1) (near 16 1)) (led 4 nan (near 18 1)) nan nan
    ⇒ record { ruling = gives (truth true); holds = stored (led 4 (near 1 1) (near 0 1)) (led 4 (near 1 1) (near 0 1)) (1/√2 ∷ nan ∷ led 2 (near 0 1) (near 0 1)) (led 4 (near 0 1) (near 0 1)) (near 1 1) (near 1 2) })
    -- a sparse cone whose w₁ is not 0, in no entry, and whose old v has a NaN; η, d and each entry computed beside, with no prover
    ∷ (soc_update_scaling (near 9 1 ∷ near 1 1 ∷ near 2 1 ∷ near 3 1 ∷ near 4 1 ∷ []) (near 7 1 ∷ minus 1 1 ∷ near 2 1 ∷ near 0 1 ∷ near 1 1 ∷ [])
    (led 4 (near 11 1) (near 12 1)) (led 4 (near 13 1) (near 14 1)) (led 4 (near 15 1) (near 16 1)) (near 17 1 ∷ near 18 1 ∷ near 18 1 ∷ near 18 1 ∷ nan ∷ []) (near 19 1) (near 20 1)
    ⇒ record {
      ruling = gives (truth true);
      holds = stored
          (bits 0x3FF0_AC61_B4B0_4693 ∷ bits 0x3FC0_C33F_BA6B_62F4 ∷ bits 0xBF86_DE05_BB1C_5FE9 ∷ bits 0x3FC8_1277_52DB_BFEF ∷ bits 0x3FC7_5B87_2502_DCEF ∷ [])
          (bits 0x401E_9262_6A42_72C0 ∷ bits 0xBFB5_C05C_D722_EB47 ∷ bits 0x4000_0B1C_DC85_7BBB ∷ bits 0x3FF6_06A2_969C_F38A ∷ bits 0x4003_08DF_B991_37A3 ∷ [])
          (bits 0x3FEB_9FD6_8638_13EC ∷ bits 0x3FD4_3C2D_75B2_9BA1 ∷ bits 0xBF9B_9AAD_A13F_C345 ∷ bits 0x3FDD_0F04_0CFC_EC4A ∷ bits 0x3FDC_322E_9FF2_EE2F ∷ [])
          (near 0 1 ∷ bits 0x3FD0_666E_9594_5746 ∷ bits 0xBF96_5F67_5430_13FA ∷ bits 0x3FD7_8D2D_086C_41F9 ∷ nan ∷ [])
          (bits 0x3FF0_B280_248F_79C4) (bits 0x3FDB_4E74_3B2A_E69F);
    })
    ∷ []

worked : Right lines
unfolding lines call_of ◌⊳◌ bad_dimension unlike update_scaling point_of normed_of lambda_of square_of sparse_d sparse_u sparse_v root_scale residual root scale_of axpby dot each fold_of round of_bits add sub mul div neg eq lt
worked = refl
