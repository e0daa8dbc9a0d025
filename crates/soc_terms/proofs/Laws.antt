-- The root scale of w by s's and z's own entries; and what is computed has its slice's length, for every n. Assumes nothing.
use Prim.Native.Nat.{ℕ, zero, suc, ◌≤◌}
use native.Mathlib.Omega.{arith}
use mathlib.Core.Path.{◌≡◌, refl}
use mathlib.Core.List.{List, [], ◌∷◌}
use lib.ListN.{length, length-drop}
use lib.Ieee.{Float, neg}
use Rattle.vecmath.specs.Double.{◌⊕◌, ◌⊗◌, ◌⊘◌, 𝟏, ◌!◌}
use Rattle.vecmath.specs.Vector.{each, norm, scale_of, axpby}
use Rattle.vecmath.proofs.Loops.{length_each}
use Rattle.tails.specs.Tail.{tail}
use Rattle.soc_residual.specs.Residual.{residual_of, residual, root_scale_of, root_scale}
use Rattle.soc_terms.specs.Terms.{point_of, normed_of, lambda_of}

-- ---- the root scale of w

-- a scaled vector's first entry and the rest
each_first : {A : Type 0} (n : ℕ) (f : ℕ → A) → each (suc n) f ≡ f 0 ∷ each n (λ k. f (suc k))
unfolding each
each_first zero f = refl
each_first (suc n) f = rw (each_first n f)

scale_first : (a b : Float) (x : List Float) → scale_of a (b ∷ x) ≡ a ⊗ b ∷ scale_of a x
unfolding scale_of
scale_first a b x = each_first (length x) _

pub scale_of_point : (s z : List Float) (σ ζ : Float) → 1 ≤ length s
    → root_scale_of (residual_of (𝟏 ⊘ σ ⊗ s ! 0 ⊕ z ! 0 ⊘ ζ) (norm (axpby (neg (𝟏 ⊘ ζ)) (tail z) 𝟏 (scale_of (𝟏 ⊘ σ) (tail s))))) ≡ root_scale (point_of s z σ ζ)
unfolding point_of root_scale residual
scale_of_point [] z σ ζ h = absurd (omega arith)
scale_of_point (a ∷ s) z σ ζ h = rw (scale_first (𝟏 ⊘ σ) a s)

-- ---- lengths

module _ (n : ℕ) (some : 1 ≤ n) where
  pub length_point : (s z : List Float) (σ ζ : Float) → length z ≡ n → length (point_of s z σ ζ) ≡ n
  unfolding point_of axpby
  length_point s z σ ζ e = simp (length_each, length-drop) (omega arith)

  pub length_normed : (w : List Float) (ω : Float) → length w ≡ n → length (normed_of w ω) ≡ n
  unfolding normed_of scale_of
  length_normed w ω e = simp (length-drop, length_each) (omega arith)

  pub length_lambda : (s z : List Float) (σ ζ ω : Float) → length s ≡ n → length (lambda_of s z σ ζ ω) ≡ n
  unfolding lambda_of scale_of axpby
  length_lambda s z σ ζ ω e = simp (length_each, length-drop) (omega arith)
