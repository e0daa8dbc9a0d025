-- Over any operation called least: where no entry of the point is below zero, the nonnegative step is the least of its limit and what it is
-- without one, so it lies in [0, αmax]; and for any point it may be called at the running least. Assumes nothing.
use Prim.Native.Nat.{ℕ, zero, suc}
use mathlib.Core.Path.{◌≡◌, refl, sym}
use mathlib.Core.Bool.{Bool, true, false, cond, false≢true}
use mathlib.Core.List.{List}
use lib.ListN.{length}
use lib.Dec.{T}
use lib.Ieee.{Float, nan, inf, fin, binary64, is_nan, lt, le, neg, mul, fits}
use Rattle.extrema.specs.Extrema.{least_of}
use Rattle.extrema.proofs.Laws.{least_first}
use Rattle.vecmath.specs.Double.{◌⊗◌, ◌⊘◌, 𝟎, ∞, ◌!◌}
use Rattle.vecmath.specs.Vector.{fold_of}
use Rattle.ordering.proofs.Least.{Edition, Trims, trims_limit, trims_least, cuts_least}
use Rattle.ordering.proofs.Shortens.{UpTo, document_01, ratio, NoNan, zero_up_to, Shortens, none_both, limit_itself}
use Rattle.ordering.proofs.Listed.{between}
use Rattle.ordering.proofs.Ratio.{ratio_stays}
use Rattle.nn_step.specs.Step.{shorter, nonneg_step, NoneBelow}

-- for a least under which a NaN is handed on (`low`): where the answer at some limit l₀ is none
module _ (low : Bool) (◌⊓◌ : Float → Float → Float) (ed : Edition (UpTo low) ◌⊓◌) (l₀ : Float) where
  pub shortens : (dz z : List Float) → NoneBelow z → NoNan low (nonneg_step ◌⊓◌ z dz l₀) → Shortens low ◌⊓◌ ed (nonneg_step ◌⊓◌ z dz)
  unfolding nonneg_step fold_of
  shortens dz z h = turns (length dz)
    where
      run : ℕ → Float → Float
      run n l = fold_of n l (λ k α. shorter ◌⊓◌ (z ! k) (dz ! k) α)

      turns : (n : ℕ) → NoNan low (run n l₀) → Shortens low ◌⊓◌ ed (run n)
      turns zero t = limit_itself low ◌⊓◌ ed
      turns (suc n) t = go (lt (dz ! n) 𝟎) refl (turns n) t
        where
          go : (b : Bool) → lt (dz ! n) 𝟎 ≡ b → (NoNan low (run n l₀) → Shortens low ◌⊓◌ ed (run n)) → NoNan low (cond b (◌⊓◌ (run n l₀) (neg (z ! n) ⊘ dz ! n)) (run n l₀))
              → Shortens low ◌⊓◌ ed (λ l. cond b (◌⊓◌ (run n l) (neg (z ! n) ⊘ dz ! n)) (run n l))
          go true e c t =
              let r = none_both low ◌⊓◌ ed (run n l₀) (neg (z ! n) ⊘ dz ! n) t in
              cuts_least (UpTo low) ◌⊓◌ ed 𝟎 ∞ (run n) _ (c r.0) (zero_up_to low _ (ratio (z ! n) (dz ! n) (h n) e) r.1)
          go false e c t = c t

-- for any point: beside its limit it counts as much as it does without one
module _ (low : Bool) (◌⊓◌ : Float → Float → Float) (ed : Edition (UpTo low) ◌⊓◌) where
  pub trims : (dz z : List Float) → Trims (UpTo low) ◌⊓◌ ed ∞ (nonneg_step ◌⊓◌ z dz)
  unfolding nonneg_step fold_of
  trims dz z = turns (length dz)
    where
      run : ℕ → Float → Float
      run n l = fold_of n l (λ k α. shorter ◌⊓◌ (z ! k) (dz ! k) α)

      turns : (n : ℕ) → Trims (UpTo low) ◌⊓◌ ed ∞ (run n)
      turns zero = trims_limit (UpTo low) ◌⊓◌ ed ∞
      turns (suc n) = go (lt (dz ! n) 𝟎) (turns n)
        where
          go : (b : Bool) → Trims (UpTo low) ◌⊓◌ ed ∞ (run n) → Trims (UpTo low) ◌⊓◌ ed ∞ (λ l. cond b (◌⊓◌ (run n l) (neg (z ! n) ⊘ dz ! n)) (run n l))
          go true t = trims_least (UpTo low) ◌⊓◌ ed ∞ (run n) (neg (z ! n) ⊘ dz ! n) t
          go false t = t

-- for a limit that is admitted, and a point none of whose entries is below zero
pub within : (dz z : List Float) (αmax : Float) → NoneBelow z → is_nan αmax ≡ false → lt αmax 𝟎 ≡ false
    → (le 𝟎 (nonneg_step least_of z dz αmax) ≡ true) × (le (nonneg_step least_of z dz αmax) αmax ≡ true)
within dz z αmax h number admitted =
    between false least_of document_01 αmax number admitted (nonneg_step least_of z dz) (shortens false least_of document_01 αmax dz z h (λ e. absurd (false≢true e)))

-- ---- one entry, with document 01's least: where x is above −(α·y) rounded, it leaves α

number : (α x y : Float) → lt (neg (α ⊗ y)) x ≡ true → is_nan α ≡ false
unfolding mul neg lt is_nan
number nan x y h = absurd (false≢true h)
number (inf s) x y h = refl
number (fin s m e) x y h = refl

pub stays : (α x y : Float) → T (fits binary64 α) → T (fits binary64 x) → lt (neg (α ⊗ y)) x ≡ true → α ≡ shorter least_of x y α
stays α x y f g h = go (lt y 𝟎) refl
  where
    go : (b : Bool) → lt y 𝟎 ≡ b → α ≡ cond b (least_of α (neg x ⊘ y)) α
    go true e = sym (least_first α _ (number α x y h) (ratio_stays α x y f g h e))
    go false e = refl
