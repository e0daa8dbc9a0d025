-- Over any operation called least the second-order step is the least of its limit and what it is without one, so it lies in [0, αmax]; and it
-- may be called at the running least. Assumes nothing.
use mathlib.Core.Path.{◌≡◌, refl, ap, ◌∙◌}
use mathlib.Core.Bool.{Bool, true, false, cond, ◌&&◌, ◌||◌, false≢true}
use mathlib.Core.List.{List}
use lib.Ieee.{Float, is_nan, lt, le, eq, ne, neg, of_bits}
use Rattle.extrema.specs.Extrema.{least_of, greatest_of}
use Rattle.extrema.proofs.Laws.{greatest_coded}
use Rattle.vecmath.specs.Double.{◌⊘◌, 𝟎, ∞, ◌!◌}
use Rattle.ordering.proofs.Order.{asym, irrefl}
use Rattle.ordering.proofs.Least.{Edition, Trims, trims_limit, trims_least, trims_none, meet, cuts_least, cuts_none}
use Rattle.ordering.proofs.Shortens.{UpTo, document_01, ratio, NoNan, zero_up_to, zero_inf, at_least_zero, Shortens, none_both, limit_itself}
use Rattle.ordering.proofs.Listed.{between}
use Rattle.answers.proofs.Laws.{both}
use Rattle.soc_step.specs.Step.{forward, lowered, zero_curvature, roots, branches, soc_step_by, step_along}

zero_forward : (low : Bool) (r : Float) → NoNan low (forward r) → UpTo low 𝟎 (forward r)
unfolding forward
zero_forward low r = go (lt r 𝟎) refl
  where
    go : (t : Bool) → lt r 𝟎 ≡ t → NoNan low (cond t ∞ r) → UpTo low 𝟎 (cond t ∞ r)
    go true e h = zero_inf low
    go false e h = zero_up_to low r e h

-- c is not below 0
greatest_zero : (ρ : Float) → lt (greatest_of 𝟎 ρ) 𝟎 ≡ false
unfolding ne eq of_bits
greatest_zero ρ = ap (λ (x : Float). lt x 𝟎) (greatest_coded 𝟎 ρ) ∙ go (lt 𝟎 ρ) refl
  where
    go : (t : Bool) → lt 𝟎 ρ ≡ t → lt (cond t ρ 𝟎) 𝟎 ≡ false
    go true e = asym 𝟎 ρ e
    go false e = irrefl 𝟎

-- for a least under which a NaN is handed on (`low`): where the answer at some limit l₀ is none
module _ (low : Bool) (◌⊓◌ : Float → Float → Float) (ed : Edition (UpTo low) ◌⊓◌) (l₀ : Float) where
  -- the least of a step and −p/q where a test holds, under which p is not below 0 and q is; else the step
  beside : (t : Bool) (p q : Float) (step : Float → Float) → (t ≡ true → (lt p 𝟎 ≡ false) × (lt q 𝟎 ≡ true)) → (NoNan low (step l₀) → Shortens low ◌⊓◌ ed step)
      → NoNan low (cond t (◌⊓◌ (step l₀) (neg p ⊘ q)) (step l₀)) → Shortens low ◌⊓◌ ed (λ l. cond t (◌⊓◌ (step l) (neg p ⊘ q)) (step l))
  beside true p q step signs h n =
      let g = signs refl in
      let m = none_both low ◌⊓◌ ed (step l₀) (neg p ⊘ q) n in
      cuts_least (UpTo low) ◌⊓◌ ed 𝟎 ∞ step _ (h m.0) (zero_up_to low _ (ratio p q g.0 g.1) m.1)
  beside false p q step signs h n = h n

  lowered_lem : (x₀ y₀ : Float) → NoNan low (lowered ◌⊓◌ x₀ y₀ l₀) → Shortens low ◌⊓◌ ed (lowered ◌⊓◌ x₀ y₀)
  unfolding lowered
  lowered_lem x₀ y₀ = beside _ x₀ y₀ (λ l. l) (λ e. let h = both _ _ e in (at_least_zero x₀ h.0, h.1)) (λ n. limit_itself low ◌⊓◌ ed)

  zero_curvature_lem : (b c : Float) (step : Float → Float) → lt c 𝟎 ≡ false → (NoNan low (step l₀) → Shortens low ◌⊓◌ ed step) → NoNan low (zero_curvature ◌⊓◌ b c (step l₀))
      → Shortens low ◌⊓◌ ed (λ l. zero_curvature ◌⊓◌ b c (step l))
  unfolding zero_curvature
  zero_curvature_lem b c step e = beside _ c b step (λ f. (e, f))

  branches_lem : (a b c d : Float) (step : Float → Float) → lt c 𝟎 ≡ false → (NoNan low (step l₀) → Shortens low ◌⊓◌ ed step) → NoNan low (branches ◌⊓◌ a b c d (step l₀))
      → Shortens low ◌⊓◌ ed (λ l. branches ◌⊓◌ a b c d (step l))
  unfolding branches roots
  branches_lem a b c d step e h = go ((lt 𝟎 a && lt 𝟎 b) || lt d 𝟎) (eq a 𝟎) (eq c 𝟎) (le 𝟎 a) _ _
    where
      found : (t₁ t₂ t₃ t₄ : Bool) (r₁ r₂ l : Float) → Float
      found t₁ t₂ t₃ t₄ r₁ r₂ l = cond t₁ (step l) (cond t₂ (zero_curvature ◌⊓◌ b c (step l)) (cond t₃ (cond t₄ (step l) 𝟎) (◌⊓◌ (step l) (◌⊓◌ (forward r₁) (forward r₂)))))

      go : (t₁ t₂ t₃ t₄ : Bool) (r₁ r₂ : Float) → NoNan low (found t₁ t₂ t₃ t₄ r₁ r₂ l₀) → Shortens low ◌⊓◌ ed (found t₁ t₂ t₃ t₄ r₁ r₂)
      go true t₂ t₃ t₄ r₁ r₂ = h
      go false true t₃ t₄ r₁ r₂ = zero_curvature_lem b c step e h
      go false false true true r₁ r₂ = h
      go false false true false r₁ r₂ = λ t. cuts_none (UpTo low) ◌⊓◌ ed 𝟎 ∞
      go false false false t₄ r₁ r₂ = λ t.
          let p = none_both low ◌⊓◌ ed (step l₀) (◌⊓◌ (forward r₁) (forward r₂)) t in
          let q = none_both low ◌⊓◌ ed (forward r₁) (forward r₂) p.1 in
          cuts_least (UpTo low) ◌⊓◌ ed 𝟎 ∞ step _ (h p.0) (meet (UpTo low) ◌⊓◌ ed 𝟎 (forward r₁) (forward r₂) (zero_forward low r₁ q.0) (zero_forward low r₂ q.1))

  pub shortens : (x y : List Float) → NoNan low (soc_step_by ◌⊓◌ x y l₀) → Shortens low ◌⊓◌ ed (soc_step_by ◌⊓◌ x y)
  unfolding soc_step_by
  shortens x y = branches_lem _ _ _ _ (lowered ◌⊓◌ (x ! 0) (y ! 0)) (greatest_zero _) (lowered_lem (x ! 0) (y ! 0))

-- beside its limit, whatever that is, it counts as much as it does without one
module _ (low : Bool) (◌⊓◌ : Float → Float → Float) (ed : Edition (UpTo low) ◌⊓◌) where
  abbrev Trim : (Float → Float) → Type 0
  Trim step = Trims (UpTo low) ◌⊓◌ ed ∞ step

  trims_beside : (t : Bool) (ρ : Float) (step : Float → Float) → Trim step → Trim (λ l. cond t (◌⊓◌ (step l) ρ) (step l))
  trims_beside true ρ step h = trims_least (UpTo low) ◌⊓◌ ed ∞ step ρ h
  trims_beside false ρ step h = h

  trims_lowered : (x₀ y₀ : Float) → Trim (lowered ◌⊓◌ x₀ y₀)
  unfolding lowered
  trims_lowered x₀ y₀ = trims_beside (le 𝟎 x₀ && lt y₀ 𝟎) (neg x₀ ⊘ y₀) (λ l. l) (trims_limit (UpTo low) ◌⊓◌ ed ∞)

  trims_zero_curvature : (b c : Float) (step : Float → Float) → Trim step → Trim (λ l. zero_curvature ◌⊓◌ b c (step l))
  unfolding zero_curvature
  trims_zero_curvature b c step h = trims_beside (lt b 𝟎) (neg c ⊘ b) step h

  trims_branches : (a b c d : Float) (step : Float → Float) → Trim step → Trim (λ l. branches ◌⊓◌ a b c d (step l))
  unfolding branches roots
  trims_branches a b c d step h = go ((lt 𝟎 a && lt 𝟎 b) || lt d 𝟎) (eq a 𝟎) (eq c 𝟎) (le 𝟎 a) _
    where
      go : (t₁ t₂ t₃ t₄ : Bool) (ρ : Float) → Trim (λ l. cond t₁ (step l) (cond t₂ (zero_curvature ◌⊓◌ b c (step l)) (cond t₃ (cond t₄ (step l) 𝟎) (◌⊓◌ (step l) ρ))))
      go true t₂ t₃ t₄ ρ = h
      go false true t₃ t₄ ρ = trims_zero_curvature b c step h
      go false false true true ρ = h
      go false false true false ρ = trims_none (UpTo low) ◌⊓◌ ed ∞ 𝟎
      go false false false t₄ ρ = trims_least (UpTo low) ◌⊓◌ ed ∞ step ρ h

  pub trims : (x y : List Float) → Trim (soc_step_by ◌⊓◌ x y)
  unfolding soc_step_by
  trims x y = trims_branches _ _ _ _ (lowered ◌⊓◌ (x ! 0) (y ! 0)) (trims_lowered (x ! 0) (y ! 0))

-- for a limit that is admitted, and any x and y
pub within : (x y : List Float) (αmax : Float) → is_nan αmax ≡ false → lt αmax 𝟎 ≡ false → (le 𝟎 (step_along x y αmax) ≡ true) × (le (step_along x y αmax) αmax ≡ true)
within x y αmax number admitted =
    between false least_of document_01 αmax number admitted (soc_step_by least_of x y) (shortens false least_of document_01 αmax x y (λ e. absurd (false≢true e)))
