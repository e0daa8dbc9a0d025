-- Document 01, "Second-order rules", as document 02, item 3, mends it: the step of x along y with limit αmax; source document 000, lines 289 to
-- 302 and 421 to 495. The operation called least is a parameter. x₁ is tail x. Assumes nothing.
use Rattle.std.specs.Prelude.{cond, ◌&&◌, ◌||◌, List, [], ◌∷◌, length, Float}
use Rattle.std.specs.Float.Ieee.{lt, le, eq, neg}
use Rattle.extrema.specs.Extrema.{least_of, greatest_of}
use Rattle.root.specs.Root.{root}
use Rattle.vecmath.specs.Double.{◌⊕◌, ◌⊖◌, ◌⊗◌, ◌⊘◌, 𝟎, 𝟐, 𝟒, ∞, ◌!◌}
use Rattle.vecmath.specs.Vector.{dot}
use Rattle.tails.specs.Tail.{tail}
use Rattle.answers.specs.Refusal.{◌⊳◌, refusal, bad_limit}
use Rattle.answers.specs.Outcome.{number, lengths, Came, call_of}
use Rattle.soc_residual.specs.Residual.{residual}

-- ---- the values

-- each root below 0 becomes infinity
unfoldable pub forward : Float → Float
forward r = cond (lt r 𝟎) ∞ r

-- t = −b − √d if b is at least 0, else −b + √d
unfoldable pub turn : (b d : Float) → Float
turn b d = cond (le 𝟎 b) (neg b ⊖ root d) (neg b ⊕ root d)

module _ (◌⊓◌ : Float → Float → Float) where
  infixl 70 ◌⊓◌
  -- if x₀ is at least 0 and y₀ is below 0, the limit becomes the least of it and −x₀/y₀
  unfoldable pub lowered : (x₀ y₀ αmax : Float) → Float
  lowered x₀ y₀ αmax = cond (le 𝟎 x₀ && lt y₀ 𝟎) (αmax ⊓ (neg x₀ ⊘ y₀)) αmax

  -- document 02, item 3: if b is below 0, the least of the limit and −c/b; otherwise the limit
  unfoldable pub zero_curvature : (b c αmax : Float) → Float
  zero_curvature b c αmax = cond (lt b 𝟎) (αmax ⊓ (neg c ⊘ b)) αmax

  -- the least of limit and roots: r1 = 2c/t, r2 = t/(2a)
  unfoldable pub roots : (a b c d αmax : Float) → Float
  roots a b c d αmax =
      let t = turn b d in
      αmax ⊓ (forward (𝟐 ⊗ c ⊘ t) ⊓ forward (t ⊘ (𝟐 ⊗ a)))

  -- in this order: (a > 0 and b > 0) or d < 0 gives the limit; a = 0; c = 0 gives the limit if a is at least 0, else 0; otherwise the roots
  unfoldable pub branches : (a b c d αmax : Float) → Float
  branches a b c d αmax =
      cond ((lt 𝟎 a && lt 𝟎 b) || lt d 𝟎) αmax
      (cond (eq a 𝟎) (zero_curvature b c αmax)
      (cond (eq c 𝟎) (cond (le 𝟎 a) αmax 𝟎)
      (roots a b c d αmax)))

  -- a = residual of y, b = 2(x₀y₀ − x₁·y₁), c = greatest of 0 and the residual of x, d = b·b − 4·a·c
  unfoldable pub soc_step_by : (x y : List Float) (αmax : Float) → Float
  soc_step_by x y αmax =
      let a = residual y in
      let b = 𝟐 ⊗ (x ! 0 ⊗ y ! 0 ⊖ dot (tail x) (tail y)) in
      let c = greatest_of 𝟎 (residual x) in
      branches a b c (b ⊗ b ⊖ 𝟒 ⊗ a ⊗ c) (lowered (x ! 0) (y ! 0) αmax)

-- with document 01's least
abbrev pub step_along : (x y : List Float) (αmax : Float) → Float
step_along x y αmax = soc_step_by least_of x y αmax

-- ---- the bare calls

abbrev pub soc_step : (x y : List Float) (αmax : Float) → Came 0 0
soc_step x y αmax = call_of (refusal 2 (length x) (length y ∷ []) ⊳ bad_limit αmax) (number (step_along x y αmax)) tt tt

-- the pair, z side and s side
abbrev pub soc_step_length : (dz ds z s : List Float) (αmax : Float) → Came 0 0
soc_step_length dz ds z s αmax =
    call_of (refusal 2 (length dz) (length ds ∷ length z ∷ length s ∷ []) ⊳ bad_limit αmax)
    (lengths (step_along z dz αmax) (step_along s ds αmax)) tt tt
