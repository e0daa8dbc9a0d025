-- Document 02, item 3, of every point and direction: a direction of residual 0 comes to its rule, since no test before it takes one; for there
-- d = b·b − 4·a·c is not below 0. Assumes nothing.
use Prim.Native.Nat.{ℕ, ◌+◌, ◌-◌, ◌*◌}
use native.Mathlib.Omega.{arith}
use mathlib.Core.Path.{◌≡◌, refl}
use mathlib.Core.Bool.{Bool, true, false, ◌&&◌, false≢true, true≢false}
use mathlib.Core.List.{List}
use mathlib.Core.Logic.{◌⊎◌, inl, inr}
use borrow.Author.Tests.{ltb-false, le-ltb, eqb-true}
use lib.Dec.{eqb}
use lib.Ieee.{Float, nan, inf, fin, up, down, unlike, lt, eq, neg, add, sub, mul, sum, of_bits}
use lib.IntN.{ℤ, pos}
use Rattle.extrema.specs.Extrema.{greatest_of}
use Rattle.vecmath.specs.Double.{◌⊖◌, ◌⊗◌, 𝟎, 𝟐, 𝟒, ◌!◌}
use Rattle.vecmath.specs.Vector.{dot}
use Rattle.tails.specs.Tail.{tail}
use Rattle.ordering.proofs.Order.{down_pos}
use Rattle.ordering.proofs.Shortens.{round_positive, round_zero}
use Rattle.soc_residual.specs.Residual.{residual}
use Rattle.soc_step.specs.Step.{lowered, zero_curvature, branches, soc_step_by}

-- ---- zeros

nothing : (s : Bool) (m : ℕ) (e : ℤ) → eq (fin s m e) 𝟎 ≡ true → m * up e ≡ 0
unfolding eq of_bits
nothing s m e h = go (eqb (m * up e * 1) (0 * down e)) _ refl h
  where
    go : (p q : Bool) → eqb (m * up e * 1) (0 * down e) ≡ p → p && q ≡ true → m * up e ≡ 0
    go true q f h = omega (arith, eqb-true (m * up e * 1) (0 * down e) f)
    go false q f h = absurd (false≢true h)

zero_not_above : (a : Float) → eq a 𝟎 ≡ true → lt 𝟎 a ≡ false
unfolding eq lt of_bits
zero_not_above nan h = absurd (false≢true h)
zero_not_above (inf s) h = absurd (false≢true h)
zero_not_above (fin true m e) h = refl
zero_not_above (fin false m e) h = le-ltb (0 * down e) (m * up e * 1) (omega (arith, nothing false m e h))

-- x is a zero, of one sign or the other
abbrev Zero : Float → Type 0
Zero x = (s : Bool) × (x ≡ fin s 0 (pos 0))

-- 4·a, where a is a zero
four_times : (a : Float) → eq a 𝟎 ≡ true → Zero (𝟒 ⊗ a)
unfolding eq mul of_bits
four_times nan h = absurd (false≢true h)
four_times (inf s) h = absurd (false≢true h)
four_times (fin s m e) h = (unlike false s, round_zero (unlike false s) (4 * (m * up e)) (1 * down e) (omega (arith, nothing s m e h)) (omega (arith, down_pos e)))

-- a zero times anything is a zero or NaN
zero_times : (s : Bool) (c : Float) → (fin s 0 (pos 0) ⊗ c ≡ nan) ⊎ Zero (fin s 0 (pos 0) ⊗ c)
unfolding mul
zero_times s nan = inl refl
zero_times s (inf t) = inl refl
zero_times s (fin t n d) = inr (unlike s t, round_zero (unlike s t) (0 * (n * up d)) (1 * down d) (omega arith) (omega (arith, down_pos d)))

-- ---- what is not below 0: a square, and that less a zero or NaN

square : (b : Float) → lt (b ⊗ b) 𝟎 ≡ false
unfolding lt mul of_bits
square nan = refl
square (inf true) = refl
square (inf false) = refl
square (fin true m e) = round_positive (m * up e * (m * up e)) (down e * down e)
square (fin false m e) = round_positive (m * up e * (m * up e)) (down e * down e)

less_nan : (x : Float) → lt (x ⊖ nan) 𝟎 ≡ false
unfolding lt sub add neg
less_nan nan = refl
less_nan (inf s) = refl
less_nan (fin s m e) = refl

less_zero : (x : Float) (s : Bool) → lt x 𝟎 ≡ false → lt (x ⊖ fin s 0 (pos 0)) 𝟎 ≡ false
unfolding lt sub add neg sum of_bits
less_zero nan s h = refl
less_zero (inf true) s h = absurd (true≢false h)
less_zero (inf false) s h = refl
less_zero (fin false m e) true h = round_positive (m * up e * 1 + 0 * down e) (down e * 1)
less_zero (fin false m e) false h = rw (le-ltb (m * up e * 1) (0 * down e) (omega arith)) (round_positive (m * up e * 1 - 0 * down e) (down e * 1))
less_zero (fin true m e) s h = go s
  where
    none : m * up e ≡ 0
    none = omega (arith, ltb-false 0 (m * up e * 1 + 0 * down e) h)

    go : (s : Bool) → lt (fin true m e ⊖ fin s 0 (pos 0)) 𝟎 ≡ false
    go true = rw (le-ltb (m * up e * 1) (0 * down e) (omega arith), le-ltb (0 * down e) (m * up e * 1) (omega (arith, none))) (round_positive (m * up e * 1 - 0 * down e) (down e * 1))
    go false = rw (round_zero true (m * up e * 1 + 0 * down e) (down e * 1) (omega (arith, none)) (omega (arith, down_pos e)))

-- so of d, where a is a zero
not_below : (a b c : Float) → eq a 𝟎 ≡ true → lt (b ⊗ b ⊖ 𝟒 ⊗ a ⊗ c) 𝟎 ≡ false
not_below a b c h = let z = four_times a h in rw z.1 (go z.0 (zero_times z.0 c))
  where
    go : (s : Bool) → (fin s 0 (pos 0) ⊗ c ≡ nan) ⊎ Zero (fin s 0 (pos 0) ⊗ c) → lt (b ⊗ b ⊖ fin s 0 (pos 0) ⊗ c) 𝟎 ≡ false
    go s (inl e) = rw e (less_nan (b ⊗ b))
    go s (inr z) = rw z.1 (less_zero (b ⊗ b) z.0 (square b))

-- ---- the rule, for any operation called least

pub mended : (◌⊓◌ : Float → Float → Float) (x y : List Float) (αmax : Float) → eq (residual y) 𝟎 ≡ true
    → soc_step_by ◌⊓◌ x y αmax ≡ zero_curvature ◌⊓◌ (𝟐 ⊗ (x ! 0 ⊗ y ! 0 ⊖ dot (tail x) (tail y))) (greatest_of 𝟎 (residual x)) (lowered ◌⊓◌ (x ! 0) (y ! 0) αmax)
unfolding soc_step_by branches
mended ◌⊓◌ x y αmax h = rw (zero_not_above (residual y) h, not_below (residual y) (𝟐 ⊗ (x ! 0 ⊗ y ! 0 ⊖ dot (tail x) (tail y))) (greatest_of 𝟎 (residual x)) h, h)
