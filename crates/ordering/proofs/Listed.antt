-- The least over a list of steps has one value in whatever order they are visited, and where the running least is handed on, over any
-- operation called least. Assumes nothing.
use Prim.Native.Nat.{ℕ, zero, suc}
use mathlib.Core.Path.{◌≡◌, refl, sym, ap, ◌∙◌}
use mathlib.Core.Bool.{Bool, true, false, not, cond, false≢true, true≢false, Bool-set}
use mathlib.Core.List.Permᴰ
use mathlib.Core.List.{List, [], ◌∷◌, ◌++◌, map-append, Perm}
use mathlib.Core.Logic.{∥∥₁_elim}
use mathlib.Core.HLevel.{×₃_prop}
use borrow.Author.Tests.{not-true}
use lib.Ieee.{Float, nan, inf, fin, is_nan, lt, le, eq, of_bits}
use Rattle.vecmath.specs.Vector.{each, fold_of}
use Rattle.vecmath.specs.Double.{𝟎, ∞}
use Rattle.ordering.specs.Upto.{upto, SameValue, over, handed_of, least_limits, list_step, passed_of, limits_of}
use Rattle.ordering.proofs.Order.{nan_is, nan_lt, eq_is, le_is}
use Rattle.ordering.proofs.Least.{All, Edition, over_lower, one_value, Limit, Trims, bounds, within, handing_on, passing_on, limits, handed_limits}
use Rattle.ordering.proofs.Shortens.{UpTo, self, chain, Shortens, zero_up_to}

-- ---- one value

-- of numbers: they are equal by comparison
pub by_value : (x y : Float) → is_nan y ≡ false → SameValue x y → eq x y ≡ true
by_value x y v s = eq_is x y (s.0 ∙ v) v ∙ rw (s.1, s.2)

same_value : (low : Bool) (x y : Float) → UpTo low x y → UpTo low y x → SameValue x y
unfolding upto
same_value low x y = go low (is_nan x) (is_nan y) refl refl
  where
    go : (w p q : Bool) → is_nan x ≡ p → is_nan y ≡ q → cond p (cond q true w) (cond q (not w) (not (lt y x))) ≡ true → cond q (cond p true w) (cond p (not w) (not (lt x y))) ≡ true
        → (p ≡ q) × (lt x y ≡ false) × (lt y x ≡ false)
    go w true true u v e f = (refl, rw (nan_is x u, nan_lt), rw (nan_is y v, nan_lt))
    go true true false u v e f = absurd (false≢true f)
    go false true false u v e f = absurd (false≢true e)
    go true false true u v e f = absurd (false≢true e)
    go false false true u v e f = absurd (false≢true f)
    go w false false u v e f = (refl, not-true _ f, not-true _ e)

-- between 0 and infinity there is no NaN
number : (low : Bool) (x : Float) → UpTo low 𝟎 x → UpTo low x ∞ → is_nan x ≡ false
unfolding upto is_nan of_bits
number low nan e f = go low e f
  where
    go : (w : Bool) → not w ≡ true → w ≡ true → true ≡ false
    go true e f = sym e
    go false e f = sym f
number low (inf s) e f = refl
number low (fin s m k) e f = refl

not_above : (low : Bool) (x y : Float) → is_nan x ≡ false → is_nan y ≡ false → UpTo low x y → lt y x ≡ false
unfolding upto
not_above low x y u v e = not-true _ (rw (u, v) at e)

limit_up_to : (low : Bool) (l : Float) → is_nan l ≡ false → UpTo low l ∞
unfolding upto is_nan lt
limit_up_to low nan u = absurd (true≢false u)
limit_up_to low (inf true) u = refl
limit_up_to low (inf false) u = refl
limit_up_to low (fin s m e) u = refl

-- what is up to a number is one, where a NaN counts as above all numbers
below_number : (low : Bool) (x y : Float) → low ≡ false → UpTo low x y → is_nan y ≡ false → is_nan x ≡ false
unfolding upto
below_number low x y w = go low (is_nan x) (is_nan y) w
  where
    go : (w p q : Bool) → w ≡ false → cond p (cond q true w) (cond q (not w) (not (lt y x))) ≡ true → q ≡ false → p ≡ false
    go w true true u e v = absurd (true≢false v)
    go true true false u e v = absurd (true≢false u)
    go false true false u e v = absurd (false≢true e)
    go w false q u e v = refl

zero_number : is_nan 𝟎 ≡ false
unfolding is_nan of_bits
zero_number = refl

from_zero : (low : Bool) (x : Float) → UpTo low 𝟎 x → UpTo low x ∞ → le 𝟎 x ≡ true
from_zero low x e f =
    let u = number low x e f in
    le_is 𝟎 x zero_number u ∙ ap not (not_above low 𝟎 x zero_number u e)

-- ---- for each edition of least

module _ (low : Bool) (◌⊓◌ : Float → Float → Float) (ed : Edition (UpTo low) ◌⊓◌) (limit : Float) where
  -- in whatever order the cones are visited, and at any limit
  pub any_order : {steps steps' : List (Float → Float)} → Perm steps steps' → SameValue (list_step ◌⊓◌ limit steps) (list_step ◌⊓◌ limit steps')
  any_order p = ∥∥₁_elim p (×₃_prop (Bool-set _ _) (Bool-set _ _) (Bool-set _ _)) (λ d.
      let v = one_value (UpTo low) ◌⊓◌ ed limit (Permᴰ.map (λ step. step limit) d) in
      same_value low _ _ v.0 v.1)

  -- where a NaN is passed over and the limit is a number, so is the least
  pub is_number : low ≡ false → is_nan limit ≡ false → (xs : List Float) → is_nan (over ◌⊓◌ limit xs) ≡ false
  is_number w num xs = below_number low _ limit w (over_lower (UpTo low) ◌⊓◌ ed limit xs _ (self low (over ◌⊓◌ limit xs))).0 num

  -- with the running least handed on, where the least is a number
  pub handed_on : is_nan limit ≡ false → (steps : List (Float → Float)) → is_nan (list_step ◌⊓◌ limit steps) ≡ false → All (Trims (UpTo low) ◌⊓◌ ed ∞) steps
      → eq (handed_of ◌⊓◌ limit steps) (list_step ◌⊓◌ limit steps) ≡ true
  handed_on num steps of_least h =
      let v = handing_on (UpTo low) ◌⊓◌ ed ∞ limit steps (limit_up_to low limit num) h in
      by_value _ _ of_least (same_value low _ _ v.0 v.1)

  -- a limit that is not refused
  module _ (num : is_nan limit ≡ false) (least : lt limit 𝟎 ≡ false) where
    admitted : Limit (UpTo low) ◌⊓◌ ed 𝟎 ∞ limit
    admitted = (zero_up_to low limit least (λ e. num), limit_up_to low limit num)

    -- with the answer itself handed on; each limit is then a number that is not below 0
    pub passed_on : (steps : List (Float → Float)) → All (Shortens low ◌⊓◌ ed) steps → eq (passed_of limit steps) (list_step ◌⊓◌ limit steps) ≡ true
    passed_on steps h =
        let v = passing_on (UpTo low) ◌⊓◌ ed 𝟎 ∞ limit steps admitted h in
        let w = within (UpTo low) ◌⊓◌ ed 𝟎 ∞ limit steps admitted h in
        by_value _ _ (number low _ w.0 w.1) (same_value low _ _ v.0 v.1)

    all_admitted : (ls : List Float) → All (Limit (UpTo low) ◌⊓◌ ed 𝟎 ∞) ls → All (λ l. le 𝟎 l ≡ true) ls
    all_admitted [] h = tt
    all_admitted (l ∷ ls) h = (from_zero low l h.0.0 h.0.1, all_admitted ls h.1)

    pub limits_admitted : (steps : List (Float → Float)) → All (Shortens low ◌⊓◌ ed) steps → All (λ l. le 𝟎 l ≡ true) (limits_of limit steps)
    limits_admitted steps h = all_admitted (limits_of limit steps) (limits (UpTo low) ◌⊓◌ ed 𝟎 ∞ limit steps admitted h)

    -- and so where the running least is handed on
    pub handed_limits_admitted : (steps : List (Float → Float)) → All (Shortens low ◌⊓◌ ed) steps → All (λ l. le 𝟎 l ≡ true) (least_limits ◌⊓◌ limit steps)
    handed_limits_admitted steps h = all_admitted (least_limits ◌⊓◌ limit steps) (handed_limits (UpTo low) ◌⊓◌ ed 𝟎 ∞ limit steps admitted h)

    -- a cone's step lies between 0 and its limit
    pub between : (step : Float → Float) → Shortens low ◌⊓◌ ed step → (le 𝟎 (step limit) ≡ true) × (le (step limit) limit ≡ true)
    between step h =
        let b = bounds (UpTo low) ◌⊓◌ ed 𝟎 ∞ step h limit admitted in
        let most = chain low (step limit) limit ∞ b.1 admitted.1 in
        let u = number low (step limit) b.0 most in
        (from_zero low (step limit) b.0 most, le_is (step limit) limit u num ∙ ap not (not_above low (step limit) limit u num b.1))

-- ---- the list's step as a loop

module _ {A : Type 0} (◌⊓◌ : A → A → A) where
  over_snoc : (l : A) (xs : List A) (x : A) → over ◌⊓◌ l (xs ++ (x ∷ [])) ≡ ◌⊓◌ (over ◌⊓◌ l xs) x
  over_snoc l [] x = refl
  over_snoc l (y ∷ xs) x = over_snoc (◌⊓◌ l y) xs x

  pub list_loop : (l : A) (f : ℕ → A → A) (n : ℕ) → list_step ◌⊓◌ l (each n f) ≡ fold_of n l (λ k a. ◌⊓◌ a (f k l))
  unfolding each fold_of
  list_loop l f zero = refl
  list_loop l f (suc n) = simp (map-append, over_snoc) (ap (λ a. ◌⊓◌ a (f n l)) (list_loop l f n))
