-- Steps that are the least of their limit and what they are without one, over any operation called least; document 01's least is one, and
-- associative.
-- Assumes nothing.
use Prim.Native.Nat.{ℕ, zero, suc, ◌+◌, ◌-◌, ◌*◌, ◌/◌, ◌%◌, ◌^◌, ◌<◌, compare}
use native.Mathlib.Omega.{arith}
use native.Mathlib.Nat.{mul-pos}
use mathlib.Core.Path.{◌≡◌, refl, sym, ap, ◌∙◌}
use mathlib.Core.Bool.{Bool, true, false, not, cond, false≢true, true≢false}
use mathlib.Core.Logic.{◌⊎◌, inl, inr}
use borrow.Author.Tests.{ltb-true, ltb-false, le-ltb, ne_eqb, not-true}
use lib.Dec.{ltb, eqb}
use lib.Ieee.{Float, nan, inf, fin, binary64, Format, up, down, is_nan, lt, le, ne, neg, div, round, units, odd, size, nearest, of_bits, low, prec, emax}
use lib.Ieee.Scale.{round_same}
use lib.IntN.{ℤ, pos}
use Rattle.extrema.specs.Extrema.{picked, least_of}
use Rattle.extrema.proofs.Laws.{least_coded, least_first}
use Rattle.vecmath.specs.Double.{◌⊘◌, 𝟎, ∞}
use Rattle.ordering.specs.Upto.{upto}
use Rattle.ordering.proofs.Order.{nan_is, nan_lt, not_below, asym, irrefl, le_is, down_pos}
use Rattle.ordering.proofs.Least.{Edition, Cuts, lower, cuts_limit}

-- ---- the order, with NaN below all numbers or above them

module _ (low : Bool) where
  abbrev pub UpTo : Float → Float → Type 0
  UpTo x y = upto low x y ≡ true

  pub self : (x : Float) → UpTo x x
  unfolding upto
  self x = go (is_nan x) (lt x x) (irrefl x)
    where
      go : (p t : Bool) → t ≡ false → cond p (cond p true low) (cond p (not low) (not t)) ≡ true
      go true t e = refl
      go false t e = rw e

  pub chain : (x y z : Float) → UpTo x y → UpTo y z → UpTo x z
  unfolding upto
  chain x y z = go (is_nan x) (is_nan y) (is_nan z) low refl
    where
      ranked : Bool → Bool → Bool → Bool → Bool
      ranked p q t w = cond p (cond q true w) (cond q (not w) (not t))

      go : (p q r w : Bool) → is_nan y ≡ q → ranked p q (lt y x) w ≡ true → ranked q r (lt z y) w ≡ true → ranked p r (lt z x) w ≡ true
      go true q true w v e f = refl
      go true q false true v e f = refl
      go true true false false v e f = f
      go true false false false v e f = e
      go false true r true v e f = absurd (false≢true e)
      go false true true false v e f = refl
      go false true false false v e f = absurd (false≢true f)
      go false false true w v e f = f
      go false false false w v e f = ap not (not_below z y x v (not-true _ f) (not-true _ e))

-- ---- a least picks one of the two, which is up to the other

-- a picks b's place or its own, by tests
abbrev Picks : Bool → Float → Float → Float → Type 0
Picks low a b c = ((c ≡ a) × UpTo low a b) ⊎ ((c ≡ b) × UpTo low b a)

module _ (low : Bool) (a b : Float) where
  up_to : is_nan a ≡ false → is_nan b ≡ false → lt b a ≡ false → UpTo low a b
  unfolding upto
  up_to u v e = rw (u, v, e)

  above_nan : is_nan b ≡ true → low ≡ false → UpTo low a b
  unfolding upto
  above_nan v e = rw (v, e) (go (is_nan a))
    where
      go : (p : Bool) → cond p true true ≡ true
      go true = refl
      go false = refl

picks_least : (a b : Float) → Picks false a b (least_of a b)
unfolding least_of picked
picks_least a b = go (is_nan a) (is_nan b) (lt b a) refl refl refl
  where
    go : (p q t : Bool) → is_nan a ≡ p → is_nan b ≡ q → lt b a ≡ t → Picks false a b (cond p b (cond q a (cond t b a)))
    go true q t u v e = inr (refl, above_nan false b a u refl)
    go false true t u v e = inl (refl, above_nan false a b v refl)
    go false false true u v e = inr (refl, up_to false b a v u (asym b a e))
    go false false false u v e = inl (refl, up_to false a b u v e)

pub document_01 : Edition (UpTo false) least_of
document_01 = record { self = self false; chain = chain false; picks = picks_least }

-- ---- document 01's least is associative, opposite zeros and NaN included

least_second : (a b : Float) → lt b a ≡ true → least_of a b ≡ b
least_second a b e = least_coded a b ∙ rw e (go (ne a a))
  where
    go : (t : Bool) → cond t b b ≡ b
    go true = refl
    go false = refl

least_missing : (a b : Float) → is_nan b ≡ true → least_of a b ≡ a
unfolding least_of picked
least_missing a b v = rw v (go (is_nan a) refl)
  where
    go : (p : Bool) → is_nan a ≡ p → cond p b a ≡ a
    go true u = nan_is b v ∙ sym (nan_is a u)
    go false u = refl

missing_least : (a b : Float) → is_nan a ≡ true → least_of a b ≡ b
unfolding least_of picked
missing_least a b u = rw u

pub least_assoc : (m a b : Float) → least_of m (least_of a b) ≡ least_of (least_of m a) b
least_assoc m a b = go (is_nan m) (is_nan a) (is_nan b) (lt a m) (lt b a) refl refl refl refl refl
  where
    go : (p q r s t : Bool) → is_nan m ≡ p → is_nan a ≡ q → is_nan b ≡ r → lt a m ≡ s → lt b a ≡ t → least_of m (least_of a b) ≡ least_of (least_of m a) b
    go true q r s t u v w e f = rw (missing_least m _ u, missing_least m a u)
    go false true r s t u v w e f = rw (missing_least a b v, least_missing m a v)
    go false false true s t u v w e f = rw (least_missing a b w, least_missing _ b w)
    go false false false true true u v w e f = rw (least_second a b f, least_second m a e, least_second a b f) (least_second m b (below (lt b m) refl))
      where
        below : (t : Bool) → lt b m ≡ t → lt b m ≡ true
        below true h = h
        below false h = absurd (false≢true (sym (not_below b m a u h (asym a m e)) ∙ f))
    go false false false true false u v w e f = rw (least_first a b v f, least_second m a e, least_first a b v f)
    go false false false false true u v w e f = rw (least_second a b f, least_first m a u e)
    go false false false false false u v w e f = rw (least_first a b v f, least_first m a u e) (sym (least_first m b u (not_below b a m v f e)))

-- ---- a ratio −z / dz is not below zero where z is not and dz is

positive : (m : ℕ) (e : ℤ) → lt (fin false m e) 𝟎 ≡ false
unfolding lt of_bits
positive m e = le-ltb (m * up e * 1) (0 * down e) (omega arith)

odd_positive : (d q k l : ℕ) → lt (odd d false q k l) 𝟎 ≡ false
unfolding odd
odd_positive d zero k l = positive 0 (pos 0)
odd_positive d (suc q) k l = positive _ _

units_positive : (f : Format) (q k : ℕ) → lt (units f false q k) 𝟎 ≡ false
unfolding units lt of_bits
units_positive f q k = go (ltb (q * 2 ^ k) (2 ^ (low f + suc (emax f))))
  where
    go : (t : Bool) → lt (cond t (odd (suc (prec f)) false q k (low f)) (inf false)) 𝟎 ≡ false
    go true = odd_positive (suc (prec f)) q k (low f)
    go false = refl

pub round_positive : (a c : ℕ) → lt (round binary64 false a c) 𝟎 ≡ false
unfolding round
round_positive a c =
    let n = a * 2 ^ low binary64 in
    let k = size (n / c) - prec binary64 in
    let u = c * 2 ^ k in
    units_positive binary64 (nearest (n / u) (compare (n % u * 2) u)) k

pub round_zero : (s : Bool) (a c : ℕ) → a ≡ 0 → 0 < c → round binary64 s a c ≡ fin s 0 (pos 0)
unfolding round
round_zero s a c e h = round_same binary64 s a c 0 1 h (omega arith) (omega (arith, e)) ∙ refl

pub ratio : (z dz : Float) → lt z 𝟎 ≡ false → lt dz 𝟎 ≡ true → lt (neg z ⊘ dz) 𝟎 ≡ false
unfolding neg div lt of_bits
ratio nan dz e f = refl
ratio (inf true) dz e f = absurd (true≢false e)
ratio (inf false) nan e f = refl
ratio (inf false) (inf t) e f = refl
ratio (inf false) (fin false n d) e f = absurd (false≢true (sym (positive n d) ∙ f))
ratio (inf false) (fin true n d) e f = refl
ratio (fin s m k) nan e f = refl
ratio (fin true m k) (inf true) e f = refl
ratio (fin true m k) (inf false) e f = refl
ratio (fin false m k) (inf true) e f = refl
ratio (fin false m k) (inf false) e f = refl
ratio (fin s m k) (fin false n d) e f = absurd (false≢true (sym (positive n d) ∙ f))
ratio (fin false m k) (fin true n d) e f = go (eqb n 0) (eqb m 0)
  where
    go : (p q : Bool) → lt (cond p (cond q nan (inf false)) (round binary64 false (m * up k * down d) (n * up d * down k))) 𝟎 ≡ false
    go true true = refl
    go true false = refl
    go false q = round_positive (m * up k * down d) (n * up d * down k)
ratio (fin true m k) (fin true n d) e f =
    let zero_z : m * up k ≡ 0 = omega (arith, ltb-false 0 (m * up k * 1 + 0 * down k) e) in
    let some : 0 < n * up d = omega (arith, ltb-true 0 (n * up d * 1 + 0 * down d) f) in
    let top : m * up k * down d ≡ 0 = rw zero_z (omega arith) in
    let divisor : eqb n 0 ≡ false = ne_eqb n 0 (λ q. let none : 0 < 0 * up d = rw q at some in omega arith) in
    rw (divisor, round_zero true _ _ top (mul-pos some (down_pos k)))

-- ---- steps, for all operations called least

-- where a NaN is handed on, x is none
abbrev pub NoNan : Bool → Float → Type 0
NoNan low x = low ≡ true → is_nan x ≡ false

above_number : (low : Bool) (x y : Float) → low ≡ true → UpTo low x y → is_nan x ≡ false → is_nan y ≡ false
unfolding upto
above_number low x y w = go low (is_nan x) (is_nan y) w
  where
    go : (w p q : Bool) → w ≡ true → cond p (cond q true w) (cond q (not w) (not (lt y x))) ≡ true → p ≡ false → q ≡ false
    go false p q u e v = absurd (false≢true u)
    go true true q u e v = absurd (true≢false v)
    go true false true u e v = absurd (false≢true e)
    go true false false u e v = refl

pub zero_up_to : (low : Bool) (r : Float) → lt r 𝟎 ≡ false → NoNan low r → UpTo low 𝟎 r
unfolding upto is_nan of_bits
zero_up_to low r e h = rw e (go low (is_nan r) h)
  where
    go : (w q : Bool) → (w ≡ true → q ≡ false) → cond q (not w) true ≡ true
    go true true h = absurd (true≢false (h refl))
    go false true h = refl
    go w false h = refl

pub zero_inf : (low : Bool) → UpTo low 𝟎 ∞
unfolding lt of_bits is_nan
zero_inf low = zero_up_to low ∞ refl (λ e. refl)

pub at_least_zero : (x : Float) → le 𝟎 x ≡ true → lt x 𝟎 ≡ false
at_least_zero x e = go (is_nan x) refl
  where
    zero_number : is_nan 𝟎 ≡ false
    zero_number = unfold is_nan of_bits in refl

    go : (q : Bool) → is_nan x ≡ q → lt x 𝟎 ≡ false
    go true u = rw (nan_is x u, nan_lt)
    go false u = not-true (lt x 𝟎) (sym (le_is 𝟎 x zero_number u) ∙ e)

module _ (low : Bool) (◌⊓◌ : Float → Float → Float) (ed : Edition (UpTo low) ◌⊓◌) where
  -- the least of its limit and what it is without one, which is not below zero
  abbrev pub Shortens : (Float → Float) → Type 0
  Shortens step = Cuts (UpTo low) ◌⊓◌ ed 𝟎 ∞ step

  pub none_both : (a b : Float) → NoNan low (◌⊓◌ a b) → NoNan low a × NoNan low b
  none_both a b h =
      let l = lower (UpTo low) ◌⊓◌ ed a b in
      (λ w. above_number low (◌⊓◌ a b) a w l.0 (h w), λ w. above_number low (◌⊓◌ a b) b w l.1 (h w))

  pub limit_itself : Shortens (λ l. l)
  limit_itself = cuts_limit (UpTo low) ◌⊓◌ ed 𝟎 ∞ (zero_inf low)
