-- A product tells, with no division, that a ratio is not below a number: for doubles x and α and any y < 0, where x is above −(α·y) rounded,
-- −x/y rounded is not below α. For a double lies on one side of a fraction and of that fraction rounded. Assumes nothing.
use Prim.Native.Nat.{ℕ, zero, suc, ◌+◌, ◌-◌, ◌*◌, ◌/◌, ◌%◌, ◌^◌, ◌≤◌, ◌<◌, compare}
use native.Mathlib.Omega.{arith}
use native.Mathlib.Nat.{mul-pos, mul-lt-mul_of_pos_right, lt_of_mul-lt-mul_right}
use mathlib.Core.Path.{◌≡◌, refl, sym, ap, ◌∙◌}
use mathlib.Core.Bool.{Bool, true, false, not, cond, ◌&&◌, false≢true, true≢false}
use mathlib.Core.Logic.{◌⊎◌, inl, inr}
use borrow.Author.Tests.{ltb-true, ltb-false, le-ltb, ne_eqb, not-true}
use denote.Floats.{is_true}
use lib.Dec.{T, ltb, leb, eqb, ltb→lt, leb→le}
use lib.Pow.{pow-add, pow_pos, pow_mono}
use lib.IntN.{ℤ, pos, negsuc}
use lib.Ieee.{Float, nan, inf, fin, binary64, Format, up, down, unlike, is_nan, lt, neg, mul, div, round, units, odd, low, prec, emax, nearest, size, fits, of_bits}
use lib.Ieee.Exact.{HasValue, round_exact}
use lib.Ieee.Fits.{and_l, and_r}
use lib.Ieee.Order.{round_mono}
use Rattle.vecmath.specs.Double.{◌⊗◌, ◌⊘◌, 𝟎}
use Rattle.ordering.proofs.Order.{down_pos, not_below, le_is}

-- ---- a double is its own rounding

-- 2 ^ e in units of 2 ^ -l, where 2 ^ e is such a unit or more
place : (l : ℕ) (e : ℤ) → down e ≤ 2 ^ l → (j : ℕ) × (up e * 2 ^ l ≡ 2 ^ j * down e)
place l (pos k) h = (k + l, rw (pow-add 2 k l) (omega arith))
place l (negsuc k) h = (l - suc k, rw (← pow-add 2 (l - suc k) (suc k)) (ap (λ (i : ℕ). 1 * 2 ^ i) back ∙ omega arith))
  where
    shorter : l < suc k → ⊥
    shorter i = let p : 2 ^ suc l ≤ 2 ^ suc k = pow_mono i in let q : 0 < 2 ^ l = pow_pos l in omega arith

    back : l ≡ l - suc k + suc k
    back = go (ltb l (suc k)) refl
      where
        go : (t : Bool) → ltb l (suc k) ≡ t → l ≡ l - suc k + suc k
        go true e = absurd (shorter (ltb-true l (suc k) e))
        go false e = omega (arith, ltb-false l (suc k) e)

abbrev own_of : Format → ℕ → ℤ → Float
own_of f m e = round f false (m * up e) (down e)

exact : (f : Format) (m : ℕ) (e : ℤ) → T (fits f (fin false m e)) → HasValue (own_of f m e) false (m * up e) (down e)
unfolding fits
exact f zero e h = round_exact f false (0 * up e) (down e) 0 0 (down_pos e) (pow_pos (prec f)) (pow_pos (low f + suc (emax f))) (omega arith)
exact f (suc m) e h =
    let A = eqb (suc m % 2) 1 in
    let B = ltb (suc m) (2 ^ prec f) in
    let C = leb (down e) (2 ^ low f) in
    let D = ltb (suc m * up e) (2 ^ suc (emax f) * down e) in
    let abc = and_l (A && B && C) D h in
    let few : suc m < 2 ^ prec f = ltb→lt (suc m) _ (and_r A B (and_l (A && B) C abc)) in
    let small : suc m * up e < 2 ^ suc (emax f) * down e = ltb→lt _ _ (and_r (A && B && C) D h) in
    let at = place (low f) e (leb→le (down e) _ (and_r (A && B) C abc)) in
    let j = at.0 in
    let cut : suc m * up e * 2 ^ low f ≡ suc m * 2 ^ j * down e = omega (arith, ap (λ (i : ℕ). suc m * i) at.1) in
    round_exact f false (suc m * up e) (down e) (suc m) j (down_pos e) few
    (lt_of_mul-lt-mul_right (down e) (rw (← cut, pow-add 2 (low f) (suc (emax f))) (omega (arith, mul-lt-mul_of_pos_right small (pow_pos (low f))))))
    cut

-- what holds of a number, by its sign, and of the infinities holds of a fraction rounded
rounded : (a c : ℕ) (P : (Bool → Float) → Type 0) → ((m : ℕ) (e : ℤ) → P (λ s. fin s m e)) → P inf → P (λ s. round binary64 s a c)
unfolding round units odd
rounded a c P f g =
    let n = a * 2 ^ low binary64 in
    let k = size (n / c) - prec binary64 in
    let u = c * 2 ^ k in
    let q = nearest (n / u) (compare (n % u * 2) u) in
    go q k (ltb (q * 2 ^ k) (2 ^ (low binary64 + suc (emax binary64))))
  where
    go : (q k : ℕ) (t : Bool) → P (λ s. cond t (odd (suc (prec binary64)) s q k (low binary64)) (inf s))
    go q k false = g
    go zero k true = f _ _
    go (suc q) k true = f _ _

round_number : (a c : ℕ) → is_nan (round binary64 false a c) ≡ false
unfolding is_nan
round_number a c = rounded a c (λ z. is_nan (z false) ≡ false) (λ m e. refl) refl

-- neither of two doubles of one value is below the other
level : (x : Float) (m : ℕ) (e : ℤ) → HasValue x false (m * up e) (down e) → (lt x (fin false m e) ≡ false) × (lt (fin false m e) x ≡ false)
unfolding lt
level nan m e h = absurd h
level (inf s) m e h = absurd h
level (fin true n d) m e h = absurd (true≢false h.0)
level (fin false n d) m e h =
    let a = n * up d * down e in
    let b = m * up e * down d in
    let v : a ≡ b = h.1 in
    (le-ltb a b (omega arith), le-ltb b a (omega arith))

-- ---- so it lies on one side of a fraction a / c and of that rounded

module _ (m : ℕ) (e : ℤ) (h : T (fits binary64 (fin false m e))) (a c : ℕ) (some : 0 < c) where
  abbrev own : Float
  own = own_of binary64 m e

  number : is_nan own ≡ false
  number = round_number (m * up e) (down e)

  none_below : m * up e * c ≤ a * down e → lt (round binary64 false a c) (fin false m e) ≡ false
  none_below k =
      let l = round_mono binary64 (m * up e) (down e) a c (down_pos e) some k in
      not_below (round binary64 false a c) own _ number (not-true _ (sym (le_is own _ number (round_number a c)) ∙ is_true _ l)) (level own m e (exact binary64 m e h)).0

  none_above : a * down e ≤ m * up e * c → lt (fin false m e) (round binary64 false a c) ≡ false
  none_above k =
      let l = round_mono binary64 a c (m * up e) (down e) some (down_pos e) k in
      not_below _ own (round binary64 false a c) number (level own m e (exact binary64 m e h)).1 (not-true _ (sym (le_is _ own (round_number a c) number) ∙ is_true _ l))

-- ---- signs

fits_size : (s : Bool) (m : ℕ) (e : ℤ) → T (fits binary64 (fin s m e)) → T (fits binary64 (fin false m e))
unfolding fits
fits_size s zero e h = h
fits_size s (suc m) e h = h

not_not : (s : Bool) → not (not s) ≡ s
not_not true = refl
not_not false = refl

-- the sign of a product or a quotient with what is below zero
unlike_below : (s : Bool) → unlike s true ≡ not s
unlike_below true = refl
unlike_below false = refl

round_neg : (s : Bool) (a c : ℕ) → neg (round binary64 s a c) ≡ round binary64 (not s) a c
unfolding neg
round_neg s a c = rounded a c (λ z. neg (z s) ≡ z (not s)) (λ m e. refl) refl

-- below zero the order turns round
turned : (m : ℕ) (e : ℤ) (a c : ℕ) → lt (round binary64 true a c) (fin true m e) ≡ lt (fin false m e) (round binary64 false a c)
unfolding lt
turned m e a c = rounded a c (λ z. lt (z true) (fin true m e) ≡ lt (fin false m e) (z false)) (λ n d. refl) refl

-- what is not below zero is not below what is not above
apart : (m : ℕ) (e : ℤ) (a c : ℕ) → lt (round binary64 false a c) (fin true m e) ≡ false
unfolding lt
apart m e a c = rounded a c (λ z. lt (z false) (fin true m e) ≡ false) (λ n d. refl) refl

-- ---- the sizes of α, x and y: either x / y is α or more, and x is α·y or more; or both are at most so

module _ (m : ℕ) (e : ℤ) (k : ℕ) (l : ℤ) (n : ℕ) (d : ℤ) where
  abbrev α : Float
  α = fin false m e

  abbrev x : Float
  x = fin false k l

  abbrev product : Float
  product = round binary64 false (m * up e * (n * up d)) (down e * down d)

  abbrev quotient : Float
  quotient = round binary64 false (k * up l * down d) (n * up d * down l)

  abbrev Sides : Type 0
  Sides = ((lt quotient α ≡ false) × (lt x product ≡ false)) ⊎ ((lt α quotient ≡ false) × (lt product x ≡ false))

  sides : T (fits binary64 α) → T (fits binary64 x) → 0 < n * up d → Sides
  sides f g y = go (ltb (k * up l * down d * down e) (m * up e * (n * up d * down l))) refl
    where
      c : 0 < n * up d * down l
      c = mul-pos y (down_pos l)

      c' : 0 < down e * down d
      c' = mul-pos (down_pos e) (down_pos d)

      go : (t : Bool) → ltb (k * up l * down d * down e) (m * up e * (n * up d * down l)) ≡ t → Sides
      go true t =
          let h : k * up l * down d * down e < m * up e * (n * up d * down l) = ltb-true _ _ t in
          inr (none_above m e f _ _ c (omega arith), none_below k l g _ _ c' (omega arith))
      go false t =
          let h : m * up e * (n * up d * down l) ≤ k * up l * down d * down e = ltb-false _ _ t in
          inl (none_below m e f _ _ c (omega arith), none_above k l g _ _ c' (omega arith))

  -- by the signs s of α and t of x, y being below zero
  signed : (s t : Bool) → T (fits binary64 (fin s m e)) → T (fits binary64 (fin t k l)) → 0 < n * up d
      → lt (round binary64 s (m * up e * (n * up d)) (down e * down d)) (fin t k l) ≡ true → lt (round binary64 t (k * up l * down d) (n * up d * down l)) (fin s m e) ≡ false
  signed false true f g y h = absurd (false≢true (sym (apart k l _ _) ∙ h))
  signed true false f g y h = apart m e _ _
  signed false false f g y h = go (sides f g y)
    where
      go : Sides → lt quotient α ≡ false
      go (inl r) = r.0
      go (inr r) = absurd (false≢true (sym r.1 ∙ h))
  signed true true f g y h = go (sides (fits_size true m e f) (fits_size true k l g) y)
    where
      go : Sides → lt (round binary64 true (k * up l * down d) (n * up d * down l)) (fin true m e) ≡ false
      go (inl r) = absurd (false≢true (sym r.1 ∙ sym (turned k l _ _) ∙ h))
      go (inr r) = turned m e _ _ ∙ r.0

-- ---- and the infinities

lowest : (z : Float) → lt z (inf true) ≡ false
unfolding lt
lowest nan = refl
lowest (inf true) = refl
lowest (inf false) = refl
lowest (fin s m e) = refl

highest : (z : Float) → lt (inf false) z ≡ false
unfolding lt
highest nan = refl
highest (inf s) = refl
highest (fin s m e) = refl

-- y is −∞
endless : (α x : Float) → lt (neg (α ⊗ inf true)) x ≡ true → lt (neg x ⊘ inf true) α ≡ false
unfolding mul div neg lt
endless α nan h = refl
endless α (inf t) h = refl
endless nan (fin t k l) h = refl
endless (inf true) (fin t k l) h = refl
endless (inf false) (fin t k l) h = absurd (false≢true h)
endless (fin false m e) (fin t k l) h = absurd (false≢true (go (eqb m 0) h))
  where
    go : (z : Bool) → lt (neg (cond z nan (inf true))) (fin t k l) ≡ true → false ≡ true
    go true h = h
    go false h = h
endless (fin true m e) (fin true k l) h = le-ltb (m * up e * 1) (0 * 1 * down e) (omega arith)
endless (fin true m e) (fin false k l) h = refl

-- y is −n·2ᵈ
ended : (α x : Float) (n : ℕ) (d : ℤ) → T (fits binary64 α) → T (fits binary64 x) → 0 < n * up d → lt (neg (α ⊗ fin true n d)) x ≡ true → lt (neg x ⊘ fin true n d) α ≡ false
unfolding mul div neg lt
ended α nan n d f g y h = refl
ended α (inf true) n d f g y h = absurd (false≢true (sym (lowest (neg (α ⊗ fin true n d))) ∙ h))
ended α (inf false) n d f g y h = highest α
ended nan (fin t k l) n d f g y h = absurd (false≢true h)
ended (inf true) (fin t k l) n d f g y h = lowest (neg (fin t k l) ⊘ fin true n d)
ended (inf false) (fin t k l) n d f g y h = absurd (false≢true (go (eqb n 0) h))
  where
    go : (z : Bool) → lt (neg (cond z nan (inf true))) (fin t k l) ≡ true → false ≡ true
    go true h = h
    go false h = h
ended (fin s m e) (fin t k l) n d f g y h =
    let some : eqb n 0 ≡ false = ne_eqb n 0 (λ q. let none : 0 < 0 * up d = rw q at y in omega arith) in
    rw (some, unlike_below (not t), not_not t) (signed m e k l n d s t f g y (rw (unlike_below s, round_neg, not_not s) at h))

pub ratio_stays : (α x y : Float) → T (fits binary64 α) → T (fits binary64 x) → lt (neg (α ⊗ y)) x ≡ true → lt y 𝟎 ≡ true → lt (neg x ⊘ y) α ≡ false
unfolding lt of_bits
ratio_stays α x nan f g h y = absurd (false≢true y)
ratio_stays α x (inf true) f g h y = endless α x h
ratio_stays α x (inf false) f g h y = absurd (false≢true y)
ratio_stays α x (fin true n d) f g h y = ended α x n d f g (omega (arith, ltb-true 0 (n * up d * 1 + 0 * down d) y)) h
ratio_stays α x (fin false n d) f g h y = absurd (false≢true (sym (le-ltb (n * up d * 1) (0 * down d) (omega arith)) ∙ y))
