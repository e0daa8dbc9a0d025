-- The exact check that a number is the nearest root. Assumes nothing.
use Rattle.std.proofs.Common.{◌≡◌, ℕ, zero, suc, ◌+◌, ◌-◌, ◌*◌, ◌/◌, ◌%◌, ◌^◌, ◌<◌, ◌≤◌, Bool, true, false, not, T, eqb, ltb, sym, ap, ◌∙◌, subst, lt_of_le_of_lt, mul-le-mul_right, mul-one, mul-add, add-one, arith, ltb→lt, nltb→le, eq-eqb, ne_eqb}
use Rattle.root.specs.Root.{nearest}
use Rattle.root.specs.Scaling.{Word, bit}
use Rattle.root.proofs.Whole.{next_square, odd_square, Near, nearest_is, nearest_only}

after : (c : ℕ) → c * (c + 1) ≡ c * c + c
after c = mul-add c c 1 ∙ ap (λ (x : ℕ). c * c + x) (mul-one c)

-- c is nearest where c(c + 1) is n or over it, by less than 2c
over_nearest : (n c o : ℕ) → 0 < n → n < 4 ^ 53 → c * (c + 1) ≡ n + o → o < 2 * c → c ≡ nearest n
over_nearest n c o p h e l = let s = after c in nearest_only n c p h (omega arith) (omega arith)

-- and nowhere else
nearest_over : (n c : ℕ) → 0 < n → n < 4 ^ 53 → c ≡ nearest n → (n ≤ c * (c + 1)) × (c * (c + 1) < n + 2 * c)
nearest_over n c p h e = go c (subst (Near n) (sym e) (nearest_is n p h))
  where
    shift : (k : ℕ) → 2 * suc k - 1 ≡ 2 * k + 1
    shift k = omega arith

    go : (c : ℕ) → Near n c → (n ≤ c * (c + 1)) × (c * (c + 1) < n + 2 * c)
    go zero d = (omega (arith, d.high), omega arith)
    go (suc k) d =
        let s = after (suc k) in
        let l : (2 * k + 1) * (2 * k + 1) < 4 * n = rw (shift k) at d.low in
        let f : suc k * suc k ≡ k * k + 2 * k + 1 = rw (add-one k) at (next_square k) in
        (omega (arith, odd_square (suc k), d.high), omega (arith, odd_square k, l))

some : (a : ℕ) → Word a → 0 < a * 2 ^ 52
some a w = omega arith

short : (a : ℕ) → Word a → a * 2 ^ 52 < 4 ^ 53
short a w = omega arith

-- the product p is over n = a * 2 ^ 52 by o: told by the halves of both, and what the lower ones carry over
pub over_is : (a p hi lo o : ℕ) → Word a → hi ≡ p / 2 ^ 64 → lo ≡ p % 2 ^ 64 → hi ≡ a / 2 ^ 12 + bit (ltb lo (a * 2 ^ 52 % 2 ^ 64)) → (o + a * 2 ^ 52 % 2 ^ 64) % 2 ^ 64 ≡ lo → o < 2 ^ 64
    → p ≡ a * 2 ^ 52 + o
unfolding bit
over_is a p hi lo o w h l e s f = go (ltb lo (a * 2 ^ 52 % 2 ^ 64)) (ltb→lt lo _) (nltb→le lo _) e
  where
    go : (b : Bool) → (T b → lo < a * 2 ^ 52 % 2 ^ 64) → (T (not b) → a * 2 ^ 52 % 2 ^ 64 ≤ lo) → hi ≡ a / 2 ^ 12 + bit b → p ≡ a * 2 ^ 52 + o
    go true x y e = let z = x tt in omega arith
    go false x y e = let z = y tt in omega arith

-- and so they are where p is over n by less than 2c
carries : (a c p hi lo : ℕ) → Word a → c < 2 ^ 53 → hi ≡ p / 2 ^ 64 → lo ≡ p % 2 ^ 64 → (a * 2 ^ 52 ≤ p) × (p < a * 2 ^ 52 + 2 * c) → hi ≡ a / 2 ^ 12 + bit (ltb lo (a * 2 ^ 52 % 2 ^ 64))
unfolding bit
carries a c p hi lo w k h l r = go (ltb lo (a * 2 ^ 52 % 2 ^ 64)) (ltb→lt lo _) (nltb→le lo _)
  where
    go : (b : Bool) → (T b → lo < a * 2 ^ 52 % 2 ^ 64) → (T (not b) → a * 2 ^ 52 % 2 ^ 64 ≤ lo) → hi ≡ a / 2 ^ 12 + bit b
    go true x y = let z = x tt in omega (arith, r)
    go false x y = let z = y tt in omega (arith, r)

pub few_fit : (k c : ℕ) → k ≤ 4 → c < 2 ^ 53 → k * c < 2 ^ 64
few_fit k c h l = lt_of_le_of_lt (mul-le-mul_right c h) (four c l)
  where
    four : (c : ℕ) → c < 2 ^ 53 → 4 * c < 2 ^ 64
    four c l = omega arith

pub bit_le : (t : Bool) (p : ℕ) → p ≡ bit t → p ≤ 1
unfolding bit
bit_le true p e = omega arith
bit_le false p e = omega arith

-- what is told where the upper halves do not agree, and where they do
pub told_apart : (a c hi lo : ℕ) → Word a → c < 2 ^ 53 → hi ≡ c * (c + 1) / 2 ^ 64 → lo ≡ c * (c + 1) % 2 ^ 64 → (hi ≡ a / 2 ^ 12 + bit (ltb lo (a * 2 ^ 52 % 2 ^ 64)) → ⊥) → false ≡ eqb c (nearest (a * 2 ^ 52))
told_apart a c hi lo w k h l f = sym (ne_eqb c _ (λ e. f (carries a c (c * (c + 1)) hi lo w k h l (nearest_over (a * 2 ^ 52) c (some a w) (short a w) e))))

pub told : (a c o : ℕ) → Word a → c * (c + 1) ≡ a * 2 ^ 52 + o → ltb o (2 * c) ≡ eqb c (nearest (a * 2 ^ 52))
told a c o w e = go (ltb o (2 * c)) (ltb→lt o (2 * c)) (nltb→le o (2 * c))
  where
    beyond : (n p x y : ℕ) → p ≡ n + x → y ≤ x → p < n + y → ⊥
    beyond n p x y e h l = omega arith

    go : (b : Bool) → (T b → o < 2 * c) → (T (not b) → 2 * c ≤ o) → b ≡ eqb c (nearest (a * 2 ^ 52))
    go true x y = sym (eq-eqb c _ (over_nearest (a * 2 ^ 52) c o (some a w) (short a w) e (x tt)))
    go false x y = sym (ne_eqb c _ (λ d. beyond (a * 2 ^ 52) (c * (c + 1)) o (2 * c) e (y tt) (nearest_over (a * 2 ^ 52) c (some a w) (short a w) d).1))
