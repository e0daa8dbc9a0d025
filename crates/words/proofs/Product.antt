-- The product of two words, by their halves. Assumes nothing.
use mathlib.Core.Path.{◌≡◌, ◌∙◌, sym}
use Prim.Native.Nat.{ℕ, ◌+◌, ◌*◌, ◌/◌, ◌%◌, ◌^◌, ◌≤◌, ◌<◌}
use native.Mathlib.Nat.{mul-add, add-mul, mul_assoc, mul_right_comm, mul-mul-mul_comm, mul-le-mul}
use native.Mathlib.Omega.{arith}

-- the products of the halves are no larger than that of the largest
pub record Parts (x y : ℕ) : Type 0 where
  pub upper : x / 2 ^ 32 * (y / 2 ^ 32) ≤ 0xffff_ffff * 0xffff_ffff
  pub left : x / 2 ^ 32 * (y % 2 ^ 32) ≤ 0xffff_ffff * 0xffff_ffff
  pub right : x % 2 ^ 32 * (y / 2 ^ 32) ≤ 0xffff_ffff * 0xffff_ffff
  pub lower : x % 2 ^ 32 * (y % 2 ^ 32) ≤ 0xffff_ffff * 0xffff_ffff

pub parts : (x y : ℕ) → x < 2 ^ 64 → y < 2 ^ 64 → Parts x y
parts x y h k =
    record {
      upper = mul-le-mul (upper x h) (upper y k);
      left = mul-le-mul (upper x h) (lower y);
      right = mul-le-mul (lower x) (upper y k);
      lower = mul-le-mul (lower x) (lower y);
    }
  where
    upper : (x : ℕ) → x < 2 ^ 64 → x / 2 ^ 32 ≤ 0xffff_ffff
    upper x h = omega arith

    lower : (x : ℕ) → x % 2 ^ 32 ≤ 0xffff_ffff
    lower x = omega arith

-- their sum
whole : (x y : ℕ) → x * y ≡ x / 2 ^ 32 * (y / 2 ^ 32) * 2 ^ 64 + (x / 2 ^ 32 * (y % 2 ^ 32) + x % 2 ^ 32 * (y / 2 ^ 32)) * 2 ^ 32 + x % 2 ^ 32 * (y % 2 ^ 32)
whole x y = go x y (x / 2 ^ 32) (x % 2 ^ 32) (y / 2 ^ 32) (y % 2 ^ 32) (join x) (join y)
  where
    join : (x : ℕ) → x ≡ x / 2 ^ 32 * 2 ^ 32 + x % 2 ^ 32
    join x = omega arith

    go : (x y u v p q : ℕ) → x ≡ u * 2 ^ 32 + v → y ≡ p * 2 ^ 32 + q → x * y ≡ u * p * 2 ^ 64 + (u * q + v * p) * 2 ^ 32 + v * q
    go x y u v p q e f =
        let a : u * 2 ^ 32 * (p * 2 ^ 32) ≡ u * p * 2 ^ 64 = mul-mul-mul_comm u (2 ^ 32) p (2 ^ 32) in
        let b : u * 2 ^ 32 * q ≡ u * q * 2 ^ 32 = mul_right_comm u (2 ^ 32) q in
        let c : v * (p * 2 ^ 32) ≡ v * p * 2 ^ 32 = sym (mul_assoc v p (2 ^ 32)) in
        rw (e, f) (simp (mul-add, add-mul, a, b, c) (omega arith))

-- added up as the code does, with what each sum carries over
ladder : (d b c a : ℕ)
    → d * 2 ^ 64 + (b + c) * 2 ^ 32 + a
    ≡ (d + (b + a / 2 ^ 32) / 2 ^ 32 + (c + (b + a / 2 ^ 32) % 2 ^ 32) / 2 ^ 32) * 2 ^ 64 + ((c + (b + a / 2 ^ 32) % 2 ^ 32) * 2 ^ 32 % 2 ^ 64 + a % 2 ^ 32)
ladder d b c a = go (b + a / 2 ^ 32) (c + (b + a / 2 ^ 32) % 2 ^ 32) (omega arith) (omega arith)
  where
    go : (s t : ℕ) → s ≡ b + a / 2 ^ 32 → t ≡ c + s % 2 ^ 32 → d * 2 ^ 64 + (b + c) * 2 ^ 32 + a ≡ (d + s / 2 ^ 32 + t / 2 ^ 32) * 2 ^ 64 + (t * 2 ^ 32 % 2 ^ 64 + a % 2 ^ 32)
    go s t e f = omega arith

carried : (t a : ℕ) → t * 2 ^ 32 % 2 ^ 64 + a % 2 ^ 32 < 2 ^ 64
carried t a = omega arith

upper_of : (n h l : ℕ) → n ≡ h * 2 ^ 64 + l → l < 2 ^ 64 → h ≡ n / 2 ^ 64
upper_of n h l e k = omega arith

lower_of : (n h l : ℕ) → n ≡ h * 2 ^ 64 + l → l < 2 ^ 64 → l ≡ n % 2 ^ 64
lower_of n h l e k = omega arith

-- the two halves, in the code's words
pub high_half : (x y : ℕ)
    → x / 2 ^ 32 * (y / 2 ^ 32) + (x / 2 ^ 32 * (y % 2 ^ 32) + x % 2 ^ 32 * (y % 2 ^ 32) / 2 ^ 32) / 2 ^ 32 + (x % 2 ^ 32 * (y / 2 ^ 32) + (x / 2 ^ 32 * (y % 2 ^ 32) + x % 2 ^ 32 * (y % 2 ^ 32) / 2 ^ 32) % 2 ^ 32) / 2 ^ 32
    ≡ x * y / 2 ^ 64
high_half x y = upper_of _ _ _ (whole x y ∙ ladder _ _ _ _) (carried _ _)

pub low_half : (x y : ℕ)
    → (x % 2 ^ 32 * (y / 2 ^ 32) + (x / 2 ^ 32 * (y % 2 ^ 32) + x % 2 ^ 32 * (y % 2 ^ 32) / 2 ^ 32) % 2 ^ 32) * 2 ^ 32 % 2 ^ 64 + x % 2 ^ 32 * (y % 2 ^ 32) % 2 ^ 32
    ≡ x * y % 2 ^ 64
low_half x y = lower_of _ _ _ (whole x y ∙ ladder _ _ _ _) (carried _ _)
