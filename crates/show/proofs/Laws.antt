-- NaN, doubles that are none, and their bits. Assumes nothing.
use Rattle.std.proofs.Common.{◌≡◌, ℕ, ◌<◌, Bool, true, false, not, T, pos, refl, sym, ap, ◌∙◌, true≢false, arith}
use lib.Ieee.{Float, nan, inf, fin, binary64, neg, of_int, of_bits, to_bits, is_nan, fits}
use lib.Ieee.Exact.{HasValue}
use lib.Ieee.Back.{round_whole}
use lib.Ieee.Bits.{of_bits-to_bits}

pub only_nan : (x : Float) → is_nan x ≡ true → nan ≡ x
unfolding is_nan
only_nan nan h = refl
only_nan (inf s) h = absurd (true≢false (sym h))
only_nan (fin s m e) h = absurd (true≢false (sym h))

finite_no_nan : (x : Float) (s : Bool) (a c : ℕ) → HasValue x s a c → T (not (is_nan x)) × T (not (is_nan (neg x)))
unfolding is_nan neg
finite_no_nan nan s a c h = absurd h
finite_no_nan (inf t) s a c h = absurd h
finite_no_nan (fin t m e) s a c h = (tt, tt)

-- neither is the double of a whole number below 2^53, nor its negative
pub whole_no_nan : (x : Float) {n : ℕ} → n < 0x20_0000_0000_0000 → x ≡ of_int binary64 (pos n) → T (not (is_nan x)) × T (not (is_nan (neg x)))
unfolding of_int
whole_no_nan x {n} h e = rw e (finite_no_nan _ false n 1 (round_whole binary64 false n (omega arith)))

-- w, where the code has it as x and a test found x's bits
pub has_bits : {x w : Float} {b : ℕ} → T (fits binary64 w) → x ≡ w → to_bits binary64 x ≡ b → w ≡ of_bits binary64 b
has_bits {x} {w} h e t = sym (of_bits-to_bits binary64 w h) ∙ ap (of_bits binary64) (rw e at t)
