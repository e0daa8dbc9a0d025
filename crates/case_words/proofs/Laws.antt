-- The bits of a double; and the loops that fill the first entries of a place, n new ones and then the old. Assumes nothing.
use mathlib.Core.Path.{◌≡◌, refl, sym, ap, ◌∙◌}
use mathlib.Core.Bool.{true, true≢false}
use mathlib.Core.List.{List, ◌++◌}
use Prim.Native.Nat.{ℕ, zero, suc, ◌+◌, ◌-◌, ◌*◌, ◌^◌, ◌%◌, ◌≤◌, ◌<◌}
use native.Mathlib.Nat.{le_antisymm}
use native.Mathlib.Omega.{arith}
use native.Mathlib.Numerals.{add-one, unary_clauses}
use borrow.Author.Tests.{lt-ltb}
use lib.ListN.{length, get_or, set, drop}
use lib.Ieee.{Float, nan, inf, fin, binary64, is_nan, of_bits}
use lib.Ieee.Bits.{nan_bits_is, nan_bits_above}
use Rattle.std.specs.Prelude.{Result, Ok, Err}
use Rattle.vecmath.specs.Vector.{each, fold_of}
use Rattle.vecmath.proofs.Loops.{Filled, Folded, fill_turn, loops}
use Rattle.cases.specs.declared.Fault.{Fault}
use Rattle.case_words.specs.declared.Cut.{Cut}
use Rattle.case_words.specs.Words.{uncut, slice, behind, nth}

-- a NaN's bits are those above infinity's, the sign aside
is_nan_lem : (x : Float) → is_nan x ≡ true → x ≡ nan
unfolding is_nan
is_nan_lem nan h = refl
is_nan_lem (inf s) h = absurd (true≢false (sym h))
is_nan_lem (fin s m e) h = absurd (true≢false (sym h))

pub nan_bits_lem : (b : ℕ) → 2047 * 2 ^ 52 < b % 2 ^ 63 → nan ≡ of_bits binary64 b
nan_bits_lem b l = sym (is_nan_lem _ (sym (nan_bits_is binary64 b) ∙ nan_bits_above binary64 b ∙ lt-ltb _ _ l))

-- a fold that stops: from a turn that gives e, which each further turn would keep
stays : {A : Type 0} (a e : A) (step : ℕ → A → A) (i d : ℕ) → fold_of i a step ≡ e → ((k : ℕ) → step k e ≡ e) → fold_of (i + d) a step ≡ e
unfolding fold_of
stays a e step i zero h keeps = simp unary_clauses h
stays a e step i (suc d) h keeps = simp unary_clauses (ap (step (i + d)) (stays a e step i d h keeps) ∙ keeps (i + d))

-- so of the slices, where one is damaged
pub nth_stops : (words : List ℕ) {n i : ℕ} {cut : Cut} {f : Fault} → Folded n (Ok uncut) (λ k had. behind words had) i (Ok cut) → i < n → slice words cut.at ≡ Err f → nth words n ≡ Err f
unfolding nth fold_of
nth_stops words {n} {i} {cut} {f} h l e =
    let d : ℕ = n - (i + 1) in
    let long : i + 1 + d ≡ n = omega arith in
    let step : ℕ → Result Cut Fault → Result Cut Fault = λ k had. behind words had in
    let here : fold_of (i + 1) (Ok uncut) step ≡ Err f = rw add-one (ap (step i) (sym h.so_far) ∙ e) in
    rw long at (stays (Ok uncut) (Err f) step (i + 1) d here (λ k. refl))

module _ {A : Type 0} {d : A} {f : ℕ → A → A} {y₀ : List A} {i n : ℕ} where
  pub fill_turn_to : {j : ℕ} {y z : List A} → Filled d f y₀ i y → i < n → n ≤ length y₀ → j ≡ i + 1 → z ≡ set y i (f i (get_or y i d)) → Filled d f y₀ j z
  fill_turn_to h l l' = fill_turn h (omega (arith, h.long))

  pub fill_to : {y z : List A} → Filled d f y₀ i y → i ≤ n → n ≤ i → z ≡ each n (λ k. f k (get_or y₀ k d)) ++ drop n y₀ → y ≡ z
  fill_to h l l' e = h.so_far ∙ ap (λ n. each n (λ k. f k (get_or y₀ k d)) ++ drop n y₀) (le_antisymm l l') ∙ sym e

pub ruleset firsts = (fill_turn_to, fill_to, loops)
