-- A range of a buffer that is replaced: nothing else changes. Assumes nothing.
use Prim.Native.Nat.{ℕ, ◌+◌, ◌-◌, ◌≤◌}
use native.Mathlib.Omega.{arith}
use mathlib.Core.Path.{◌≡◌, sym, ap, ◌∙◌}
use mathlib.Core.List.{List, ◌++◌}
use lib.ListN.{length, take, drop, length-append, length-take, length-drop, take-append-drop}
use lib.Seq.{length-take-le, take_at, drop_at, take-append-le, drop-append-le, drop-drop}
use Rattle.conelist.specs.Layout.{part_of, with_part}

pub length_part : {A : Type 0} (at n : ℕ) (y : List A) → at + n ≤ length y → length (part_of at n y) ≡ n
unfolding part_of
length_part at n y h = simp (length-take, length-drop) (omega arith)

module _ {A : Type 0} (at n : ℕ) (y new : List A) (in_y : at + n ≤ length y) (long : length new ≡ n) where
  front : length (take at y) ≡ at
  front = length-take-le at y (omega arith)

  pub length_put : length (with_part at n y new) ≡ length y
  unfolding with_part
  length_put = simp (length-append, length-drop, front, long) (omega arith)

  pub part_put : part_of at n (with_part at n y new) ≡ new
  unfolding part_of with_part
  part_put = rw (drop_at (take at y) _ at front) (take_at new _ n long)

  -- a range in front of it, and one behind it
  pub part_put_before : (a m : ℕ) → a + m ≤ at → part_of a m (with_part at n y new) ≡ part_of a m y
  unfolding part_of with_part
  part_put_before a m h = both (new ++ drop n (drop at y)) ∙ sym (both (drop at y)) ∙ ap (λ z. take m (drop a z)) (take-append-drop at y)
    where
      both : (r : List A) → take m (drop a (take at y ++ r)) ≡ take m (drop a (take at y))
      both r = rw (drop-append-le a (take at y) r (omega (arith, front))) (take-append-le m (drop a (take at y)) r (simp (length-drop, front) (omega arith)))

  pub part_put_behind : (a m : ℕ) → at + n ≤ a → part_of a m (with_part at n y new) ≡ part_of a m y
  unfolding part_of with_part
  part_put_behind a m h =
      let i : ℕ = a - (at + n) in
      let whole : at + n + i ≡ a = omega arith in
      let split : (z : List A) → drop a z ≡ drop i (drop n (drop at z)) = λ z. rw (drop-drop n at z, drop-drop i (at + n) z, whole) in
      rw (split (with_part at n y new), split y, drop_at (take at y) (new ++ drop n (drop at y)) at front, drop_at new (drop n (drop at y)) n long)
