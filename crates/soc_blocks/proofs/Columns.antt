-- The upper triangle by columns: its length, a number of it, and the law of the loop that lays the columns behind each other. Assumes nothing.
use Prim.Native.Nat.{ℕ, zero, suc, ◌+◌, ◌*◌, ◌/◌, ◌-◌, ◌≤◌, ◌<◌}
use native.Mathlib.Omega.{arith}
use native.Mathlib.Numerals.{add-one}
use native.Mathlib.Nat.{le_antisymm, eq-or-lt_of_le, le_of_suc-le-suc}
use mathlib.Core.Logic.{⊎_elim}
use mathlib.Core.Path.{◌≡◌, refl, sym, ap, ◌∙◌}
use mathlib.Core.List.{List, ◌++◌, append_assoc, append-nil}
use lib.ListN.{length, take, drop, length-append, length-take, length-drop, get_or-append}
use lib.Seq.{take_at, drop_at, drop-drop, drop-length, get_or-append-add}
use lib.Ieee.{Float, nan}
use Rattle.vecmath.specs.Double.{◌!◌}
use Rattle.vecmath.specs.Vector.{each}
use Rattle.vecmath.proofs.Loops.{length_each, each_at}
use Rattle.soc_blocks.specs.Block.{columns}

module _ (f : ℕ → ℕ → Float) where
  -- ---- the length

  pub columns_more : (c : ℕ) → length (columns (suc c) f) ≡ length (columns c f) + suc c
  unfolding columns
  columns_more c = simp (length-append, length_each)

  pub columns_length : (n : ℕ) → length (columns n f) ≡ n * (n + 1) / 2
  unfolding columns
  columns_length zero = refl
  columns_length (suc n) = omega (arith, columns_more n, columns_length n)

  -- column c ends by the end of n columns
  columns_before : (c n : ℕ) → c < n → length (columns c f) + suc c ≤ length (columns n f)
  columns_before c zero l = absurd (omega arith)
  columns_before c (suc n) l =
      ⊎_elim
      (λ (e : c ≡ n). rw e (omega (arith, columns_more n)))
      (λ (l : c < n). omega (arith, columns_more n, columns_before c n l))
      (eq-or-lt_of_le (le_of_suc-le-suc l))

  -- ---- the number of a row and a column

  column_at : (n row col : ℕ) → row ≤ col → col < n → columns n f ! (length (columns col f) + row) ≡ f row col
  unfolding columns
  column_at zero row col h l = absurd (omega arith)
  column_at (suc n) row col h l =
      ⊎_elim
      (λ (e : col ≡ n). rw (e, get_or-append-add) (each_at nan (suc n) (λ r. f r n) row (omega arith)))
      (λ (l : col < n). get_or-append (columns n f) (each (suc n) (λ r. f r n)) nan _ (omega (arith, columns_before col n l)) ∙ column_at n row col h l)
      (eq-or-lt_of_le (le_of_suc-le-suc l))

  pub columns_at : (n row col : ℕ) → row ≤ col → col < n → columns n f ! (col * (col + 1) / 2 + row) ≡ f row col
  columns_at n row col h l = rw (← columns_length col) (column_at n row col h l)

  -- ---- y after `col` columns, of n, were laid behind each other up to `at`, where it was y₀

  pub record Laid (n : ℕ) (y₀ : List Float) (at col : ℕ) (y : List Float) : Type 0 where
    pub within : col ≤ n
    pub room : length y₀ ≡ length (columns n f)
    pub long : length y ≡ length y₀
    pub start : at ≡ length (columns col f)
    pub so_far : y ≡ columns col f ++ drop at y₀

  module _ {n : ℕ} {y₀ : List Float} where
    pub lay_start : length y₀ ≡ n * (n + 1) / 2 → Laid n y₀ 0 0 y₀
    unfolding columns
    lay_start e = record { within = omega arith; room = e ∙ sym (columns_length n); long = refl; start = refl; so_far = refl }

    -- the next column's place
    pub lay_room : {at col : ℕ} {y : List Float} → Laid n y₀ at col y → col < n → at + col + 1 ≤ length y₀
    lay_room {col = col} h l = omega (arith, columns_before col n l, h.room, h.start)

    -- what is lent of it
    pub lay_part : {at col : ℕ} {y : List Float} → Laid n y₀ at col y → col < n → length (take (at + col + 1 - at) (drop at y)) ≡ col + 1
    lay_part h l =
        let room = lay_room h l in
        simp (length-take, length-drop) (omega (arith, h.long))

    pub lay_turn : {at col end next : ℕ} {y part z : List Float} → Laid n y₀ at col y → col < n → end ≡ at + col + 1 → next ≡ col + 1 →
        part ≡ each (col + 1) (λ row. f row col) → z ≡ take at y ++ (part ++ drop (end - at) (drop at y)) → Laid n y₀ end next z
    unfolding columns
    lay_turn {at} {col} {end} {next} {y} {part} {z} h l e e' p q =
        let front : take at y ≡ columns col f = ap (take at) h.so_far ∙ take_at (columns col f) (drop at y₀) at (sym h.start) in
        let rest : drop at y ≡ drop at y₀ = ap (drop at) h.so_far ∙ drop_at (columns col f) (drop at y₀) at (sym h.start) in
        let on : at + (end - at) ≡ end = omega arith in
        let laid : z ≡ columns next f ++ drop end y₀ = rw (q, front, rest, drop-drop, on, p, e', add-one) (sym (append_assoc (columns col f) _ _)) in
        let room = lay_room h l in
        record {
          within = omega arith;
          room = h.room;
          long = ap length laid ∙ simp (length-append, length-drop) (omega (arith, h.start, columns_more col, ap (λ k. length (columns k f)) (e' ∙ add-one col)));
          start = rw (e', add-one) (omega (arith, columns_more col, h.start));
          so_far = laid;
        }

    pub lay_end : {at col : ℕ} {y : List Float} → Laid n y₀ at col y → n ≤ col → y ≡ columns n f
    lay_end {at} {col} h l =
        let all : col ≡ n = le_antisymm h.within l in
        let at_end : at ≡ length y₀ = h.start ∙ ap (λ k. length (columns k f)) all ∙ sym h.room in
        h.so_far ∙ rw (at_end, drop-length, all) (append-nil (columns n f))

-- what the needs of such a loop are searched with
pub ruleset laying = (lay_start, lay_part, lay_turn, lay_end, arith)
