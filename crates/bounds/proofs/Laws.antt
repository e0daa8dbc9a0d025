-- A loop that folds two entries a turn: what the pairs of a slice hold and what is left over, such a turn, and the last entry where one
-- is left. Assumes nothing.
use Prim.Native.Nat.{ℕ, zero, suc, ◌+◌, ◌*◌, ◌/◌, ◌≤◌, ◌<◌}
use native.Mathlib.Omega.{arith}
use mathlib.Core.Path.{◌≡◌, refl, ap, ◌∙◌}
use mathlib.Core.List.{List, []}
use lib.ListN.{length, get_or, drop}
use lib.Ieee.{Float, nan}
use Rattle.std.proofs.lemmas.List.{get_or-take, get_or-drop}
use Rattle.std.specs.Simd.{first_chunks}
use Rattle.vecmath.specs.Double.{◌!◌}
use Rattle.vecmath.specs.Vector.{fold_of}
use Rattle.vecmath.proofs.Loops.{Folded, fold_turn, fold_end}

-- entry j of pair k
pair_at : (m : ℕ) (x : List Float) (k j : ℕ) → k < m → j < 2 → get_or (get_or (first_chunks 2 m x) k []) j nan ≡ x ! (2 * k + j)
pair_at zero x k j l h = absurd (omega arith)
pair_at (suc m) x zero j l h = get_or-take 2 x j nan h ∙ ap (λ i. x ! i) (omega arith)
pair_at (suc m) x (suc k) j l h = pair_at m (drop 2 x) k j (omega arith) h ∙ get_or-drop 2 x (2 * k + j) nan ∙ ap (λ i. x ! i) (omega arith)

pub pair_is : (x : List Float) (k : ℕ) (pairs : List (List Float)) → pairs ≡ first_chunks 2 (length x / 2) x → k < length x / 2
    → (get_or (get_or pairs k []) 0 nan ≡ x ! (2 * k)) × (get_or (get_or pairs k []) 1 nan ≡ x ! (2 * k + 1))
pair_is x k pairs e l = rw e (pair_at _ x k 0 l (omega arith) ∙ ap (λ i. x ! i) (omega arith), pair_at _ x k 1 l (omega arith))

pub last_is : (x : List Float) (k : ℕ) (last : List Float) → last ≡ drop (length x / 2 * 2) x → k ≡ length x / 2 → get_or last 0 nan ≡ x ! (2 * k)
last_is x k last e l = rw e (get_or-drop (length x / 2 * 2) x 0 nan ∙ ap (λ i. x ! i) (omega arith))

module _ {A : Type 0} {n : ℕ} {a : A} {step : ℕ → A → A} where
  pub two_turns : {i j : ℕ} {s t : A} → Folded n a step i s → i + 1 < n → j ≡ i + 2 → t ≡ step (i + 1) (step i s) → Folded n a step j t
  two_turns {i} h l e e' = fold_turn {i = i + 1} (fold_turn h (omega arith) refl refl) l (omega arith) e'

  pub last_turn : {i : ℕ} {s t v : A} → Folded n a step i s → i < n → n ≤ i + 1 → t ≡ step i s → v ≡ fold_of n a step → t ≡ v
  last_turn {i} h l l' e e' = fold_end {i = i + 1} (fold_turn h l refl e) l' e'
