-- What identity scaling writes has its slice's length, for every n. Assumes nothing.
use Prim.Native.Nat.{ℕ, ◌≤◌}
use native.Mathlib.Omega.{arith}
use mathlib.Core.Path.{◌≡◌, refl}
use mathlib.Core.Bool.{Bool, true, false, cond}
use mathlib.Core.List.{List}
use lib.ListN.{length, length-drop}
use lib.Ieee.{Float}
use Rattle.vecmath.specs.Vector.{constant}
use Rattle.vecmath.proofs.Loops.{length_each}
use Rattle.tails.specs.Tail.{leading}
use Rattle.answers.proofs.Laws.{Long}
use Rattle.soc_identity.specs.Identity.{identity_scaling}

-- ---- lengths

pub length_constant : (n : ℕ) (a : Float) → length (constant n a) ≡ n
unfolding constant
length_constant n a = length_each n _

-- of one of two
pub length_cond : (t : Bool) (x y : List Float) → length (cond t x y) ≡ cond t (length x) (length y)
length_cond true x y = refl
length_cond false x y = refl

pub cond_same : {A : Type 0} (t : Bool) (x : A) → cond t x x ≡ x
cond_same true x = refl
cond_same false x = refl

module _ (n : ℕ) (some : 1 ≤ n) where
  length_leading : (a : Float) → length (leading n a) ≡ n
  unfolding leading
  length_leading a = simp (length-drop, length_constant) (omega arith)

  pub lengths_identity : (w u v : List Float) (d : Float) → length w ≡ n → length u ≡ n → length v ≡ n → Long n 3 2 (identity_scaling w u v d)
  unfolding identity_scaling
  lengths_identity w u v d of_w of_u of_v =
      (simp (of_w, length_leading), (simp (of_w, length_cond, of_u, length_leading, cond_same), (simp (of_w, length_cond, of_v, length_constant, cond_same), (tt, (tt, tt)))))
