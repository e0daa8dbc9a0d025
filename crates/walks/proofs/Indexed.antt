-- Over the records one after another is over their indices: a walk's fold as `vecmath` has folds. Assumes nothing.
use Prim.Native.Nat.{ℕ, zero, suc}
use mathlib.Core.Path.{◌≡◌, refl, sym, ap, ◌∙◌}
use mathlib.Core.List.{List, [], ◌∷◌}
use lib.ListN.{length, get_or}
use Rattle.vecmath.specs.Vector.{fold_of}
use Rattle.conelist.specs.declared.Cone.{Cone}
use Rattle.conelist.specs.Layout.{kind_of_cone}
use Rattle.walks.specs.Records.{no_cone, over_records}

-- a fold from its first turn on
pub fold_first : {A : Type 0} (n : ℕ) (a : A) (step : ℕ → A → A) → fold_of (suc n) a step ≡ fold_of n (step 0 a) (λ k. step (suc k))
unfolding fold_of
fold_first zero a step = refl
fold_first (suc n) a step = ap (step (suc n)) (fold_first n a step)

pub by_index : {Z : Type 0} (f : Z → Cone → Z) (cs : List Cone) (z : Z) → over_records f cs z ≡ fold_of (length cs) z (λ k w. f w (get_or cs k no_cone))
unfolding fold_of
by_index f [] z = refl
by_index f (c ∷ cs) z = by_index f cs (f z c) ∙ sym (fold_first (length cs) z (λ k w. f w (get_or (c ∷ cs) k no_cone)))

pub kind_at : (cs : List Cone) (k : ℕ) → (get_or cs k no_cone).kind ≡ kind_of_cone cs k
kind_at [] k = refl
kind_at (c ∷ cs) zero = refl
kind_at (c ∷ cs) (suc k) = kind_at cs k
