-- `folds_shifted::sumsq_axpby` meets its contract. Assumes nothing.
use mathlib.Core.Path.{◌≡◌, ap, ◌∙◌}
use mathlib.Core.List.{List}
use Rattle.vecmath.specs.Vector.{fold_of, sumsq, scale_of, axpby}
use Rattle.vecmath.proofs.Loops.{loops, fold_end, fold_same, sumsq_each, each_at, length, Float, nan, ◌⊕◌, ◌⊗◌, 𝟎, 𝟏, ◌!◌}
use Rattle.folds_shifted.proofs.sumsq_axpby.Goals as goal

-- the sum of squares, with no vector between
in_one : (a : Float) (x : List Float) (b : Float) (y : List Float) → length y ≡ length x
    → sumsq (axpby a x 𝟏 (scale_of b y)) ≡ fold_of (length x) 𝟎 (λ k s. s ⊕ (a ⊗ x ! k ⊕ 𝟏 ⊗ (b ⊗ y ! k)) ⊗ (a ⊗ x ! k ⊕ 𝟏 ⊗ (b ⊗ y ! k)))
unfolding axpby scale_of
in_one a x b y e =
    sumsq_each _ _
    ∙ fold_same _ _ _ _ (λ k s h. ap (λ v. s ⊕ (a ⊗ x ! k ⊕ 𝟏 ⊗ v) ⊗ (a ⊗ x ! k ⊕ 𝟏 ⊗ v)) (each_at nan (length y) _ k (rw e h)))

pub loop-i-init : goal.loop-i-init
loop-i-init c = search loops

pub loop-i-preserved : goal.loop-i-preserved
loop-i-preserved c = search loops

pub returns : goal.returns
returns c = fold_end c.loop-i.invariant c.loop-i-test.false (in_one _ _ _ _ c.requires)
