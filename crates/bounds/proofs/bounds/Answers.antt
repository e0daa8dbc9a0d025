-- `bounds::bounds` meets its contract. Assumes nothing.
use native.Mathlib.Omega.{arith}
use mathlib.Core.Path.{◌≡◌, refl, ◌∙◌}
use Prim.Native.Nat.{◌+◌, ◌*◌, ◌/◌, ◌<◌, ◌≤◌}
use lib.ListN.{length}
use lib.Ieee.{nan, is_nan, div, of_bits}
use Rattle.ordering.proofs.Shortens.{least_assoc}
use Rattle.vecmath.specs.Vector.{minimum, positives}
use Rattle.vecmath.proofs.Loops.{loops, fold_end, ◌!◌}
use Rattle.bounds.proofs.Laws.{pair_is, last_is, two_turns, last_turn}
use Rattle.bounds.proofs.bounds.Goals as goal
use Rattle.bounds.proofs.bounds.Goals.{After-greatest-in-Some, In_default}

pub loop-a-init : goal.loop-a-init
unfolding div of_bits is_nan
loop-a-init c = search loops

pub loop-a-preserved : goal.loop-a-preserved
loop-a-preserved c =
    let so_far = c.loop-a.invariant in
    let within : c.loop-a.a-index < length c.args.x.now / 2 = omega (arith, c.loop-a-test.true, c.as_chunks.ensures.front_len) in
    let pair = pair_is _ _ _ c.as_chunks.ensures.front within in (
      two_turns so_far.0 (omega arith) (omega arith) (rw (c.lower-least.ensures.value, c.least.ensures, pair.0, pair.1) (least_assoc _ _ _)),
      two_turns so_far.1 (omega arith) (omega arith) (rw (c.greatest-in-loop-a.ensures, c.greatest.ensures, pair.0, pair.1)),
      c.lower-least.ensures.result_value,
    )

-- one entry is left over, and which it is
left : (c : After-greatest-in-Some) → (length c.args.x.now ≡ 2 * c.loop-a.a-index + 1) × (c.in-Some.a.now ≡ c.args.x.now ! (2 * c.loop-a.a-index))
left c =
    let item = c.in-Some.ensures.item.3 in
    let all : c.loop-a.a-index ≡ length c.args.x.now / 2 = omega (arith, c.loop-a-test.false, c.as_chunks.ensures.front_len, c.loop-a.invariant.0.within) in
    (omega (arith, all, item.0, c.as_chunks.ensures.back_len), item.1 nan ∙ last_is _ _ _ c.as_chunks.ensures.back all)

pub returns-in-Some-clause-least_value : goal.returns-in-Some-clause-least_value
unfolding minimum
returns-in-Some-clause-least_value c = last_turn c.loop-a.invariant.0 (omega (arith, (left c).0)) (omega (arith, (left c).0)) (rw (c.lower.ensures.value, (left c).1)) refl

pub returns-in-Some-clause-sum_value : goal.returns-in-Some-clause-sum_value
unfolding positives
returns-in-Some-clause-sum_value c = last_turn c.loop-a.invariant.1 (omega (arith, (left c).0)) (omega (arith, (left c).0)) (rw (c.greatest-in-Some.ensures, (left c).1)) refl

-- none is left over
none : (c : In_default) → length c.args.x.now ≤ 2 * c.loop-a.a-index
none c = omega (arith, c.loop-a-test.false, c.as_chunks.ensures.front_len, c.as_chunks.ensures.back_len, c.in_default.ensures.item.3)

pub returns-clause-least_value : goal.returns-clause-least_value
unfolding minimum
returns-clause-least_value c = fold_end c.loop-a.invariant.0 (none c) refl

pub returns-clause-sum_value : goal.returns-clause-sum_value
unfolding positives
returns-clause-sum_value c = fold_end c.loop-a.invariant.1 (none c) refl
