-- `root::is_nearest` meets its contract. Assumes nothing.
use Rattle.std.proofs.Common.{ℕ, ◌+◌, ◌/◌, ◌^◌, sym, ap, ◌∙◌, arith}
use Rattle.root.proofs.Check.{over_is, few_fit, bit_le, told_apart, told}
use Rattle.root.proofs.is_nearest.Goals as goal

pub overflow_add-a : goal.overflow_add-a
overflow_add-a c = omega (arith, bit_le _ _ c.bit.ensures)

pub returns-then-high-a : goal.returns-then-high-a
returns-then-high-a c =
    told_apart _ _ _ _ c.requires.normal c.requires.few_digits c.high.ensures c.low-low.ensures
    (λ e. c.if-high-a.true (e ∙ ap (λ (x : ℕ). c.args.a / 2 ^ 12 + x) (sym c.bit.ensures)))

pub overflow_mul-result : goal.overflow_mul-result
overflow_mul-result c = record { fits = few_fit _ _ (omega arith) c.requires.few_digits }

pub returns : goal.returns
returns c =
    told _ _ _ c.requires.normal
    (over_is _ _ _ _ _ c.requires.normal c.high.ensures c.low-low.ensures
    (c.if-high-a.false ∙ ap (λ (x : ℕ). c.args.a / 2 ^ 12 + x) c.bit.ensures) c.wrapping_sub_u64.ensures.value c.wrapping_sub_u64.type_inv)
