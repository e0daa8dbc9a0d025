-- `words::low` meets its contract. Assumes nothing.
use native.Mathlib.Omega.{arith}
use Rattle.words.proofs.Product.{Parts, parts, low_half}
use Rattle.words.proofs.low.Goals as goal
use Rattle.words.proofs.low.Goals.{Start}

halves : (c : Start) → Parts c.args.x c.args.y
halves c = parts c.args.x c.args.y c.ranges.x.fits c.ranges.y.fits

pub overflow_mul-first : goal.overflow_mul-first
overflow_mul-first c = omega (arith, halves c)

pub overflow_mul-second : goal.overflow_mul-second
overflow_mul-second c = omega (arith, halves c)

pub overflow_add-second : goal.overflow_add-second
overflow_add-second c = omega (arith, halves c)

pub overflow_mul-third : goal.overflow_mul-third
overflow_mul-third c = omega (arith, halves c)

pub overflow_add-third : goal.overflow_add-third
overflow_add-third c = omega (arith, halves c)

pub overflow_add-result : goal.overflow_add-result
overflow_add-result c = omega (arith, halves c)

pub returns : goal.returns
returns c = low_half c.args.x c.args.y
