-- `words::high` meets its contract. Assumes nothing.
use native.Mathlib.Omega.{arith}
use Rattle.words.proofs.Product.{Parts, parts, high_half}
use Rattle.words.proofs.high.Goals as goal
use Rattle.words.proofs.high.Goals.{Start}

halves : (c : Start) → Parts c.args.x c.args.y
halves c = parts c.args.x c.args.y c.ranges.x.fits c.ranges.y.fits

pub overflow_mul-first : goal.overflow_mul-first
overflow_mul-first c = omega (arith, halves c)

pub overflow_mul-second : goal.overflow_mul-second
overflow_mul-second c = omega (arith, halves c)

pub overflow_add-second : goal.overflow_add-second
overflow_add-second c = omega (arith, halves c)

pub overflow_mul-third : goal.overflow_mul-third
overflow_mul-third c = omega (arith, halves c)

pub overflow_add-third : goal.overflow_add-third
overflow_add-third c = omega (arith, halves c)

pub overflow_mul-result : goal.overflow_mul-result
overflow_mul-result c = omega (arith, halves c)

pub overflow_add-result : goal.overflow_add-result
overflow_add-result c = omega (arith, halves c)

pub overflow_add-result-2 : goal.overflow_add-result-2
overflow_add-result-2 c = omega (arith, halves c)

pub returns : goal.returns
returns c = high_half c.args.x c.args.y
