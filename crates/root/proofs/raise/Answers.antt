-- `root::raise` meets its contract. Assumes nothing.
use Rattle.std.proofs.Common.{arith}
use Rattle.root.proofs.Digits.{Subnormal, subnormal, raise_low, raise_high}
use Rattle.root.proofs.raise.Goals as goal
use Rattle.root.proofs.raise.Goals.{Else-b-ne0}

zeros : (c : Else-b-ne0) → Subnormal c.args.b
zeros c = subnormal c.args.b c.requires c.if-b-ne0.false

pub returns-then-b-ne0 : goal.returns-then-b-ne0
returns-then-b-ne0 c = raise_high c.args.b c.ranges.b.fits c.requires c.if-b-ne0.true

pub overflow_sub-z : goal.overflow_sub-z
overflow_sub-z c = omega (arith, zeros c)

pub overflow_add-result : goal.overflow_add-result
overflow_add-result c = omega (arith, zeros c)

pub returns : goal.returns
returns c = raise_low c.args.b (zeros c)
