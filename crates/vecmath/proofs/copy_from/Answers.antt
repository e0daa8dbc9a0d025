-- `vecmath::copy_from` meets its contract. Assumes nothing.
use Rattle.std.proofs.Common.{arith}
use Rattle.vecmath.proofs.Loops.{loops, fill_end_by, each_self, nan}
use Rattle.vecmath.proofs.copy_from.Goals as goal

pub loop-i-init : goal.loop-i-init
loop-i-init c = search loops

pub loop-i-preserved : goal.loop-i-preserved
loop-i-preserved c = search loops

pub returns : goal.returns
returns c = fill_end_by c.loop-i.invariant (omega (arith, c.loop-i.invariant.long, c.loop-i-test.false)) c.requires (each_self nan _)
