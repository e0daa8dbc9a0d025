-- `measured::measured_dot` meets its contract. Assumes nothing.
use lib.Ieee.{div, of_bits}
use Rattle.std.proofs.Common.{arith}
use Rattle.std.proofs.lemmas.Bool.Decides.{nat_tests}
use Rattle.measured.specs.Fitted.{fitted_of}
use Rattle.measured.proofs.measured_dot.Goals as goal

pub returns-then-y-x : goal.returns-then-y-x
unfolding fitted_of div of_bits
returns-then-y-x c = grind (arith, nat_tests)
