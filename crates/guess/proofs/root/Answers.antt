-- `guess::root` is safe. Assumes nothing.
use native.Mathlib.Omega.{arith}
use Rattle.guess.proofs.Patterns.{no_nan_bits}
use Rattle.guess.proofs.root.Goals as goal

pub float_from_bits-x : goal.float_from_bits-x
float_from_bits-x c = no_nan_bits _ (omega arith)
