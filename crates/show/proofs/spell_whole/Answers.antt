-- `show::spell_whole` meets its contract. Assumes nothing.
use Rattle.std.proofs.Common.{ap, rules}
use lib.Ieee.{binary64, neg}
use lib.Ieee.Fits.{of_int-fits, neg-fits}
use Rattle.show.proofs.Laws.{whole_no_nan, has_bits}
use Rattle.show.proofs.spell_whole.Goals as goal

pub float_to_bits-w : goal.float_to_bits-w
float_to_bits-w c = (whole_no_nan _ (search rules) c.nearest_u64_to_f64-w.ensures).0

pub returns-then-w-b : goal.returns-then-w-b
returns-then-w-b c = has_bits (of_int-fits binary64 _) c.nearest_u64_to_f64-w.ensures c.if-w-b.true

pub float_to_bits-w-2 : goal.float_to_bits-w-2
float_to_bits-w-2 c = (whole_no_nan _ (search rules) c.nearest_u64_to_f64-w.ensures).1

pub returns-then-w-b-2 : goal.returns-then-w-b-2
returns-then-w-b-2 c =
    has_bits (neg-fits binary64 _ (of_int-fits binary64 _)) (ap neg c.nearest_u64_to_f64-w.ensures) c.if-w-b-2.true
