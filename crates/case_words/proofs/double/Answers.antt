-- `case_words::double` meets its contract. Assumes nothing.
use lib.Ieee.{of_bits, div}
use Rattle.std.proofs.lemmas.Float.{not_nan_f64_bits}
use Rattle.case_words.proofs.Laws.{nan_bits_lem}
use Rattle.case_words.proofs.double.Goals as goal

pub returns-then-b-gt9218868437227405312 : goal.returns-then-b-gt9218868437227405312
unfolding div of_bits
returns-then-b-gt9218868437227405312 c = nan_bits_lem _ c.if-b-gt9218868437227405312.true

pub float_from_bits-result : goal.float_from_bits-result
float_from_bits-result c = not_nan_f64_bits _ c.if-b-gt9218868437227405312.false
