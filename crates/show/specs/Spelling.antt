-- What a spelling of a double stands for. Assumes nothing.
use Rattle.std.specs.Prelude.{pos, from_bits, Float}
use Rattle.std.specs.Float.{nan, binary64}
use Rattle.std.specs.Float.Ieee.{neg, of_int}
use Rattle.show.specs.declared.Spelling.{Spelling}
use Rattle.show.specs.declared.Spelling.TheVariants.{NotNumber, Whole, Minus, Bits}

abbrev pub stands : Spelling → Float
stands NotNumber = nan
stands (Whole n) = of_int binary64 (pos n)
stands (Minus n) = neg (of_int binary64 (pos n))
stands (Bits b) = from_bits binary64 b
