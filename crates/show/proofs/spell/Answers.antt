-- `show::spell` meets its contract: the bits stand for x, and the tests are what the cast asks. Assumes nothing.
use Rattle.std.proofs.Common.{T, sym, ◌∙◌, subst}
use lib.Ieee.{binary64, of_bits, neg}
use lib.Ieee.Bits.{of_bits-to_bits}
use Rattle.show.proofs.Laws.{only_nan}
use Rattle.show.proofs.spell.Goals as goal

pub returns-then-is_nan : goal.returns-then-is_nan
returns-then-is_nan c = only_nan _ (sym c.if-is_nan.ensures.value)

pub truncating_f64_to_u64-requires-clause-lower_bound : goal.truncating_f64_to_u64-requires-clause-lower_bound
unfolding of_bits neg
truncating_f64_to_u64-requires-clause-lower_bound c = subst T (sym c.if-y.true) tt

pub truncating_f64_to_u64-requires-clause-upper_bound : goal.truncating_f64_to_u64-requires-clause-upper_bound
unfolding of_bits neg
truncating_f64_to_u64-requires-clause-upper_bound c = subst T (sym c.if-y-2.true) tt

pub returns-then-y-2 : goal.returns-then-y-2
returns-then-y-2 c = c.spell_whole.ensures ∙ of_bits-to_bits binary64 _ (subst T (sym c.well_formed.0.1) tt)

pub returns-else-y-2 : goal.returns-else-y-2
returns-else-y-2 c = of_bits-to_bits binary64 _ (subst T (sym c.well_formed.0.1) tt)

pub returns-else-y : goal.returns-else-y
returns-else-y c = of_bits-to_bits binary64 _ (subst T (sym c.well_formed.0.1) tt)
