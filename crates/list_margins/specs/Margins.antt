-- Margins of one cone of a list: what the cone's kind asks on its own ranges (document 01, "Second-order rules" and "Nonnegative rules"), and
-- the call's deed. Assumes nothing.
use Rattle.std.specs.Prelude.{List, [], ◌∷◌, Float}
use Rattle.extrema.specs.Extrema.{greatest_of}
use Rattle.vecmath.specs.Double.{𝟎}
use Rattle.answers.specs.Outcome.{Reply, margins}
use Rattle.soc_units.specs.Units.{margin}
use Rattle.nn_units.specs.Units.{nonneg_margins}
use Rattle.conelist.specs.declared.Kind.{Kind}
use Rattle.conelist.specs.declared.Kind.TheVariants.{Nonnegative, SecondOrder}
use Rattle.conecalls.specs.Deed.{real, per_entry, Deed, plain}

unfoldable pub kind_margins : Kind → List Float → Reply
kind_margins (Nonnegative n) z = nonneg_margins z
kind_margins (SecondOrder n) z = margins (margin z) (greatest_of 𝟎 (margin z))

abbrev pub margins_deed : Deed
margins_deed = plain [] (per_entry real ∷ []) (λ kind z. record { reply = kind_margins kind z; news = tt })
