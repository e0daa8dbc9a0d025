-- The standing of one cone of a list: what the cone's kind asks on its own ranges (document 01, "Second-order rules" and "Nonnegative rules"), and
-- the call's deed. Assumes nothing.
use Rattle.std.specs.Prelude.{List, [], ◌∷◌, Float}
use Rattle.answers.specs.declared.Standing.{Standing}
use Rattle.standing.specs.Standing.{soc_standing, nonneg_standing}
use Rattle.conelist.specs.declared.Kind.{Kind}
use Rattle.conelist.specs.declared.Kind.TheVariants.{Nonnegative, SecondOrder}
use Rattle.answers.specs.Outcome.{stands}
use Rattle.conecalls.specs.Deed.{real, per_entry, Deed, plain}

unfoldable pub kind_standing : Kind → List Float → Standing
kind_standing (Nonnegative n) z = nonneg_standing z
kind_standing (SecondOrder n) z = soc_standing z

abbrev pub standing_deed : Deed
standing_deed = plain [] (per_entry real ∷ []) (λ kind z. record { reply = stands (kind_standing kind z); news = tt })
