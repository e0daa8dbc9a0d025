-- Unit initialisation of one cone of a list: what the cone's kind asks on its own ranges (document 01, "Second-order rules" and "Nonnegative rules"), and
-- the call's deed. Assumes nothing.
use Rattle.std.specs.Prelude.{ℕ, List, [], ◌∷◌, length, Float}
use Rattle.soc_units.specs.Units.{unit_vector}
use Rattle.nn_units.specs.Units.{nonneg_unit}
use Rattle.conelist.specs.declared.Kind.{Kind}
use Rattle.conelist.specs.declared.Kind.TheVariants.{Nonnegative, SecondOrder}
use Rattle.answers.specs.Outcome.{◌⨾◌}
use Rattle.conecalls.specs.Deed.{real, per_entry, Deed, plain, writes_of}

-- of one of the two vectors, which has m entries
unfoldable pub kind_unit : Kind → (m : ℕ) → List Float
kind_unit (Nonnegative n) m = nonneg_unit m
kind_unit (SecondOrder n) m = unit_vector m

-- z, s
abbrev pub unit_initialization_deed : Deed
unit_initialization_deed = plain (per_entry real ∷ per_entry real ∷ []) [] (λ kind z s. writes_of (kind_unit kind (length z) ⨾ kind_unit kind (length s) ⨾ tt))
