-- Identity scaling of one cone of a list: what the cone's kind asks on its own ranges (document 01, "Second-order rules" and "Nonnegative rules"), and
-- the call's deed. Nonnegative cones use no u, v, η, d. Assumes nothing.
use Rattle.std.specs.Prelude.{List, [], ◌∷◌, length, Float}
use Rattle.answers.specs.Outcome.{Contents, ◌⨾◌}
use Rattle.soc_identity.specs.Identity.{identity_scaling}
use Rattle.nn_units.specs.Units.{nonneg_unit}
use Rattle.conelist.specs.declared.Kind.{Kind}
use Rattle.conelist.specs.declared.Kind.TheVariants.{Nonnegative, SecondOrder}
use Rattle.conecalls.specs.Deed.{real, per_entry, per_cone, Deed, plain, writes_of}
use Rattle.conecalls.specs.Marked.{marking}
use Rattle.marks.specs.Mark.{identity_mark}

-- the contents are w, u, v, η, d
unfoldable pub kind_set_identity_scaling : Kind → (w u v : List Float) (η d : Float) → Contents 3 2
kind_set_identity_scaling (Nonnegative n) w u v η d = nonneg_unit (length w) ⨾ u ⨾ v ⨾ η ⨾ d ⨾ tt
kind_set_identity_scaling (SecondOrder n) w u v η d = identity_scaling w u v d

-- w, u, v, η, d. lambda stays: it is not even lent
abbrev pub set_identity_scaling_unmarked : Deed
set_identity_scaling_unmarked =
    plain (per_entry real ∷ per_entry real ∷ per_entry real ∷ per_cone real ∷ per_cone real ∷ []) []
    (λ kind w u v η d. writes_of (kind_set_identity_scaling kind w u v η d))

-- and the mark, which is then Identity (document 02, item 4)
abbrev pub set_identity_scaling_deed : Deed
set_identity_scaling_deed = marking set_identity_scaling_unmarked (λ reply m. identity_mark)
