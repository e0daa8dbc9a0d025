-- The unit shift, the offset of ds and the combined shift of one cone of a list: what the cone's kind asks on its own ranges (document 01,
-- "Second-order rules" and "Nonnegative rules"), and each call's deed. Nonnegative cones use no η, and for the offset no w and lambda. Assumes nothing.
use Rattle.std.specs.Prelude.{List, [], ◌∷◌, Float}
use Rattle.soc_units.specs.Units.{unit_shift}
use Rattle.soc_offset.specs.Offset.{offset_of}
use Rattle.soc_combined.specs.Combined.{combined_shift}
use Rattle.nn_units.specs.Units.{nonneg_shift}
use Rattle.nn_offset.specs.Offset.{nonneg_offset}
use Rattle.nn_combined.specs.Combined.{nonneg_combined_shift}
use Rattle.conelist.specs.declared.Kind.{Kind}
use Rattle.conelist.specs.declared.Kind.TheVariants.{Nonnegative, SecondOrder}
use Rattle.answers.specs.Outcome.{Contents, ◌⨾◌}
use Rattle.conecalls.specs.Deed.{real, per_entry, per_cone, Deed, plain, writes_of}
use Rattle.conecalls.specs.Marked.{marked}
use Rattle.marks.specs.Mark.{unset, offset_unscaled}

unfoldable pub kind_scaled_unit_shift : Kind → (z : List Float) (α : Float) → List Float
kind_scaled_unit_shift (Nonnegative n) z α = nonneg_shift α z
kind_scaled_unit_shift (SecondOrder n) z α = unit_shift z α

abbrev pub scaled_unit_shift_deed : (α : Float) → Deed
scaled_unit_shift_deed α = plain (per_entry real ∷ []) [] (λ kind z. writes_of (kind_scaled_unit_shift kind z α ⨾ tt))

unfoldable pub kind_ds_from_dz_offset : Kind → (ds z w lambda : List Float) (η : Float) → List Float
kind_ds_from_dz_offset (Nonnegative n) ds z w lambda η = nonneg_offset ds z
kind_ds_from_dz_offset (SecondOrder n) ds z w lambda η = offset_of ds z w lambda η

abbrev pub ds_from_dz_offset_unmarked : Deed
ds_from_dz_offset_unmarked =
    plain (per_entry real ∷ []) (per_entry real ∷ per_entry real ∷ per_entry real ∷ per_entry real ∷ per_cone real ∷ [])
    (λ kind out ds z w lambda η. writes_of (kind_ds_from_dz_offset kind ds z w lambda η ⨾ tt))

-- document 02, item 4: that of a second-order cone reads w, lambda and η, so on a Scaled cone alone; that of a nonnegative one none of them
abbrev pub ds_from_dz_offset_deed : Deed
ds_from_dz_offset_deed = marked offset_unscaled ds_from_dz_offset_unmarked

-- the contents are shift, step_z, step_s
unfoldable pub kind_combined_ds_shift : Kind → (step_z step_s : List Float) (σμ : Float) (w : List Float) (η : Float) → Contents 3 0
kind_combined_ds_shift (Nonnegative n) step_z step_s σμ w η = nonneg_combined_shift step_z step_s σμ w
kind_combined_ds_shift (SecondOrder n) step_z step_s σμ w η = combined_shift step_z step_s σμ w η

abbrev pub combined_ds_shift_unmarked : (σμ : Float) → Deed
combined_ds_shift_unmarked σμ =
    plain (per_entry real ∷ per_entry real ∷ per_entry real ∷ []) (per_entry real ∷ per_cone real ∷ [])
    (λ kind shift step_z step_s w η. writes_of (kind_combined_ds_shift kind step_z step_s σμ w η))

-- document 02, item 4: it reads w and η, so not on a Fresh cone
abbrev pub combined_ds_shift_deed : (σμ : Float) → Deed
combined_ds_shift_deed σμ = marked (λ kind m. unset m) (combined_ds_shift_unmarked σμ)
