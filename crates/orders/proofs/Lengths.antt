-- What each rule writes on a cone's own ranges has those ranges' lengths, for either kind. Assumes nothing.
use Prim.Native.Nat.{ℕ, ◌≤◌}
use native.Mathlib.Omega.{arith}
use mathlib.Core.Path.{◌≡◌, ap, ◌∙◌}
use lib.ListN.{length}
use lib.Ieee.{Float}
use Rattle.soc_units.proofs.Laws.{length_unit_shift, length_unit_vector}
use Rattle.soc_identity.proofs.Laws.{lengths_identity}
use Rattle.answers.specs.Refusal.{block_length}
use Rattle.soc_blocks.proofs.Laws.{hs_long}
use Rattle.soc_products.proofs.Laws.{length_mul_w, length_mul_winv}
use Rattle.soc_mul_hs.proofs.Laws.{length_mul_hs}
use Rattle.soc_offset.proofs.Laws.{length_offset}
use Rattle.soc_jordan.proofs.Laws.{length_circ}
use Rattle.soc_inverse.proofs.Laws.{length_inv_circ}
use Rattle.nn_units.proofs.Laws as unit
use Rattle.nn_blocks.proofs.Laws as block
use Rattle.nn_products.proofs.Laws as entrywise
use Rattle.nn_mul_hs.proofs.Laws as times
use Rattle.nn_offset.proofs.Laws as moved
use Rattle.nn_jordan.proofs.Laws as jordan
use Rattle.nn_inverse.proofs.Laws as inverse
use Rattle.soc_combined.proofs.Laws.{lengths_combined}
use Rattle.nn_combined.proofs.Laws as shifted
use Rattle.conelist.specs.declared.Kind.{Kind}
use Rattle.conelist.specs.declared.Kind.TheVariants.{Nonnegative, SecondOrder}
use Rattle.conelist.specs.Layout.{dim, least_dim}
use Rattle.conecalls.specs.Deed.{Keeps}
use Rattle.conecalls.proofs.Marked.{keeps_marking}
use Rattle.marks.specs.Mark.{identity_mark}
use Rattle.list_shifts.specs.Shift.{kind_scaled_unit_shift, scaled_unit_shift_deed, kind_ds_from_dz_offset, ds_from_dz_offset_deed, kind_combined_ds_shift, combined_ds_shift_deed}
use Rattle.list_units.specs.Units.{kind_unit, unit_initialization_deed}
use Rattle.list_identity.specs.Identity.{kind_set_identity_scaling, set_identity_scaling_unmarked, set_identity_scaling_deed}
use Rattle.list_blocks.specs.Block.{kind_hs, get_hs_deed}
use Rattle.list_mul_hs.specs.Block.{kind_mul_hs, mul_hs_deed}
use Rattle.list_jordan.specs.Jordan.{kind_circ_op, circ_op_deed, kind_inv_circ_op, inv_circ_op_deed, kind_lambda_inv_circ_op, lambda_inv_circ_op_deed, kind_affine_ds, affine_ds_deed}
use Rattle.list_products.specs.Product.{kind_mul_w, mul_w_deed, kind_mul_winv, mul_winv_deed}

some : {n : ℕ} → 2 ≤ n → 1 ≤ n
some h = omega arith

-- ---- each rule keeps its ranges' lengths: h, the dimension is in range; f and g, the lengths of what is lent for writing and for reading

pub scaled_unit_shift : (α : Float) → Keeps (scaled_unit_shift_deed α)
unfolding kind_scaled_unit_shift
scaled_unit_shift α (Nonnegative n) h ws f rs g = (unit.length_shift α _ ∙ f.0, tt)
scaled_unit_shift α (SecondOrder n) h ws f rs g = (length_unit_shift _ α (some h) f.0, tt)

unit_vector : (kind : Kind) (m : ℕ) → least_dim kind ≤ dim kind → m ≡ dim kind → length (kind_unit kind m) ≡ dim kind
unfolding kind_unit
unit_vector (Nonnegative n) m h e = unit.length_unit m ∙ e
unit_vector (SecondOrder n) m h e = length_unit_vector m (omega arith) ∙ e

pub unit_initialization : Keeps unit_initialization_deed
unit_initialization kind h ws f rs g = (unit_vector kind _ h f.0, (unit_vector kind _ h f.1.0, tt))

identity_scaling : Keeps set_identity_scaling_unmarked
unfolding kind_set_identity_scaling
identity_scaling (Nonnegative n) h ws f rs g = (unit.length_unit _ ∙ f.0, f.1)
identity_scaling (SecondOrder n) h ws f rs g = lengths_identity n (some h) _ _ _ _ f.0 f.1.0 f.1.1.0

pub set_identity_scaling : Keeps set_identity_scaling_deed
set_identity_scaling = keeps_marking set_identity_scaling_unmarked (λ reply m. identity_mark) identity_scaling

pub get_hs : Keeps get_hs_deed
unfolding kind_hs
get_hs (Nonnegative n) h ws f rs g = (block.length_hs _ ∙ g.0, tt)
get_hs (SecondOrder n) h ws f rs g = (hs_long _ _ _ ∙ ap block_length g.0, tt)

pub mul_hs : Keeps mul_hs_deed
unfolding kind_mul_hs
mul_hs (Nonnegative n) h ws f rs g = (times.length_mul_hs _ _ ∙ g.0, tt)
mul_hs (SecondOrder n) h ws f rs g = (length_mul_hs _ _ _ g.1.0, tt)

pub affine_ds : Keeps affine_ds_deed
unfolding kind_affine_ds
affine_ds (Nonnegative n) h ws f rs g = (jordan.length_affine_ds _ ∙ g.0, tt)
affine_ds (SecondOrder n) h ws f rs g = (length_circ _ _ (some h) g.0, tt)

pub combined_ds_shift : (σμ : Float) → Keeps (combined_ds_shift_deed σμ)
unfolding kind_combined_ds_shift
combined_ds_shift σμ (Nonnegative n) h ws f rs g = shifted.lengths_combined _ _ σμ _ f.1.0 f.1.1.0
combined_ds_shift σμ (SecondOrder n) h ws f rs g = lengths_combined _ _ σμ _ _ (some h) f.1.0 f.1.1.0

pub ds_from_dz_offset : Keeps ds_from_dz_offset_deed
unfolding kind_ds_from_dz_offset
ds_from_dz_offset (Nonnegative n) h ws f rs g = (moved.length_offset _ _ ∙ g.0, tt)
ds_from_dz_offset (SecondOrder n) h ws f rs g = (length_offset _ _ _ _ _ (some h) g.1.0, tt)

pub mul_w : (α β : Float) → Keeps (mul_w_deed α β)
unfolding kind_mul_w
mul_w α β (Nonnegative n) h ws f rs g = (entrywise.length_mul_w _ _ α β _ ∙ f.0, tt)
mul_w α β (SecondOrder n) h ws f rs g = (length_mul_w _ _ α β _ _ (some h) g.0, tt)

pub mul_winv : (α β : Float) → Keeps (mul_winv_deed α β)
unfolding kind_mul_winv
mul_winv α β (Nonnegative n) h ws f rs g = (entrywise.length_mul_winv _ _ α β _ ∙ f.0, tt)
mul_winv α β (SecondOrder n) h ws f rs g = (length_mul_winv _ _ α β _ _ (some h) g.0, tt)

pub circ_op : Keeps circ_op_deed
unfolding kind_circ_op
circ_op (Nonnegative n) h ws f rs g = (jordan.length_circ _ _ ∙ g.0, tt)
circ_op (SecondOrder n) h ws f rs g = (length_circ _ _ (some h) g.1.0, tt)

pub inv_circ_op : Keeps inv_circ_op_deed
unfolding kind_inv_circ_op
inv_circ_op (Nonnegative n) h ws f rs g = (inverse.length_inv_circ _ _ ∙ g.1.0, tt)
inv_circ_op (SecondOrder n) h ws f rs g = (length_inv_circ _ _ (some h) g.0, tt)

pub lambda_inv_circ_op : Keeps lambda_inv_circ_op_deed
unfolding kind_lambda_inv_circ_op
lambda_inv_circ_op (Nonnegative n) h ws f rs g = (inverse.length_inv_circ _ _ ∙ g.0, tt)
lambda_inv_circ_op (SecondOrder n) h ws f rs g = (length_inv_circ _ _ (some h) g.1.0, tt)
