-- The public calls that name one cone, as data: each is the deed that its contract cites, done on the cone that it names with the buffers that it
-- is lent. Assumes nothing.
use Rattle.std.specs.Prelude.{ℕ, List, Float}
use Rattle.answers.specs.Outcome.{Outcome}
use Rattle.conelist.specs.declared.Cone.{Cone}
use Rattle.conelist.specs.Layout.{place_of}
use Rattle.conecalls.specs.Deed.{Whole, Tuple, Numbers, Deed}
use Rattle.list_margins.specs.Margins.{margins_deed}
use Rattle.list_shifts.specs.Shift.{scaled_unit_shift_deed, combined_ds_shift_deed, ds_from_dz_offset_deed}
use Rattle.list_units.specs.Units.{unit_initialization_deed}
use Rattle.list_identity.specs.Identity.{set_identity_scaling_deed}
use Rattle.list_scaling.specs.Scaling.{update_scaling_deed}
use Rattle.list_blocks.specs.Block.{get_hs_deed}
use Rattle.list_square.specs.Square.{square_hs_deed}
use Rattle.list_mul_hs.specs.Block.{mul_hs_deed}
use Rattle.list_jordan.specs.Jordan.{circ_op_deed, inv_circ_op_deed, lambda_inv_circ_op_deed, affine_ds_deed}
use Rattle.list_step.specs.Step.{step_length_deed}
use Rattle.list_products.specs.Product.{mul_w_deed, mul_winv_deed}
use Rattle.list_standing.specs.Standing.{standing_deed}
use Rattle.sequences.specs.Rearranged.{Ended}
use Rattle.sequences.specs.Local as local
use Rattle.sequences.specs.Local.{Store, Task, comes_to}

-- ---- the calls, each with the numbers that it is given

pub data Operation : Type 0 where
  margins unit_initialization set_identity_scaling update_scaling get_hs square_hs mul_hs affine_ds ds_from_dz_offset : Operation
  circ_op inv_circ_op lambda_inv_circ_op standing : Operation
  scaled_unit_shift : (α : Float) → Operation
  combined_ds_shift : (σμ : Float) → Operation
  step_length : (αmax : Float) → Operation
  mul_w mul_winv : (α β : Float) → Operation

abbrev pub deed_of : Operation → Deed
deed_of margins = margins_deed
deed_of unit_initialization = unit_initialization_deed
deed_of set_identity_scaling = set_identity_scaling_deed
deed_of update_scaling = update_scaling_deed
deed_of get_hs = get_hs_deed
deed_of square_hs = square_hs_deed
deed_of mul_hs = mul_hs_deed
deed_of affine_ds = affine_ds_deed
deed_of ds_from_dz_offset = ds_from_dz_offset_deed
deed_of circ_op = circ_op_deed
deed_of inv_circ_op = inv_circ_op_deed
deed_of lambda_inv_circ_op = lambda_inv_circ_op_deed
deed_of standing = standing_deed
deed_of (scaled_unit_shift α) = scaled_unit_shift_deed α
deed_of (combined_ds_shift σμ) = combined_ds_shift_deed σμ
deed_of (step_length αmax) = step_length_deed αmax
deed_of (mul_w α β) = mul_w_deed α β
deed_of (mul_winv α β) = mul_winv_deed α β

-- ---- one of them on a cone: the cone's index, and the numbers of the buffers lent for writing and for reading, in the deed's order

pub record Request : Type 0 where
  pub cone : ℕ
  pub call : Operation
  pub writes : Numbers (deed_of call).writes
  pub reads : Numbers (deed_of call).reads

abbrev pub task_of : Request → Task
task_of r = record { cone = r.cone; deed = deed_of r.call; writes = r.writes; reads = r.reads }

-- ---- a sequence of them over a list

-- the cone that a call names
abbrev pub names : Request → ℕ
names r = (task_of r).cone

module _ (list : List Cone) where
  -- what a call comes to, at the place of the cone that it names: `comes_at (place_of list k) deed` of what its buffers hold, as its contract says
  abbrev pub meets_of : (r : Request) → Store → Outcome (task_of r).deed.Replies (Tuple Whole (task_of r).deed.writes)
  meets_of r = comes_to (place_of list (names r)) (task_of r)

  -- one call after another: each with its answer, and what all buffers hold at the end
  abbrev pub run_all : List Request → Store → Ended Request (local.Reply task_of) Store
  run_all = local.run_all list task_of
