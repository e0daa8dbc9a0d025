-- Demand 3, first half: calls that each name one cone, rearranged in any way that keeps each cone's own order. Assumes nothing.
use Prim.Native.Nat.{ℕ}
use mathlib.Core.Path.{◌≡◌}
use mathlib.Core.List.{List}
use Rattle.conelist.specs.declared.Cone.{Cone}
use Rattle.conelist.specs.Layout.{place_of}
use Rattle.conecalls.specs.Deed.{Whole, given, comes_at, Keeps}
use Rattle.sequences.specs.Local.{Store, fetch}
use Rattle.sequences.specs.Rearranged.{naming, Rearranged}
use Rattle.sequences.proofs.Local as local
use Rattle.sequences.proofs.Contract.{as_contracted}
use Rattle.orders.specs.Calls.{Operation, margins, scaled_unit_shift, unit_initialization, set_identity_scaling, update_scaling, get_hs, square_hs, mul_hs, affine_ds, combined_ds_shift, ds_from_dz_offset, step_length, mul_w, mul_winv, circ_op, inv_circ_op, lambda_inv_circ_op, standing, deed_of, Request, task_of, names, meets_of, run_all}
use Rattle.list_scaling.proofs.Laws as scaled
use Rattle.orders.proofs.Lengths as lengths

-- each rule gives ranges of the right lengths
pub keeps : (c : Operation) → Keeps (deed_of c)
keeps margins = λ kind h ws f rs g. tt
keeps unit_initialization = lengths.unit_initialization
keeps set_identity_scaling = lengths.set_identity_scaling
keeps update_scaling = scaled.keeps
keeps get_hs = lengths.get_hs
keeps square_hs = λ kind h ws f rs g. tt
keeps mul_hs = lengths.mul_hs
keeps affine_ds = lengths.affine_ds
keeps ds_from_dz_offset = lengths.ds_from_dz_offset
keeps circ_op = lengths.circ_op
keeps inv_circ_op = lengths.inv_circ_op
keeps lambda_inv_circ_op = lengths.lambda_inv_circ_op
keeps standing = λ kind h ws f rs g. tt
keeps (scaled_unit_shift α) = lengths.scaled_unit_shift α
keeps (combined_ds_shift σμ) = lengths.combined_ds_shift σμ
keeps (step_length αmax) = λ kind h ws f rs g. tt
keeps (mul_w α β) = lengths.mul_w α β
keeps (mul_winv α β) = lengths.mul_winv α β

-- ---- each is what its contract says: `comes_at (place_of list k)` of its deed, of what its buffers hold

meets : (list : List Cone) (r : Request) (σ : Store)
    → let t = task_of r in
    given Whole t.deed.reads (given Whole t.deed.writes (comes_at (place_of list (names r)) t.deed) (fetch σ t.deed.writes t.writes)) (fetch σ t.deed.reads t.reads) ≡ meets_of list r σ
meets list r σ = as_contracted (place_of list (names r)) (task_of r) σ

-- ---- the theorem: for any list, any store and any sequence of calls, refused ones and cones that are not in the list included

module _ (list : List Cone) (σ : Store) where
  -- for every cone the calls that name it have the same answers, in their order; and all buffers end the same
  pub any_order : (cs ds : List Request) → Rearranged names cs ds
      → ((j : ℕ) → naming (λ t. names t.call) j (run_all list cs σ).answers ≡ naming (λ t. names t.call) j (run_all list ds σ).answers)
      × ((run_all list cs σ).store ≡ (run_all list ds σ).store)
  any_order cs ds h = local.any_order list task_of (λ r. keeps r.call) σ cs ds h
