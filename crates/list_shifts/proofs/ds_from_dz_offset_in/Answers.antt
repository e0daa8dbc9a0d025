-- `list_shifts::ds_from_dz_offset_in` meets its contract. Written by tools/surface. Assumes nothing.
use native.Mathlib.Nat.{le_refl}
use mathlib.Core.Path.{refl}
use mathlib.Core.List.{[], ◌∷◌}
use Rattle.answers.specs.Outcome.{◌⨾◌}
use Rattle.answers.proofs.Laws.{and_more}
use Rattle.conelist.proofs.Placed.{lent}
use Rattle.conecalls.proofs.Ranges.{cuts_fit}
use Rattle.conecalls.proofs.Return.{backs}
use Rattle.list_shifts.specs.Shift.{ds_from_dz_offset_unmarked}
use Rattle.list_shifts.proofs.ds_from_dz_offset_in.Goals as goal

pub kind_ds_from_dz_offset-requires : goal.kind_ds_from_dz_offset-requires
kind_ds_from_dz_offset-requires c =
    let a = c.args in
    let same = c.requires.same in
    cuts_fit a.p _ c.requires.here c.dim.ensures (le_refl _) a.out.now (a.ds.now ∷ a.z.now ∷ a.w.now ∷ a.lambda.now ∷ []) same.0 (same.1.0, (same.1.1.0, (same.1.1.1.0, (same.1.1.1.1.0, tt))))

pub returns : goal.returns
returns c =
    let long = c.dim.ensures in
    let a = c.args in
    backs a.p long refl ds_from_dz_offset_unmarked.writes (a.out.now ⨾ tt)
    (and_more (simp (lent long) at c.kind_ds_from_dz_offset.ensures) refl)
