-- `list_shifts::combined_ds_shift_in` meets its contract. Written by tools/surface. Assumes nothing.
use native.Mathlib.Nat.{le_refl}
use mathlib.Core.Path.{refl}
use mathlib.Core.List.{[], ◌∷◌}
use Rattle.answers.specs.Outcome.{◌⨾◌}
use Rattle.conelist.proofs.Placed.{lent}
use Rattle.conecalls.proofs.Ranges.{cuts_fit}
use Rattle.conecalls.proofs.Return.{backs}
use Rattle.list_shifts.specs.Shift.{combined_ds_shift_unmarked}
use Rattle.list_shifts.proofs.combined_ds_shift_in.Goals as goal

pub kind_combined_ds_shift-requires : goal.kind_combined_ds_shift-requires
kind_combined_ds_shift-requires c =
    let a = c.args in
    let same = c.requires.same in
    cuts_fit a.p _ c.requires.here c.dim.ensures (le_refl _) a.shift.now (a.step_z.now ∷ a.step_s.now ∷ a.w.now ∷ []) same.0 (same.1.0, (same.1.1.0, (same.1.1.1.0, tt)))

pub returns : goal.returns
returns c =
    let long = c.dim.ensures in
    let a = c.args in
    backs a.p long refl (combined_ds_shift_unmarked a.sigma_mu).writes (a.shift.now ⨾ a.step_z.now ⨾ a.step_s.now ⨾ tt)
    (simp (lent long) at c.kind_combined_ds_shift.ensures)
