-- `list_shifts::scaled_unit_shift_in` meets its contract. Written by tools/surface. Assumes nothing.
use mathlib.Core.Path.{refl}
use mathlib.Core.List.{[]}
use borrow.Author.Rules.{rules}
use Rattle.answers.specs.Outcome.{◌⨾◌}
use Rattle.answers.proofs.Laws.{and_more}
use Rattle.conelist.proofs.Placed.{lent}
use Rattle.conecalls.proofs.Ranges.{cuts_fit}
use Rattle.conecalls.proofs.Return.{backs}
use Rattle.list_shifts.specs.Shift.{scaled_unit_shift_deed}
use Rattle.list_shifts.proofs.scaled_unit_shift_in.Goals as goal

pub kind_scaled_unit_shift-requires : goal.kind_scaled_unit_shift-requires
kind_scaled_unit_shift-requires c =
    let a = c.args in
    let same = c.requires.same in
    cuts_fit a.p _ c.requires.here c.dim.ensures (search rules) a.z.now [] same.0 tt

pub returns : goal.returns
returns c =
    let long = c.dim.ensures in
    let a = c.args in
    backs a.p long refl (scaled_unit_shift_deed a.alpha).writes (a.z.now ⨾ tt)
    (and_more (simp (lent long) at c.kind_scaled_unit_shift.ensures) refl)
